use Rattle.std.proofs.Common.{rules, ◌≡◌, sym, ap, subst, ◌∙◌}
use Rattle.std.specs.Prelude.{IfErr}
use Rattle.std.proofs.lemmas.Result.{IfOk-from_err}
use Rattle.audit_types.specs.declared.shapes.Shape.{Shape}
use Rattle.audit_types.specs.History.{Table, AreProtected, IsLegal}
use Rattle.audit_core.specs.Audited.{Audited}
use Rattle.bench_core.specs.Reports.{of_refusal}
use Rattle.bench_core.specs.Ends.{DoneUnlessStopped, EndsBy, RefusedUnlessStopped}
use Rattle.bench_core.specs.EndLaws.{due_of_one, stopped_of_none}
use Rattle.bench_core.specs.Stops.{IsOfMemory}
use Rattle.table_load.specs.Cells.{IsSecret, SecretView}
use Rattle.table_load.specs.Database.{secret_table}
use Rattle.audit_store.specs.Starting.{HistoryCause, IsSealed}
use Rattle.audit_store.specs.Stores.{secrets_of}
use Rattle.audit_store.proofs.Causes.{legal_has_no_cause, one_cause}
use Rattle.audit_store.proofs.starting.opened.Goals as goal

-- ---- its history isn't that of the table

pub returns-in_err-core : goal.returns-in_err-core
returns-in_err-core c =
    let table = c.args.guarded in
    let kept = c.args.kept.now in
    let list = c.args.list.now in
    let end = c.in_err-core.field-0.0 in
    let answer = c.from_residual.result in
    let refuses = c.from_residual.ensures in
    let shape : table.setting.shape ≡ kept = search rules in
    let found = subst (λ (s : Shape). EndsBy IsOfMemory (λ refusal. HistoryCause refusal s list table) end) shape
    (subst (λ (t : Table). EndsBy IsOfMemory (λ refusal. HistoryCause refusal t.setting.shape list t) end) c.apart-secret.ensures.table
    c.in_err-core.ensures.err) in
    record {
      ok = IfOk-from_err _ _ refuses.0;
      same = IfOk-from_err _ _ refuses.0;
      err = of_refusal answer end refuses (λ r. IfErr r (EndsBy IsOfMemory (λ refusal. HistoryCause refusal kept list table))) found;
      due = λ due cause.
          of_refusal answer end refuses (RefusedUnlessStopped due)
          (due_of_one end IsOfMemory _ due (λ refusal other. one_cause kept list table due refusal cause other) found);
      opens = λ same legal.
          of_refusal answer end refuses DoneUnlessStopped
          (stopped_of_none end IsOfMemory _ (λ refusal cause. legal_has_no_cause kept list table refusal same legal cause) found);
    }

-- ---- it is

pub returns : goal.returns
returns c =
    let table = c.args.guarded in
    let kept = c.args.kept.now in
    let list = c.args.list.now in
    let core = c.in_ok-core.core in
    let core_is = c.in_ok-core.ensures.ok.0 in
    let is_table = c.apart-secret.ensures.table in
    let same : kept ≡ table.setting.shape = search rules in
    let legal : IsLegal table list = subst (λ (t : Table). IsLegal t list) is_table c.in_ok-core.ensures.ok.1 in
    let same_setting : core.setting ≡ table.setting = ap (λ (a : Audited). a.setting) core_is ∙ ap (λ (t : Table). t.setting) is_table in
    let secret = c.apart-secret.result.0 in
    let sealed : IsSealed table list secret core = record {
      numbers = subst (λ (t : Table). IsSecret (secrets_of t)) (sym is_table) c.shape-now.ensures.is;
      fit = subst (λ (t : Table). AreProtected t.setting.shape t.setting.protected) is_table c.apart-secret.ensures.fit;
      same_table = ap (λ (a : Audited). secret_table secret a.setting.protected) core_is ∙ is_table;
      same_setting = same_setting;
      same_history = ap (λ (a : Audited). a.history) core_is;
      legal = legal;
    } in
    record {
      ok = subst (λ (s : SecretView). IsSealed table list s c.new.result.core) (sym c.new.ensures.secret)
          (subst (λ (a : Audited). IsSealed table list secret a) (sym c.new.ensures.core) sealed);
      same = same;
      err = tt;
      due = λ due cause. legal_has_no_cause kept list table due same legal cause;
      opens = λ same legal. tt;
    }
