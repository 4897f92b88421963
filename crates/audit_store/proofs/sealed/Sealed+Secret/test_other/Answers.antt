use Rattle.std.proofs.Common.{◌≡◌, rules, take, sym, ap, subst, List, ◌∙◌}
use Rattle.std.proofs.Math.Seq.{take-length}
use Rattle.audit_types.specs.declared.records.Answered.{Answered}
use Rattle.audit_types.specs.declared.shapes.Shape.{Shape}
use Rattle.audit_types.specs.History.{Protection, IsLegal}
use Rattle.bench_core.specs.Reports.{of_refusal}
use Rattle.bench_core.specs.Ends.{DoneUnlessStopped, EndsBy, RefusedUnlessStopped}
use Rattle.bench_core.specs.EndLaws.{due_of_one, stopped_of_none}
use Rattle.bench_core.specs.Stops.{IsOfMemory}
use Rattle.audit_store.specs.Starting.{HistoryCause}
use Rattle.audit_store.specs.Stores.{table_by}
use Rattle.table_load.specs.Database.{secret_table}
use Rattle.audit_store.proofs.Causes.{legal_has_no_cause, one_cause}
use Rattle.audit_core.specs.LegalFronts.{legal_front}
use Rattle.audit_store.proofs.sealed.Sealed+Secret.test_other.Goals as goal

-- ---- it begins what is known

pub returns-then-agreement-list-clause-ok : goal.returns-then-agreement-list-clause-ok
returns-then-agreement-list-clause-ok c =
    let list = c.args.list.now in
    let known = c.args.self.now.core.history in
    let secret = c.args.self.now.secret in
    let table = table_by secret c.args.self.now.core in
    let whole : take c.agreement.result known ≡ list = ap (take c.agreement.result) (sym c.history.ensures.is) ∙ c.agreement.ensures.same
    ∙ ap (λ n. take n list) c.if-agreement-list.true ∙ take-length list in
    (search rules, subst (λ (h : List Answered). IsLegal table h) whole (legal_front table known c.agreement.result c.requires.legal))

pub returns-then-agreement-list-clause-due : goal.returns-then-agreement-list-clause-due
returns-then-agreement-list-clause-due c = λ due cause.
    let is = returns-then-agreement-list-clause-ok c in
    legal_has_no_cause c.args.kept.now c.args.list.now (table_by c.args.self.now.secret c.args.self.now.core) due is.0 is.1 cause

-- ---- it was tested

pub returns-in_err-audited-clause-opens : goal.returns-in_err-audited-clause-opens
returns-in_err-audited-clause-opens c = λ same legal.
    let end = c.in_err-audited.field-0.0 in
    let list = c.args.list.now in
    let secret = c.args.self.now.secret in
    let table = table_by secret c.args.self.now.core in
    let groups : c.in-Ok.protected ≡ c.args.self.now.core.setting.protected = search rules in
    let found = subst (λ (s : Shape). EndsBy IsOfMemory (λ refusal. HistoryCause refusal s list table) end) (sym same)
    (subst (λ (p : Protection). EndsBy IsOfMemory (λ refusal. HistoryCause refusal secret.shape list (secret_table secret p)) end) groups
    c.in_err-audited.ensures.err) in
    of_refusal c.from_residual.result end c.from_residual.ensures DoneUnlessStopped
    (stopped_of_none end IsOfMemory _ (λ refusal cause. legal_has_no_cause c.args.kept.now list table refusal same legal cause) found)

pub returns-in_err-audited-clause-due : goal.returns-in_err-audited-clause-due
returns-in_err-audited-clause-due c = λ due cause.
    let end = c.in_err-audited.field-0.0 in
    let list = c.args.list.now in
    let secret = c.args.self.now.secret in
    let table = table_by secret c.args.self.now.core in
    let same : c.args.kept.now ≡ c.args.self.now.secret.shape = search rules in
    let groups : c.in-Ok.protected ≡ c.args.self.now.core.setting.protected = search rules in
    let found = subst (λ (s : Shape). EndsBy IsOfMemory (λ refusal. HistoryCause refusal s list table) end) (sym same)
    (subst (λ (p : Protection). EndsBy IsOfMemory (λ refusal. HistoryCause refusal secret.shape list (secret_table secret p)) end) groups
    c.in_err-audited.ensures.err) in
    of_refusal c.from_residual.result end c.from_residual.ensures (RefusedUnlessStopped due)
    (due_of_one end IsOfMemory _ due (λ refusal other. one_cause c.args.kept.now list table due refusal cause other) found)

pub returns-clause-due : goal.returns-clause-due
returns-clause-due c = λ due cause.
    let list = c.args.list.now in
    let same : c.args.kept.now ≡ c.args.self.now.secret.shape = search rules in
    let groups : c.in-Ok.protected ≡ c.args.self.now.core.setting.protected = search rules in
    legal_has_no_cause c.args.kept.now list (table_by c.args.self.now.secret c.args.self.now.core) due same
    (subst (λ (p : Protection). IsLegal (secret_table c.args.self.now.secret p) list) groups c.in_ok-audited.ensures.ok.1) cause
