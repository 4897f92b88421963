use Rattle.std.proofs.Common.{◌≡◌, ◌∙◌, ◌++◌, Err, List, ℕ, true, false, All, length, take, refl, sym, ap, subst, append-nil}
use Rattle.std.specs.Prelude.{IfErr, IsErrOf}
use Rattle.std.proofs.lemmas.Result.{IfOk-from_err}
use Rattle.audit_types.specs.declared.records.Answered.{Answered}
use Rattle.audit_types.specs.declared.shapes.Shape.{Shape}
use Rattle.audit_types.specs.History.{FitsShape, IsLegal, Setting, Table}
use Rattle.audit_core.specs.Audited.{Audited}
use Rattle.table_load.specs.Cells.{SecretView}
use Rattle.bench_core.specs.Calls.{LeavesOnly}
use Rattle.bench_core.specs.Reports.{is_refusal, not_called, of_refusal, passed_on, told_as}
use Rattle.bench_core.specs.Stops.{IsOfBench}
use Rattle.journal_form.specs.Journal.{StandsAt}
use Rattle.bench_core.specs.declared.stops.Stop.TheVariants as stop
use Rattle.audit_store.specs.Refusals.{no_refusal}
use Rattle.audit_store.specs.Stores.{StoreContents, IsStore, IsAuditedBy, table_of, table_by}
use Rattle.audit_store.specs.StoreLaws.{core_is_history, kept_store, more_released, refused_history, refused_store, store_in}
use Rattle.audit_store.specs.Twice.{IsBroughtUp, StandsWithSome}
use Rattle.audit_store.proofs.LegalHistories.{legal_fits_after}
use Rattle.audit_store.proofs.Appended.{nothing_brought_up}
use Rattle.audit_store.proofs.store.Store.bring_up.Goals as goal

pub invariant_of-self : goal.invariant_of-self
invariant_of-self g c =
    let i = c.self.inside in
    let usable : i.usable ≡ true = ap (λ (s : StoreContents). s.usable) c.self.view_is ∙ c.requires.usable in
    let took = c.take_all.ensures in
    let new = c.take_all.new.sealed.core in
    let holds = λ (secret : SecretView). IsStore (store_in secret new i.released i.journal false)
    × IsAuditedBy (table_by secret new) new i.released false in
    subst holds (sym took.secret) (refused_store i.sealed.secret i.sealed.core new i.released i.journal i.journal i.usable usable
    c.self.invariant.0 c.self.invariant.1 took.begins took.within took.setting)

pub invariant_of-self-in_err-bring_up : goal.invariant_of-self-in_err-bring_up
invariant_of-self-in_err-bring_up g c =
    let i = c.self.inside in
    let usable : i.usable ≡ true = ap (λ (s : StoreContents). s.usable) c.self.view_is ∙ c.requires.usable in
    let took = c.take_all.ensures in
    let new = c.take_all.new.sealed.core in
    let holds = λ (secret : SecretView). IsStore (store_in secret new i.released c.bring_up.new.journal false)
    × IsAuditedBy (table_by secret new) new i.released false in
    subst holds (sym took.secret) (refused_store i.sealed.secret i.sealed.core new i.released i.journal c.bring_up.new.journal i.usable usable
    c.self.invariant.0 c.self.invariant.1 took.begins took.within took.setting)

pub bring_up-requires-clause-fit : goal.bring_up-requires-clause-fit
bring_up-requires-clause-fit g c =
    let i = c.self.inside in
    let usable : i.usable ≡ true = ap (λ (s : StoreContents). s.usable) c.self.view_is ∙ c.requires.usable in
    let shape : c.args.self.now.secret.shape ≡ i.journal.shape =
    ap (λ (s : StoreContents). s.secret.shape) (sym c.self.view_is) ∙ sym (c.self.invariant.0.same_shape usable) in
    subst (λ (s : Shape). All (λ (r : Answered). FitsShape s r.column r.rows) c.args.missing.now) shape
    (legal_fits_after (table_of c.args.self.now) c.args.self.now.history c.args.missing.now c.requires.legal)

pub invariant_of-self-2 : goal.invariant_of-self-2
invariant_of-self-2 g c =
    let i = c.self.inside in
    let store = c.args.self.now in
    let missing = c.args.missing.now in
    let usable : i.usable ≡ true = ap (λ (s : StoreContents). s.usable) c.self.view_is ∙ c.requires.usable in
    let old = i.sealed.core in
    let new = c.take_all.new.sealed.core in
    let table = table_by i.sealed.secret old in
    let took : new.history ≡ old.history ++ missing = c.in_ok-take_all.ensures.history in
    let all : old.history ≡ store.history =
    core_is_history table old i.released i.usable store.history c.self.invariant.1 usable (ap (λ (s : StoreContents). s.history) c.self.view_is) in
    let legal : IsLegal table new.history =
    subst (λ (h : List Answered). IsLegal table h) (ap (λ (h : List Answered). h ++ missing) (sym all) ∙ sym took)
    (subst (λ (t : Table). IsLegal t (store.history ++ missing)) (ap table_of (sym c.self.view_is)) c.requires.legal) in
    let kept = c.in_ok-bring_up.ensures in
    let now = length c.history.result.now in
    let holds = λ (secret : SecretView). IsStore (store_in secret new now c.bring_up.new.journal true) × IsAuditedBy (table_by secret new) new now true in
    subst holds (sym c.take_all.ensures.secret)
    (kept_store i.sealed.secret old new i.released (length c.history.result.now) i.journal c.bring_up.new.journal i.usable missing missing usable
    c.self.invariant.0 c.self.invariant.1 took c.take_all.ensures.setting legal
    (ap length (c.history.ensures.is ∙ ap (λ (a : Audited). a.history) c.core.ensures)) refl kept.usable
    c.bring_up.ensures.shape kept.counted)

-- ---- memory ran out

pub returns-in_err-take_all : goal.returns-in_err-take_all
returns-in_err-take_all g c =
    let i = c.self.inside in
    let store = c.args.self.now in
    let usable : i.usable ≡ true = ap (λ (s : StoreContents). s.usable) c.self.view_is ∙ c.requires.usable in
    record {
      history = IfOk-from_err _ _ c.from_residual.ensures.0;
      stands = λ told. IfOk-from_err _ _ c.from_residual.ensures.0;
      usable = IfOk-from_err _ _ c.from_residual.ensures.0;
      kept =
          refused_history c.from_residual.result i.sealed.core.history c.take_all.new.sealed.core.history store.history i.released
          (c.self.invariant.1.all usable) c.take_all.ensures.begins (ap (λ (s : StoreContents). s.history) c.self.view_is);
      secret = c.take_all.ensures.secret ∙ ap (λ (s : StoreContents). s.secret) c.self.view_is;
      protected = ap (λ (s : Setting). s.protected) c.take_all.ensures.setting ∙ ap (λ (s : StoreContents). s.protected) c.self.view_is;
      is = (invariant_of-self g c).0;
      any_moment = λ told quiet.
          nothing_brought_up g.B.Bench c.args.missing.now c.args.bench.now store.secret.shape store.history store.journal.gate
          (λ image sent was. g.met.B.Bench.only_now c.args.bench.now image sent was) quiet (c.requires.stands told);
      no_memory = λ told is. (
        0,
        (
          store.journal.gate,
          subst (λ (h : List Answered). StandsAt (g.B.Bench.file c.args.bench.now) store.secret.shape h store.journal.gate)
              (sym (append-nil store.history)) (c.requires.stands told),
        ),
      );
      quiet = λ told quiet other. quiet;
      sent = refl;
      ticks = λ told. IfOk-from_err _ _ c.from_residual.ensures.0;
      fault =
          let same = is_refusal c.from_residual.result stop.NoMemory c.from_residual.ensures in
          not_called g.B.Bench c.args.bench.now (IsErrOf c.from_residual.result stop.Bench) (λ is. let none : ⊥ = cc in none);
      ends = of_refusal c.from_residual.result stop.NoMemory c.from_residual.ensures (λ r. IfErr r IsOfBench) tt;
    }

-- ---- the records were not appended

pub returns-in_err-bring_up : goal.returns-in_err-bring_up
returns-in_err-bring_up g c =
    let i = c.self.inside in
    let store = c.args.self.now in
    let usable : i.usable ≡ true = ap (λ (s : StoreContents). s.usable) c.self.view_is ∙ c.requires.usable in
    let journal = i.journal in
    let file = g.B.Bench.file c.args.bench.now in
    let shape : journal.shape ≡ store.secret.shape = c.self.invariant.0.same_shape usable ∙ ap (λ (s : StoreContents). s.secret.shape) c.self.view_is in
    let many : length store.history ≡ journal.count =
    sym (c.self.invariant.0.counted usable ∙ ap (λ (s : StoreContents). length s.history) c.self.view_is) in
    let here : g.B.Bench.told → StandsAt file journal.shape store.history journal.gate = λ told.
    subst (λ (s : Shape). StandsAt file s store.history journal.gate) (sym shape)
    (subst (λ (n : ℕ). StandsAt file store.secret.shape store.history n) (ap (λ (s : StoreContents). s.journal.gate) (sym c.self.view_is))
    (c.requires.stands told)) in
    let given = c.in_err-bring_up.field-0.0 in
    let answer = c.from_residual-in_err-bring_up.result in
    let refuses = c.from_residual-in_err-bring_up.ensures in
    let same : answer ≡ Err given = is_refusal answer given refuses in
    record {
      history = IfOk-from_err _ _ refuses.0;
      stands = λ told. IfOk-from_err _ _ refuses.0;
      usable = IfOk-from_err _ _ refuses.0;
      kept =
          refused_history answer i.sealed.core.history c.take_all.new.sealed.core.history store.history i.released
          (c.self.invariant.1.all usable) c.take_all.ensures.begins (ap (λ (s : StoreContents). s.history) c.self.view_is);
      secret = c.take_all.ensures.secret ∙ ap (λ (s : StoreContents). s.secret) c.self.view_is;
      protected = ap (λ (s : Setting). s.protected) c.take_all.ensures.setting ∙ ap (λ (s : StoreContents). s.protected) c.self.view_is;
      is = (invariant_of-self-in_err-bring_up g c).0;
      any_moment = λ told quiet.
          subst (λ (s : Shape). LeavesOnly g.B.Bench c.args.bench.now c.bring_up.new.bench
          (IsBroughtUp s store.history c.args.missing.now (g.B.Bench.sent c.args.bench.now))) shape
          (c.bring_up.ensures.any_moment store.history told (here told) many quiet);
      no_memory = λ told is.
          subst (λ (s : Shape). StandsWithSome s store.history c.args.missing.now (g.B.Bench.file c.bring_up.new.bench)) shape
          (c.in_err-bring_up.ensures.no_memory store.history told (here told) many cc);
      quiet = λ told quiet other. c.in_err-bring_up.ensures.quiet told quiet (λ is. other cc);
      sent = c.bring_up.ensures.sent;
      ticks = λ told. IfOk-from_err _ _ refuses.0;
      fault = passed_on g.B.Bench c.args.bench.now c.bring_up.new.bench given stop.Bench answer same c.in_err-bring_up.ensures.fault;
      ends = of_refusal answer given refuses (λ r. IfErr r IsOfBench) c.in_err-bring_up.ensures.ends;
    }

-- ---- they were

pub returns : goal.returns
returns g c =
    let i = c.self.inside in
    let store = c.args.self.now in
    let usable : i.usable ≡ true = ap (λ (s : StoreContents). s.usable) c.self.view_is ∙ c.requires.usable in
    let journal = i.journal in
    let file = g.B.Bench.file c.args.bench.now in
    let shape : journal.shape ≡ store.secret.shape = c.self.invariant.0.same_shape usable ∙ ap (λ (s : StoreContents). s.secret.shape) c.self.view_is in
    let many : length store.history ≡ journal.count =
    sym (c.self.invariant.0.counted usable ∙ ap (λ (s : StoreContents). length s.history) c.self.view_is) in
    let here : g.B.Bench.told → StandsAt file journal.shape store.history journal.gate = λ told.
    subst (λ (s : Shape). StandsAt file s store.history journal.gate) (sym shape)
    (subst (λ (n : ℕ). StandsAt file store.secret.shape store.history n) (ap (λ (s : StoreContents). s.journal.gate) (sym c.self.view_is))
    (c.requires.stands told)) in
    let now = take (length c.history.result.now) c.take_all.new.sealed.core.history in
    let now_is =
    more_released i.sealed.core.history c.take_all.new.sealed.core.history store.history c.args.missing.now i.released (length c.history.result.now)
    (c.self.invariant.1.all usable) c.in_ok-take_all.ensures.history
    (ap (λ (l : List Answered). length l) (c.history.ensures.is ∙ ap (λ (a : Audited). a.history) c.core.ensures))
    (ap (λ (s : StoreContents). s.history) c.self.view_is) in
    let secret = c.take_all.new.sealed.secret in
    let over : store.secret.shape ≡ secret.shape =
    ap (λ (s : StoreContents). s.secret.shape) (sym c.self.view_is) ∙ ap (λ (s : SecretView). s.shape) (sym c.take_all.ensures.secret) in
    record {
      history = now_is;
      stands = λ told.
          let after = g.B.Bench.file c.bring_up.new.bench in
          let gate = c.bring_up.new.journal.gate in
          subst (λ (h : List Answered). StandsAt after secret.shape h gate) (sym now_is)
          (subst (λ (s : Shape). StandsAt after s (store.history ++ c.args.missing.now) gate) (c.bring_up.ensures.shape ∙ shape ∙ over)
          (c.in_ok-bring_up.ensures.done store.history told (here told) many));
      usable = refl;
      kept = tt;
      secret = c.take_all.ensures.secret ∙ ap (λ (s : StoreContents). s.secret) c.self.view_is;
      protected = ap (λ (s : Setting). s.protected) c.take_all.ensures.setting ∙ ap (λ (s : StoreContents). s.protected) c.self.view_is;
      is = (invariant_of-self-2 g c).0;
      any_moment = λ told quiet.
          subst (λ (s : Shape). LeavesOnly g.B.Bench c.args.bench.now c.bring_up.new.bench
          (IsBroughtUp s store.history c.args.missing.now (g.B.Bench.sent c.args.bench.now))) shape
          (c.bring_up.ensures.any_moment store.history told (here told) many quiet);
      no_memory = λ told is. no_refusal _ _ is;
      quiet = λ told quiet other. c.in_ok-bring_up.ensures.quiet told quiet (λ is. no_refusal _ _ is);
      sent = c.bring_up.ensures.sent;
      ticks = λ told. c.in_ok-bring_up.ensures.ticks told;
      fault =
          told_as g.B.Bench c.args.bench.now c.bring_up.new.bench _ _ (λ is. no_refusal _ _ is) (λ is. no_refusal _ _ is)
          c.in_ok-bring_up.ensures.fault;
      ends = tt;
    }
