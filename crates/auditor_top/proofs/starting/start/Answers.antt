use Rattle.std.proofs.Common.{◌≡◌, List, Result, Err, sym, ap, subst, ◌∙◌}
use Rattle.std.specs.Prelude.{⊤}
use Rattle.audit_types.specs.declared.records.Answered.{Answered}
use Rattle.audit_types.specs.History.{Protection, IsLegal, Table as Guarded}
use Rattle.audit_types.specs.declared.shapes.Shape.{Shape}
use Rattle.schema_json.specs.Columns.{Column}
use Rattle.schema_json.specs.SecretShape.{shape_of}
use Rattle.table_load.specs.Cells.{PublicView, SecretView, whole}
use Rattle.table_load.specs.Database.{secret_table}
use Rattle.journal_form.specs.Journal.{StandsFor}
use Rattle.bench_core.specs.Ends.{EndsBy, IsStop}
use Rattle.bench_core.specs.EndLaws.{by_cause}
use Rattle.bench_core.specs.Reports.{told_as}
use Rattle.bench_core.specs.Stops.{IsOfBench}
use Rattle.bench_core.specs.declared.stops.End.{End}
use Rattle.bench_core.specs.declared.stops.End.TheVariants.{Stopped}
use Rattle.bench_core.specs.declared.stops.Stop.TheVariants as stop
use Rattle.answer_journal.specs.declared.refusals.JournalRefusal.{JournalRefusal}
use Rattle.audit_store.specs.Starting.{StartCause}
use Rattle.set_index.specs.Groups.{Protects}
use Rattle.set_index.specs.Indexed.{public_shape}
use Rattle.auditor_top.specs.declared.starting.NotStarted.{NotStarted}
use Rattle.auditor_top.specs.declared.starting.NotStarted.TheVariants as began
use Rattle.auditor_top.proofs.StoreRefusals.{same_journal, same_start}
use Rattle.auditor_top.proofs.starting.start.Goals as goal

-- the end of the opening is told as it is
one_end : {X : Type 0} (a b : End JournalRefusal) → ◌≡◌ {A = Result X NotStarted} (Err (began.Journal a)) (Err (began.Journal b)) → a ≡ b
one_end a b is = cc

pub returns-in-Err-start-clause-cause : goal.returns-in-Err-start-clause-cause
returns-in-Err-start-clause-cause g c = λ end is.
    let opened = c.args.opened in
    let made = c.in-Ok.ensures in
    let entries : Protection = c.in-Ok.grouped.index.protected in
    let found = c.in-Err-start.end in
    subst (λ (e : End JournalRefusal). (public : PublicView) × (protected : Protection) × (whole public ≡ opened.table.public) ×
    Protects opened.schema.columns public opened.schema.guards protected ×
    (g.B.Bench.told → EndsBy IsOfBench (λ refusal. StartCause refusal (g.B.Bench.file c.args.bench.now) (secret_table opened.table.secret protected)) e ×
    ((history : List Answered) → StandsFor (g.B.Bench.file c.args.bench.now) opened.table.secret.shape history →
    IsLegal (secret_table opened.table.secret protected) history → IsStop e))) (one_end found end is) (
      c.in-Ok.grouped.index.public,
      entries,
      made.same.1,
      c.in-Ok.ensures.entries,
      λ told. (
        subst (λ (t : Guarded). EndsBy IsOfBench (λ refusal. StartCause refusal (g.B.Bench.file c.args.bench.now) t) found)
            made.same.2 (by_cause found IsOfBench _ (λ _. ⊤) c.in-Err-start.ensures.ends (λ refusal given. c.in-Err-start.ensures.cause refusal told given)),
        λ history stands legal. c.in-Err-start.ensures.opens history told
            (subst (λ (t : Guarded). StandsFor (g.B.Bench.file c.args.bench.now) t.setting.shape history) (sym made.same.2) stands)
            (subst (λ (t : Guarded). IsLegal t history) (sym made.same.2) legal),
      ),
    )

pub returns-in-Err-start-clause-fault : goal.returns-in-Err-start-clause-fault
returns-in-Err-start-clause-fault g c =
    told_as g.B.Bench c.args.bench.now c.start.new.bench _ _ (same_start c.in-Err-start.end (Stopped stop.Bench))
    (same_journal c.in-Err-start.end (Stopped stop.Bench)) c.in-Err-start.ensures.fault

pub returns-in-Err-start-clause-ends : goal.returns-in-Err-start-clause-ends
returns-in-Err-start-clause-ends g c = λ end is.
    subst (λ (e : End JournalRefusal). EndsBy IsOfBench (λ _. ⊤) e) (one_end c.in-Err-start.end end is) c.in-Err-start.ensures.ends
