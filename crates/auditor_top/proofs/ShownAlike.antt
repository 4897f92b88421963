-- Tables that differ in their secrets alone show the same.
use Rattle.std.proofs.Common.{◌≡◌, ℕ, Option, List, sym, ◌∙◌, ap, subst}
use Rattle.std.specs.Prelude.{◌↔◌}
use Rattle.audit_types.specs.declared.records.Answered.{Answered}
use Rattle.audit_types.specs.declared.shapes.Shape.{Shape}
use Rattle.set_index.specs.Indexed.{IndexView}
use Rattle.table_load.specs.Database.{Database, AreTwins}
use Rattle.journal_audit.specs.Reports.{Audit, Reports, ReportsFront, SendsMeanwhile, subjects}
use Rattle.certificate_lines.specs.Explained.{AreExplained}
use Rattle.transcript_sim.specs.Verdicts.{AreVerdicts}
use Rattle.auditor_top.specs.declared.status.Object.TheVariants.{Bench}
use Rattle.auditor_top.specs.declared.status.Status.{Status}
use Rattle.auditor_top.specs.declared.status.Status.TheVariants.{Done, Failed, NoMemory}
use Rattle.auditor_top.specs.Commands.{SimulatesOver}
use Rattle.journal_compact.specs.Compactions.{SendsCounts}
use Rattle.auditor_top.specs.Compactions.{CompactEnds}
use Rattle.auditor_top.specs.Ends.{AuditEnds, audit_over, people_over, public_part}
use Rattle.auditor_top.specs.Shown.{AreShownAlike}

-- what is said of one thing is said of the same one
same_said : {X : Type 0} (P : X → Type 0) (a b : X) → b ≡ a → P a ↔ P b
same_said P a b same = (λ p. subst P (sym same) p, λ p. subst P same p)

-- so what is said of what is public of one table is said of what is public of one that differs in its secrets
same_public : (P : IndexView → Type 0) (base other : Database) → other ≡ record base { secret = other.secret } →
    P (public_part base) ↔ P (public_part other)
same_public P base other same = same_said (λ (d : Database). P (public_part d)) (record base { secret = other.secret }) other same

-- and of what is told of both, with as many people
same_told : (P : Audit → Option ℕ → Type 0) (base other : Database) (history : List Answered) → audit_over other history ≡ audit_over base history →
    people_over other ≡ people_over base → P (audit_over base history) (people_over base) ↔ P (audit_over other history) (people_over other)
same_told P base other history same people = (
  λ p. subst (λ a. P a (people_over other)) (sym same) (subst (λ n. P (audit_over base history) n) (sym people) p),
  λ p. subst (λ n. P (audit_over base history) n) people (subst (λ a. P a (people_over other)) same p),
)

-- a report says the same of both, by each status
same_report : (status : Status) (base other : Database) (history : List Answered) → audit_over other history ≡ audit_over base history →
    people_over other ≡ people_over base → (before after : List ℕ) →
    AuditEnds status base history before after ↔ AuditEnds status other history before after
same_report Done base other history same people before after = same_told (λ (a : Audit) (p : Option ℕ). Reports a p before after) base other history same people
same_report (Failed Bench) base other history same people before after =
    same_told (λ (a : Audit) (p : Option ℕ). ReportsFront a p before after) base other history same people
same_report NoMemory base other history same people before after =
    same_told (λ (a : Audit) (p : Option ℕ). ReportsFront a p before after) base other history same people
same_report status base other history same people before after = (λ x. x, λ x. x)

-- an audit of these columns, over this shape
abbrev an_audit : Database → Shape → List Answered → Audit
an_audit base shape history = record { schema = base.columns; shape = shape; people = base.protected.people; history = history }

pub twins_alike : (base other : Database) (history : List Answered) → AreTwins base other → AreShownAlike base other history
twins_alike base other history twins =
    let audit : audit_over other history ≡ audit_over base history =
    ap (λ (d : Database). audit_over d history) twins.0 ∙ ap (λ (s : Shape). an_audit base s history) twins.1 in
    let people : people_over other ≡ people_over base = ap people_over twins.0 in
    record {
      report = λ status before after. same_report status base other history audit people before after;
      meanwhile = λ file before image sent.
          same_told (λ (a : Audit) (p : Option ℕ). SendsMeanwhile a (subjects a.shape p) file before image sent) base other history audit people;
      certificates = λ asked lines. same_public (λ i. AreExplained i history asked lines) base other twins.0;
      compacted = λ status spare new_spare before after. same_said (λ (s : Shape). CompactEnds status s history spare new_spare before after)
          base.secret.shape other.secret.shape twins.1;
      compacting = λ file before image sent. same_said (λ (s : Shape). SendsCounts s history file before image sent) base.secret.shape other.secret.shape
          twins.1;
      files = λ schema table file begun. same_public (λ i. SimulatesOver schema table file i begun) base other twins.0;
      verdicts = λ begun lines verdicts. same_public (λ i. AreVerdicts i begun lines verdicts) base other twins.0;
    }
