-- What becomes of a question is told by a reply.
use Rattle.std.proofs.Common.{◌≡◌, ◌≢◌, ℕ, ℤ, ◌^◌, ◌<◌, ◌≤◌, List, [], refl, sym, ◌∙◌, ap, subst}
use Rattle.std.specs.Prelude.{neg_ℤ, unsigned_abs}
use Rattle.audit_types.specs.Limits.{most_answer}
use Rattle.audit_types.specs.declared.records.Asked.{Asked}
use Rattle.audit_types.specs.declared.records.Answered.{Answered}
use Rattle.audit_types.specs.declared.records.Verdict.TheVariants.{Released, DeniedUnsafe, DeniedWide}
use Rattle.audit_types.specs.declared.shapes.Kind.{Kind}
use Rattle.audit_types.specs.Rows.{AreRows}
use Rattle.audit_types.specs.Shapes.{columns, kind_at}
use Rattle.audit_types.specs.Truth.{truth, sum_over, greatest_over}
use Rattle.audit_types.specs.History.{Protection, FitsShape, list_of}
use Rattle.audit_core.specs.declared.outcome.Outcome.{Outcome}
use Rattle.audit_core.specs.declared.outcome.Outcome.TheVariants.{Answer, Denied, Full}
use Rattle.audit_core.specs.Outcomes.{IsOutcome}
use Rattle.table_load.specs.Cells.{SecretView, IsSecret}
use Rattle.table_load.specs.Database.{secret_table}
use Rattle.line_wire.specs.Requests.{kind_for}
use Rattle.line_wire.specs.declared.reply.Reply.{Reply}
use Rattle.line_wire.specs.declared.reply.Reply.TheVariants as reply
use Rattle.line_wire.specs.declared.question.Take.{Take}
use Rattle.line_wire.specs.declared.question.Take.TheVariants.{Sum, Avg, Max, Min}
use Rattle.question_plan.specs.Replies.{Tells}
use Rattle.question_plan.specs.Plans.{CanBeTold, most_of}
use Rattle.question_plan.specs.Laws.{OutcomesCanBeTold, SomeReplyTells}
use Rattle.question_plan.proofs.Means.{some_mean}

-- how large the answers over secrets are
abbrev pub SumsAreSmall : Type 0
SumsAreSmall =
    (s : SecretView) (column : ℕ) (rows : List ℕ) → IsSecret s → column < columns s.shape → AreRows s.shape.rows rows →
    unsigned_abs (sum_over (list_of s.lists column) rows) ≤ most_answer

abbrev pub MaximaAreSmall : Type 0
MaximaAreSmall =
    (s : SecretView) (column : ℕ) (rows : List ℕ) → IsSecret s → column < columns s.shape → AreRows s.shape.rows rows → rows ≢ [] →
    unsigned_abs (greatest_over (list_of s.lists column) rows) ≤ 10 ^ 12

module _ (sums : SumsAreSmall) (maxima : MaximaAreSmall) (secret : SecretView) (is : IsSecret secret) (take : Take) (asked : Asked)
    (fits : FitsShape secret.shape asked.column asked.rows) (own_kind : kind_at secret.shape asked.column ≡ kind_for take) where
  rows_are : AreRows secret.shape.rows asked.rows.list
  rows_are = subst (λ (n : ℕ). AreRows n asked.rows.list) fits.same_n fits.are_rows

  truth_small : (t : Take) → unsigned_abs (truth (kind_for t) (list_of secret.lists asked.column) asked.rows.list) ≤ most_of t
  truth_small Sum = sums secret asked.column asked.rows.list is fits.column_below rows_are
  truth_small Avg = sums secret asked.column asked.rows.list is fits.column_below rows_are
  truth_small Max = maxima secret asked.column asked.rows.list is fits.column_below rows_are fits.some
  truth_small Min = maxima secret asked.column asked.rows.list is fits.column_below rows_are fits.some

  answer_small : (z : ℤ) → z ≡ truth (kind_at secret.shape asked.column) (list_of secret.lists asked.column) asked.rows.list → unsigned_abs z ≤ most_of take
  answer_small z is_true =
      subst (λ (y : ℤ). unsigned_abs y ≤ most_of take) (sym (is_true ∙ ap (λ (k : Kind). truth k (list_of secret.lists asked.column) asked.rows.list) own_kind))
      (truth_small take)

  can_be_told : (protected : Protection) (history : List Answered) (outcome : Outcome) → IsOutcome (secret_table secret protected) history asked outcome →
      CanBeTold take outcome
  can_be_told protected history Full due = tt
  can_be_told protected history (Denied verdict) due = due.1
  can_be_told protected history (Answer z) due = answer_small z due.2

pub outcomes_can_be_told : SumsAreSmall → MaximaAreSmall → OutcomesCanBeTold
outcomes_can_be_told sums maxima secret protected history take people asked outcome is askable due =
    can_be_told sums maxima secret is take asked askable.fits askable.own_kind protected history outcome due

-- each outcome has a reply that tells it
some_telling : (take : Take) (size : ℕ) (answer : ℤ) → 0 < size → (told : Reply) × Tells take size answer told
some_telling Sum size answer some = (reply.Sum answer, refl)
some_telling Avg size answer some = let mean = some_mean answer size some in (reply.Avg mean.0 mean.1, (mean.0, mean.1, mean.2, refl))
some_telling Max size answer some = (reply.Max answer, refl)
some_telling Min size answer some = (reply.Min (neg_ℤ answer), refl)

pub some_told : SomeReplyTells
some_told take size Full some can = (reply.Full, refl)
some_told take size (Denied Released) some can = absurd (can refl)
some_told take size (Denied DeniedUnsafe) some can = (reply.Unsafe, refl)
some_told take size (Denied DeniedWide) some can = (reply.Wide, refl)
some_told take size (Answer answer) some can = some_telling take size answer some
