-- Why a store isn't started: one cause at most holds, and none of a legal history.
use Rattle.std.proofs.Common.{◌≡◌, ℕ, ◌<◌, inl, inr, List, sym, ap, subst, ◌∙◌, arith}
use Rattle.std.specs.Prelude.{ℤ, Bool, true, false, Option, take, slice_get}
use Rattle.std.proofs.lemmas.Bool.{cases_lt}
use Rattle.std.proofs.lemmas.Int.{ints}
use Rattle.std.proofs.lemmas.Option.{same_Some}
use Rattle.audit_types.specs.declared.shapes.Shape.{Shape}
use Rattle.audit_types.specs.declared.records.Answered.{Answered}
use Rattle.audit_types.specs.History.{Table, IsLegal}
use Rattle.audit_types.specs.Minima.{as_it_stands}
use Rattle.journal_form.specs.Journal.{StandsAt}
use Rattle.bench_core.specs.Ends.{IsDueUnlessStopped, IsStop}
use Rattle.bench_core.specs.EndLaws.{stopped_is_due}
use Rattle.bench_core.specs.declared.stops.End.{End}
use Rattle.answer_journal.specs.Refusals.{ReadCause}
use Rattle.answer_journal.specs.declared.refusals.JournalRefusal.{JournalRefusal}
use Rattle.answer_journal.specs.declared.refusals.JournalRefusal.TheVariants.{NotMade, Damaged, OtherShape, Untrue, Illegal}
use Rattle.audit_core.specs.Blame.{Blames, IsReleasedWith, asked_in}
use Rattle.audit_core.specs.OneBlame.{one_blame}
use Rattle.audit_core.specs.Outcomes.{true_answer}
use Rattle.audit_store.specs.Starting.{IsFirstUntrue, stated_answer, IsFirstIllegal, StartCause, HistoryCause}

-- why the journal isn't read back is why the store isn't started
pub cause_of_reading : (file : List ℕ) (table : Table) (refusal : JournalRefusal) → ReadCause refusal file → StartCause refusal file table
cause_of_reading file table NotMade cause = cause
cause_of_reading file table (Damaged at) cause = cause
cause_of_reading file table (OtherShape kept now) cause = absurd cause
cause_of_reading file table (Untrue place kept now) cause = absurd cause
cause_of_reading file table (Illegal place group) cause = absurd cause

-- the cause in a history is a cause in each file that stands for it
pub cause_in_file : (file : List ℕ) (shape : Shape) (history : List Answered) (gate : ℕ) (table : Table) (refusal : JournalRefusal) →
    StandsAt file shape history gate → HistoryCause refusal shape history table → StartCause refusal file table
cause_in_file file shape history gate table NotMade stands cause = absurd cause
cause_in_file file shape history gate table (Damaged at) stands cause = absurd cause
cause_in_file file shape history gate table (OtherShape kept now) stands cause =
    (history, (gate, subst (λ s. StandsAt file s history gate) (sym cause.0) stands), (cause.1, cause.2))
cause_in_file file shape history gate table (Untrue place kept now) stands cause =
    (history, (gate, subst (λ s. StandsAt file s history gate) cause.0 stands), cause.1)
cause_in_file file shape history gate table (Illegal place group) stands cause =
    (history, (gate, subst (λ s. StandsAt file s history gate) cause.0 stands), cause.1)

-- numbers that are told alike are the same
pub same_stated : (least : Bool) (a b : ℤ) → as_it_stands least a ≡ as_it_stands least b → a ≡ b
same_stated true a b same = omega (arith, ints, same)
same_stated false a b same = same

module _ (table : Table) (history : List Answered) where
  -- of two first untrue records neither stands before the other
  untrue_not_before : (a b : ℕ) (kept now other due : ℤ) → IsFirstUntrue table history a kept now → IsFirstUntrue table history b other due → a < b → ⊥
  untrue_not_before a b kept now other due p q lt = p.differ (p.kept_is ∙ ap (stated_answer table p.at) (q.before a p.at lt p.stands) ∙ sym p.now_is)

  pub untrue_once : (a b : ℕ) (kept now other due : ℤ) → IsFirstUntrue table history a kept now → IsFirstUntrue table history b other due →
      Untrue b other due ≡ Untrue a kept now
  untrue_once a b kept now other due p q =
      let place : b ≡ a = elim (cases_lt a b) [
        | inl lt ↦ absurd (untrue_not_before a b kept now other due p q lt)
        | inr le ↦ elim (cases_lt b a) [ inl lt ↦ absurd (untrue_not_before b a other due kept now q p lt) | inr from ↦ omega arith ]
      ] in
      let same : q.at ≡ p.at = same_Some q.at p.at (sym q.stands ∙ ap (slice_get history) place ∙ p.stands) in
      let kept_same : other ≡ kept = q.kept_is ∙ ap (λ (r : Answered). stated_answer table r r.answer) same ∙ sym p.kept_is in
      let now_same : due ≡ now = q.now_is ∙ ap (λ (r : Answered). stated_answer table r (true_answer table r.column r.rows)) same ∙ sym p.now_is in
      ap (λ k. Untrue k other due) place ∙ ap (λ k. Untrue a k due) kept_same ∙ ap (λ k. Untrue a kept k) now_same

  illegal_not_before : (a b : ℕ) (g h : Option ℕ) → IsFirstIllegal table history a g → IsFirstIllegal table history b h → a < b → ⊥
  illegal_not_before a b g h p q lt = p.denied (q.before a p.at lt p.stands)

  pub illegal_once : (a b : ℕ) (g h : Option ℕ) → IsFirstIllegal table history a g → IsFirstIllegal table history b h → Illegal b h ≡ Illegal a g
  illegal_once a b g h p q =
      elim (cases_lt a b) [
        | inl lt ↦ absurd (illegal_not_before a b g h p q lt)
        | inr le ↦ elim (cases_lt b a) [
          | inl lt ↦ absurd (illegal_not_before b a h g q p lt)
          | inr from ↦ let place : b ≡ a = omega arith in
              let same : q.at ≡ p.at = same_Some q.at p.at (sym q.stands ∙ ap (slice_get history) place ∙ p.stands) in
              let blamed : Blames table.setting (take a history) (asked_in p.at) h =
              subst (λ r. Blames table.setting (take a history) (asked_in r) h) same
              (subst (λ k. Blames table.setting (take k history) (asked_in q.at) h) place q.blamed) in
              ap (λ k. Illegal k h) place ∙ ap (λ k. Illegal a k)
              (one_blame table.setting.protected.groups (IsReleasedWith table.setting (take a history) (asked_in p.at)) h g blamed p.blamed)
        ]
      ]

  pub untrue_or_illegal : (a b : ℕ) (g : Option ℕ) (kept now : ℤ) → IsFirstUntrue table history a kept now → IsFirstIllegal table history b g → ⊥
  untrue_or_illegal a b g kept now p q = p.differ (p.kept_is ∙ ap (stated_answer table p.at) (q.all_true a p.at p.stands) ∙ sym p.now_is)

module _ (shape : Shape) (history : List Answered) (table : Table) where
  other_shape : (kept now : Shape) → HistoryCause (OtherShape kept now) shape history table → shape ≡ table.setting.shape → ⊥
  other_shape kept now cause same = cause.2 (cause.0 ∙ same ∙ sym cause.1)

  -- one cause at most holds of a history
  pub one_cause : (due refusal : JournalRefusal) → HistoryCause due shape history table → HistoryCause refusal shape history table → refusal ≡ due
  one_cause NotMade refusal cause other = absurd cause
  one_cause (Damaged at) refusal cause other = absurd cause
  one_cause due NotMade cause other = absurd other
  one_cause due (Damaged at) cause other = absurd other
  one_cause (OtherShape kept now) (OtherShape k n) cause other =
      ap (λ s. OtherShape s n) (other.0 ∙ sym cause.0) ∙ ap (λ s. OtherShape kept s) (other.1 ∙ sym cause.1)
  one_cause (OtherShape kept now) (Untrue b k n) cause other = absurd (other_shape kept now cause other.0)
  one_cause (OtherShape kept now) (Illegal b g) cause other = absurd (other_shape kept now cause other.0)
  one_cause (Untrue a kept now) (OtherShape k n) cause other = absurd (other_shape k n other cause.0)
  one_cause (Untrue a kept now) (Untrue b k n) cause other = untrue_once table history a b kept now k n cause.1 other.1
  one_cause (Untrue a kept now) (Illegal b g) cause other = absurd (untrue_or_illegal table history a b g kept now cause.1 other.1)
  one_cause (Illegal a g) (OtherShape k n) cause other = absurd (other_shape k n other cause.0)
  one_cause (Illegal a g) (Untrue b k n) cause other = absurd (untrue_or_illegal table history b a g k n other.1 cause.1)
  one_cause (Illegal a g) (Illegal b h) cause other = illegal_once table history a b g h cause.1 other.1

  -- a legal history of the secrets' shape has none
  pub legal_has_no_cause : (refusal : JournalRefusal) → shape ≡ table.setting.shape → IsLegal table history → HistoryCause refusal shape history table → ⊥
  legal_has_no_cause NotMade same legal cause = cause
  legal_has_no_cause (Damaged at) same legal cause = cause
  legal_has_no_cause (OtherShape kept now) same legal cause = other_shape kept now cause same
  legal_has_no_cause (Untrue place kept now) same legal cause =
      let first = cause.1 in first.differ (first.kept_is ∙ ap (stated_answer table first.at) (legal.each place first.at first.stands).true_answer
      ∙ sym first.now_is)
  legal_has_no_cause (Illegal place group) same legal cause = let first = cause.1 in first.denied (legal.each place first.at first.stands).released

module _ (file : List ℕ) (table : Table) where
  -- if the journal wasn't read back, what is due of the start is due of the reading
  pub due_of_reading : (end : End JournalRefusal) (due : JournalRefusal)
      → ((refusal : JournalRefusal) → ReadCause refusal file → IsDueUnlessStopped refusal end)
      → ((shape : Shape) (history : List Answered) (gate : ℕ) → StandsAt file shape history gate → IsStop end) →
      StartCause due file table → IsDueUnlessStopped due end
  due_of_reading end NotMade read whole cause = read NotMade cause
  due_of_reading end (Damaged at) read whole cause = read (Damaged at) cause
  due_of_reading end (OtherShape kept now) read whole cause = stopped_is_due end _ (whole kept cause.0 cause.1.0 cause.1.1)
  due_of_reading end (Untrue place kept now) read whole cause = stopped_is_due end _ (whole table.setting.shape cause.0 cause.1.0 cause.1.1)
  due_of_reading end (Illegal place group) read whole cause = stopped_is_due end _ (whole table.setting.shape cause.0 cause.1.0 cause.1.1)

  -- if it was, the cause lies in its history
  pub due_of_history : (shape : Shape) (history : List Answered) (due : JournalRefusal) → ((refusal : JournalRefusal) → ReadCause refusal file → ⊥)
      → ((other : Shape) (others : List Answered) (gate : ℕ) → StandsAt file other others gate → (shape ≡ other) × (history ≡ others)) →
      StartCause due file table → HistoryCause due shape history table
  due_of_history shape history NotMade read once cause = read NotMade cause
  due_of_history shape history (Damaged at) read once cause = read (Damaged at) cause
  due_of_history shape history (OtherShape kept now) read once cause =
      let same = once kept cause.0 cause.1.0 cause.1.1 in (sym same.0, cause.2.0, cause.2.1)
  due_of_history shape history (Untrue place kept now) read once cause =
      let same = once table.setting.shape cause.0 cause.1.0 cause.1.1 in
      (same.0, subst (λ h. IsFirstUntrue table h place kept now) (sym same.1) cause.2)
  due_of_history shape history (Illegal place group) read once cause =
      let same = once table.setting.shape cause.0 cause.1.0 cause.1.1 in (same.0, subst (λ h. IsFirstIllegal table h place group) (sym same.1) cause.2)
