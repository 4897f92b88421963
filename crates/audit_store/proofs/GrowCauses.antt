-- Why a journal doesn't grow: one cause at most holds, and none if its history goes on over all rows.
use Rattle.std.proofs.Common.{◌≡◌, ℕ, ◌<◌, inl, inr, List, sym, ap, subst, ◌∙◌, arith}
use Rattle.audit_types.specs.declared.shapes.Shape.{Shape}
use Rattle.audit_types.specs.declared.records.Answered.{Answered}
use Rattle.audit_types.specs.Widening.{over, widened}
use Rattle.audit_types.specs.History.{Table, IsLegal}
use Rattle.journal_form.specs.Journal.{StandsAt, StandsFor}
use Rattle.bench_core.specs.Ends.{IsDueUnlessStopped, IsStop, refused_as}
use Rattle.bench_core.specs.EndLaws.{renamed_due, renamed_stopped, stopped_is_due}
use Rattle.bench_core.specs.declared.stops.End.{End}
use Rattle.answer_journal.specs.Refusals.{ReadCause}
use Rattle.answer_journal.specs.declared.refusals.JournalRefusal.{JournalRefusal}
use Rattle.answer_journal.specs.declared.refusals.JournalRefusal.TheVariants.{NotMade, Damaged, OtherShape, Untrue, Illegal}
use Rattle.audit_store.specs.declared.growing.GrowRefusal.{GrowRefusal}
use Rattle.audit_store.specs.declared.growing.GrowRefusal.TheVariants.{Journal, NothingNew}
use Rattle.audit_store.specs.Starting.{IsFirstUntrue, stated_answer, IsFirstIllegal}
use Rattle.audit_store.specs.Growing.{CantGrow, CanGrow, GrowCause, GrowHistoryCause, GrowsFrom, IsFewer}
use Rattle.audit_store.proofs.Causes.{untrue_once, illegal_once, untrue_or_illegal}

-- why the journal isn't read back is why it doesn't grow
pub grow_cause_of_reading : (file : List ℕ) (table : Table) (refusal : JournalRefusal) → ReadCause refusal file → GrowCause (Journal refusal) file table
grow_cause_of_reading file table NotMade cause = cause
grow_cause_of_reading file table (Damaged at) cause = cause
grow_cause_of_reading file table (OtherShape kept now) cause = absurd cause
grow_cause_of_reading file table (Untrue place kept now) cause = absurd cause
grow_cause_of_reading file table (Illegal place group) cause = absurd cause

-- a reading that the outside ended ended the growth
gave_up : (end : End JournalRefusal) (due : GrowRefusal) → IsStop end → IsDueUnlessStopped due (refused_as Journal end)
gave_up end due stopped = stopped_is_due (refused_as Journal end) due (renamed_stopped Journal end stopped)

-- a history over fewer rows in the file
pub fewer_in_file : (file : List ℕ) (shape : Shape) (history : List Answered) (gate : ℕ) (table : Table) → StandsAt file shape history gate →
    IsFewer shape table →
    StandsFor file (over shape.rows table.setting.shape) history
fewer_in_file file shape history gate table stands fewer = (gate, subst (λ (s : Shape). StandsAt file s history gate) fewer.columns stands)

-- the cause in a history is a cause in each file that stands for it
pub grow_cause_in_file : (file : List ℕ) (shape : Shape) (history : List Answered) (gate : ℕ) (table : Table) (refusal : GrowRefusal) →
    StandsAt file shape history gate → GrowHistoryCause refusal shape history table → GrowCause refusal file table
grow_cause_in_file file shape history gate table (Journal NotMade) stands cause = absurd cause
grow_cause_in_file file shape history gate table (Journal (Damaged at)) stands cause = absurd cause
grow_cause_in_file file shape history gate table (Journal (OtherShape kept now)) stands cause =
    (history, (gate, subst (λ (s : Shape). StandsAt file s history gate) (sym cause.0) stands), (cause.1, cause.2))
grow_cause_in_file file shape history gate table (NothingNew rows) stands cause =
    (history, (gate, subst (λ (s : Shape). StandsAt file s history gate) cause.0 stands), cause.1)
grow_cause_in_file file shape history gate table (Journal (Untrue place kept now)) stands cause = record {
  rows = shape.rows;
  history = history;
  fewer = cause.0.fewer;
  stands = fewer_in_file file shape history gate table stands cause.0;
  has = cause.1;
}
grow_cause_in_file file shape history gate table (Journal (Illegal place group)) stands cause = record {
  rows = shape.rows;
  history = history;
  fewer = cause.0.fewer;
  stands = fewer_in_file file shape history gate table stands cause.0;
  has = cause.1;
}

-- and it can grow if its history goes on
abbrev pub can_grow : (file : List ℕ) (shape : Shape) (history : List Answered) (gate : ℕ) (table : Table) → StandsAt file shape history gate →
    GrowsFrom shape history table → CanGrow file table
can_grow file shape history gate table stands grows = record {
  rows = shape.rows;
  history = history;
  fewer = grows.fewer.fewer;
  stands = fewer_in_file file shape history gate table stands grows.fewer;
  has = grows.legal;
}

module _ (shape : Shape) (history : List Answered) (table : Table) where
  same_and_fewer : shape ≡ table.setting.shape → IsFewer shape table → ⊥
  same_and_fewer same fewer = omega (arith, ap (λ (s : Shape). s.rows) same, fewer.fewer)

  cant_and_fewer : (kept : Shape) → kept ≡ shape → CantGrow kept table.setting.shape → IsFewer shape table → ⊥
  cant_and_fewer kept is (inl other) fewer = other (ap (λ (s : Shape). s.kinds) (is ∙ fewer.columns))
  cant_and_fewer kept is (inr more) fewer = omega (arith, ap (λ (s : Shape). s.rows) is, more, fewer.fewer)

  cant_and_same : (kept : Shape) → kept ≡ shape → CantGrow kept table.setting.shape → shape ≡ table.setting.shape → ⊥
  cant_and_same kept is (inl other) same = other (ap (λ (s : Shape). s.kinds) (is ∙ same))
  cant_and_same kept is (inr more) same = omega (arith, ap (λ (s : Shape). s.rows) (is ∙ same), more)

  cant : (kept now : Shape) → now ≡ table.setting.shape → CantGrow kept now → CantGrow kept table.setting.shape
  cant kept now is can = subst (λ (s : Shape). CantGrow kept s) is can

  -- one cause at most holds of a history
  pub one_grow_cause : (due refusal : GrowRefusal) → GrowHistoryCause due shape history table → GrowHistoryCause refusal shape history table → refusal ≡ due
  one_grow_cause (Journal NotMade) refusal cause other = absurd cause
  one_grow_cause (Journal (Damaged at)) refusal cause other = absurd cause
  one_grow_cause due (Journal NotMade) cause other = absurd other
  one_grow_cause due (Journal (Damaged at)) cause other = absurd other
  one_grow_cause (Journal (OtherShape kept now)) (Journal (OtherShape k n)) cause other =
      ap (λ (s : Shape). Journal (OtherShape s n)) (other.0 ∙ sym cause.0) ∙ ap (λ (s : Shape). Journal (OtherShape kept s)) (other.1 ∙ sym cause.1)
  one_grow_cause (Journal (OtherShape kept now)) (NothingNew rows) cause other = absurd (cant_and_same kept cause.0 (cant kept now cause.1 cause.2) other.0)
  one_grow_cause (Journal (OtherShape kept now)) (Journal (Untrue b k n)) cause other =
      absurd (cant_and_fewer kept cause.0 (cant kept now cause.1 cause.2) other.0)
  one_grow_cause (Journal (OtherShape kept now)) (Journal (Illegal b g)) cause other =
      absurd (cant_and_fewer kept cause.0 (cant kept now cause.1 cause.2) other.0)
  one_grow_cause (NothingNew rows) (Journal (OtherShape k n)) cause other = absurd (cant_and_same k other.0 (cant k n other.1 other.2) cause.0)
  one_grow_cause (NothingNew rows) (NothingNew more) cause other = ap (λ (r : ℕ). NothingNew r) (other.1 ∙ sym cause.1)
  one_grow_cause (NothingNew rows) (Journal (Untrue b k n)) cause other = absurd (same_and_fewer cause.0 other.0)
  one_grow_cause (NothingNew rows) (Journal (Illegal b g)) cause other = absurd (same_and_fewer cause.0 other.0)
  one_grow_cause (Journal (Untrue a kept now)) (Journal (OtherShape k n)) cause other =
      absurd (cant_and_fewer k other.0 (cant k n other.1 other.2) cause.0)
  one_grow_cause (Journal (Untrue a kept now)) (NothingNew rows) cause other = absurd (same_and_fewer other.0 cause.0)
  one_grow_cause (Journal (Untrue a kept now)) (Journal (Untrue b k n)) cause other =
      ap Journal (untrue_once table (widened table.setting.shape.rows history) a b kept now k n cause.1 other.1)
  one_grow_cause (Journal (Untrue a kept now)) (Journal (Illegal b g)) cause other =
      absurd (untrue_or_illegal table (widened table.setting.shape.rows history) a b g kept now cause.1 other.1)
  one_grow_cause (Journal (Illegal a g)) (Journal (OtherShape k n)) cause other =
      absurd (cant_and_fewer k other.0 (cant k n other.1 other.2) cause.0)
  one_grow_cause (Journal (Illegal a g)) (NothingNew rows) cause other = absurd (same_and_fewer other.0 cause.0)
  one_grow_cause (Journal (Illegal a g)) (Journal (Untrue b k n)) cause other =
      absurd (untrue_or_illegal table (widened table.setting.shape.rows history) b a g k n other.1 cause.1)
  one_grow_cause (Journal (Illegal a g)) (Journal (Illegal b h)) cause other =
      ap Journal (illegal_once table (widened table.setting.shape.rows history) a b g h cause.1 other.1)

  -- if the history goes on there is none
  pub grows_has_no_cause : (refusal : GrowRefusal) → GrowsFrom shape history table → GrowHistoryCause refusal shape history table → ⊥
  grows_has_no_cause (Journal NotMade) grows cause = cause
  grows_has_no_cause (Journal (Damaged at)) grows cause = cause
  grows_has_no_cause (Journal (OtherShape kept now)) grows cause = cant_and_fewer kept cause.0 (cant kept now cause.1 cause.2) grows.fewer
  grows_has_no_cause (NothingNew rows) grows cause = same_and_fewer cause.0 grows.fewer
  grows_has_no_cause (Journal (Untrue place kept now)) grows cause =
      let first = cause.1 in
      let is_true = (grows.legal.each place first.at first.stands).true_answer in
      first.differ (first.kept_is ∙ ap (stated_answer table first.at) is_true ∙ sym first.now_is)
  grows_has_no_cause (Journal (Illegal place group)) grows cause =
      let first = cause.1 in first.denied (grows.legal.each place first.at first.stands).released

module _ (file : List ℕ) (table : Table) where
  -- if the journal wasn't read back, what is due is due of the reading
  pub grow_due_of_reading : (end : End JournalRefusal) (due : GrowRefusal)
      → ((refusal : JournalRefusal) → ReadCause refusal file → IsDueUnlessStopped refusal end)
      → ((shape : Shape) (history : List Answered) (gate : ℕ) → StandsAt file shape history gate → IsStop end) →
      GrowCause due file table → IsDueUnlessStopped due (refused_as Journal end)
  grow_due_of_reading end (Journal NotMade) read whole cause = renamed_due Journal end NotMade (read NotMade cause)
  grow_due_of_reading end (Journal (Damaged at)) read whole cause = renamed_due Journal end (Damaged at) (read (Damaged at) cause)
  grow_due_of_reading end (Journal (OtherShape kept now)) read whole cause = gave_up end _ (whole kept cause.0 cause.1.0 cause.1.1)
  grow_due_of_reading end (NothingNew rows) read whole cause = gave_up end _ (whole table.setting.shape cause.0 cause.1.0 cause.1.1)
  grow_due_of_reading end (Journal (Untrue place kept now)) read whole cause =
      gave_up end _ (whole (over cause.rows table.setting.shape) cause.history cause.stands.0 cause.stands.1)
  grow_due_of_reading end (Journal (Illegal place group)) read whole cause =
      gave_up end _ (whole (over cause.rows table.setting.shape) cause.history cause.stands.0 cause.stands.1)

  module _ (shape : Shape) (history : List Answered)
      (once : (other : Shape) (others : List Answered) (gate : ℕ) → StandsAt file other others gate → (shape ≡ other) × (history ≡ others)) where
    -- a history over fewer rows is the one that was read
    fewer_is_read : (rows : ℕ) (others : List Answered) → rows < table.setting.shape.rows → StandsFor file (over rows table.setting.shape) others →
        IsFewer shape table × (history ≡ others)
    fewer_is_read rows others fewer stands =
        let same = once (over rows table.setting.shape) others stands.0 stands.1 in
        let so_many : shape.rows ≡ rows = ap (λ (s : Shape). s.rows) same.0 in (
          record { columns = same.0 ∙ ap (λ k. over k table.setting.shape) (sym so_many); fewer = omega (arith, so_many, fewer) },
          same.1,
        )

    pub grows_from : CanGrow file table → GrowsFrom shape history table
    grows_from can =
        let read = fewer_is_read can.rows can.history can.fewer can.stands in
        record { fewer = read.0; legal = subst (λ (h : List Answered). IsLegal table (widened table.setting.shape.rows h)) (sym read.1) can.has }

    -- if it was, the cause lies in its history
    pub grow_due_of_history : (due : GrowRefusal) → ((refusal : JournalRefusal) → ReadCause refusal file → ⊥) → GrowCause due file table →
        GrowHistoryCause due shape history table
    grow_due_of_history (Journal NotMade) read cause = read NotMade cause
    grow_due_of_history (Journal (Damaged at)) read cause = read (Damaged at) cause
    grow_due_of_history (Journal (OtherShape kept now)) read cause =
        let same = once kept cause.0 cause.1.0 cause.1.1 in (sym same.0, cause.2.0, cause.2.1)
    grow_due_of_history (NothingNew rows) read cause =
        let same = once table.setting.shape cause.0 cause.1.0 cause.1.1 in (same.0, cause.2)
    grow_due_of_history (Journal (Untrue place kept now)) read cause =
        let found = fewer_is_read cause.rows cause.history cause.fewer cause.stands in
        (found.0, subst (λ (h : List Answered). IsFirstUntrue table (widened table.setting.shape.rows h) place kept now) (sym found.1) cause.has)
    grow_due_of_history (Journal (Illegal place group)) read cause =
        let found = fewer_is_read cause.rows cause.history cause.fewer cause.stands in
        (found.0, subst (λ (h : List Answered). IsFirstIllegal table (widened table.setting.shape.rows h) place group) (sym found.1) cause.has)
