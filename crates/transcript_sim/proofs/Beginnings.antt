-- A transcript begins with one history, and a journal that gives one is never refused.
use Rattle.std.proofs.Common.{◌≡◌, ℕ, List, Result, Ok, Err, IfErr, refl, sym, ◌∙◌, subst, inl, inr}
use Rattle.audit_types.specs.declared.records.Answered.{Answered}
use Rattle.audit_types.specs.declared.shapes.Shape.{Shape}
use Rattle.audit_types.specs.History.{Setting}
use Rattle.audit_core.specs.Released.{WereReleased}
use Rattle.answer_journal.specs.MadeFiles.{stands_is_made}
use Rattle.answer_journal.specs.Refusals.{IsOfReading, ReadCause}
use Rattle.answer_journal.specs.declared.refusals.JournalRefusal.{JournalRefusal}
use Rattle.answer_journal.specs.declared.refusals.JournalRefusal.TheVariants.{NotMade, Damaged, OtherShape, Illegal}
use Rattle.bench_core.specs.Ends.{EndsBy}
use Rattle.bench_core.specs.Stops.{IsOfBench, IsOfMemory, of_bench}
use Rattle.bench_core.specs.declared.stops.End.{End}
use Rattle.bench_core.specs.declared.stops.End.TheVariants.{Stopped, Refused}
use Rattle.journal_form.specs.Journal.{StandsAt, BreaksAt}
use Rattle.transcript_sim.specs.Beginning.{BeginsWith, HistoryCause, IsOfBeginning, UnbegunCause}

-- a file is read in one way
abbrev pub OneReading : Type 0
OneReading =
    (file : List ℕ) (shape other : Shape) (history others : List Answered) (gate place : ℕ) → StandsAt file shape history gate → StandsAt file other
    others place →
    (shape ≡ other) × (history ≡ others) × (gate ≡ place)

-- no byte breaks a journal
abbrev pub NoBreak : Type 0
NoBreak = (file : List ℕ) (shape : Shape) (history : List Answered) (gate at : ℕ) → StandsAt file shape history gate → BreaksAt file at → ⊥

module _ (one : OneReading) (file : List ℕ) (setting : Setting) where
  pub one_beginning : (history others : List Answered) → BeginsWith file setting history → BeginsWith file setting others → history ≡ others
  one_beginning history others (inl none) (inl empty) = none.1 ∙ sym empty.1
  one_beginning history others (inl none) (inr stands) = absurd (none.0 (stands_is_made file setting.shape others stands.0))
  one_beginning history others (inr stands) (inl none) = absurd (none.0 (stands_is_made file setting.shape history stands.0))
  one_beginning history others (inr first) (inr second) = (one file setting.shape setting.shape history others first.0.0 second.0.0 first.0.1 second.0.1).1

  module _ (whole : NoBreak) (history : List Answered) where
    pub never_refused : BeginsWith file setting history → (why : JournalRefusal) → UnbegunCause why file setting → ⊥
    never_refused (inl none) (Damaged at) cause = none.0 cause.0
    never_refused (inr stands) (Damaged at) cause = whole file setting.shape history stands.0.0 at stands.0.1 cause.1
    never_refused (inl none) (OtherShape kept now) cause = none.0 (stands_is_made file kept cause.history cause.stands)
    never_refused (inr stands) (OtherShape kept now) cause =
        let read = one file kept setting.shape cause.history history cause.stands.0 stands.0.0 cause.stands.1 stands.0.1 in
        cause.other (read.0 ∙ sym cause.now_is)
    never_refused (inl none) (Illegal place group) cause = none.0 (stands_is_made file setting.shape cause.history cause.stands)
    never_refused (inr stands) (Illegal place group) cause =
        let read = one file setting.shape setting.shape history cause.history stands.0.0 cause.stands.0 stands.0.1 cause.stands.1 in
        let released = subst (WereReleased setting) read.1 stands.1 in
        cause.first.denied (released.each place cause.first.at cause.first.stands).released
    never_refused begins why cause = absurd cause

-- what keeps the audit from going on is one of the causes
of_history : (why : JournalRefusal) (kept : Shape) (setting : Setting) (list : List Answered) → HistoryCause why kept setting list → IsOfBeginning why
of_history (OtherShape other now) kept setting list cause = tt
of_history (Illegal place group) kept setting list cause = tt
of_history other kept setting list cause = absurd cause

-- and what keeps it from being read, if it is made
pub of_reading : (why : JournalRefusal) → (why ≡ NotMade → ⊥) → IsOfReading why → IsOfBeginning why
of_reading NotMade made is = absurd (made refl)
of_reading (Damaged at) made is = tt
of_reading other made is = absurd is

-- a journal that isn't read back is one that is damaged, or none is made
pub told_by_reading : (file : List ℕ) (setting : Setting) (why : JournalRefusal) → (why ≡ NotMade → ⊥) → ReadCause why file → UnbegunCause why file setting
told_by_reading file setting NotMade made cause = absurd (made refl)
told_by_reading file setting (Damaged at) made cause = cause
told_by_reading file setting other made cause = absurd cause

-- what is told of the history of a journal is told of its file
module _ (told : Type 0) (file : List ℕ) (setting : Setting) (kept : Shape) (list : List Answered) (gate : ℕ)
    (stands : told → StandsAt file kept list gate) where
  told_by_history : told → (why : JournalRefusal) → HistoryCause why kept setting list → UnbegunCause why file setting
  told_by_history t (OtherShape other now) cause = record {
    now_is = cause.1;
    other = cause.2;
    history = list;
    stands = (gate, subst (λ s. StandsAt file s list gate) (sym cause.0) (stands t));
  }
  told_by_history t (Illegal place group) cause =
      record { history = list; stands = (gate, subst (λ s. StandsAt file s list gate) cause.0 (stands t)); first = cause.1 }
  told_by_history t other cause = absurd cause

  pub told_by_audit : {X : Type 0} (ended : Result X (End JournalRefusal)) →
      IfErr ended (EndsBy IsOfMemory (λ why. HistoryCause why kept setting list)) →
      IfErr ended (EndsBy IsOfBench (λ why. IsOfBeginning why × (told → UnbegunCause why file setting)))
  told_by_audit (Ok core) cause = tt
  told_by_audit (Err (Stopped why)) cause = of_bench why cause
  told_by_audit (Err (Refused why)) cause = (of_history why kept setting list cause, λ t. told_by_history t why cause)
