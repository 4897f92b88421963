-- A lost journal that is written from a kept one: what a crash leaves, and why it isn't written.
use Rattle.std.proofs.Common.{◌≡◌, inl, ℕ, ◌+◌, List, Result, Ok, Err, refl, sym, subst, arith}
use Rattle.std.proofs.lemmas.Grind.{common_steps}
use Rattle.std.specs.Prelude.{IfErr, IsErrOf, OnOk}
use Rattle.audit_types.specs.declared.records.Answered.{Answered}
use Rattle.audit_types.specs.declared.shapes.Shape.{Shape}
use Rattle.audit_types.specs.History.{Table}
use Rattle.bench_core.specs.declared.bench.Bench.{Ghosts}
use Rattle.bench_core.specs.Calls.{IsQuiet, IsUntouched, LeavesOnly, OnlyReads}
use Rattle.bench_core.specs.Moments.{joins, still_quiet, weakens}
use Rattle.journal_form.specs.Journal.{StandsFor}
use Rattle.answer_journal.specs.Make.{calls_to_look, calls_to_make}
use Rattle.answer_journal.specs.Moments.{IsMade, IsUnmadeOrWhole}
use Rattle.bench_core.specs.Ends.{EndsBy, IsRefused}
use Rattle.bench_core.specs.Stops.{IsOfBenches}
use Rattle.bench_core.specs.declared.stops.End.{End}
use Rattle.bench_core.specs.declared.stops.End.TheVariants.{Stopped, Refused}
use Rattle.answer_journal.specs.declared.refusals.JournalRefusal.{JournalRefusal}
use Rattle.audit_store.specs.Starting.{StartCause}
use Rattle.twin_journal.specs.declared.restoring.RestoreRefusal.{RestoreRefusal}
use Rattle.twin_journal.specs.declared.restoring.RestoreRefusal.TheVariants.{NothingLost, BothLost, Main, Spare}
use Rattle.twin_journal.specs.Copying.{IsKeptFor, IsOfCopy}
use Rattle.twin_journal.specs.Restoring.{IsLost, IsLostOf, RestoreCause, StandForTheSame, TakeCalls, turned_refusal}
use Rattle.twin_journal.proofs.TwinCauses.{OneHistory}

-- files that stand for one history stand for the same
pub stand_alike : (once : OneHistory) (file spare : List ℕ) (shape : Shape) (history : List Answered) → StandsFor file shape history →
    StandsFor spare shape history →
    StandForTheSame file spare
stand_alike once file spare shape history stands spare_stands = λ s h. (
  λ is. let same = once file shape s history h stands.0 is.0 stands.1 is.1 in
      subst (λ (x : Shape). StandsFor spare x h) same.0 (subst (λ (l : List Answered). StandsFor spare shape l) same.1 spare_stands),
  λ is. let same = once spare shape s history h spare_stands.0 is.0 spare_stands.1 is.1 in
      subst (λ (x : Shape). StandsFor file x h) same.0 (subst (λ (l : List Answered). StandsFor file shape l) same.1 stands),
)

-- a file is kept for one history
pub kept_for_one : (once : OneHistory) (table : Table) (file : List ℕ) (history others : List Answered) → IsKeptFor table file history →
    StandsFor file table.setting.shape others → history ≡ others
kept_for_one once table file history others kept stands =
    (once file table.setting.shape table.setting.shape history others kept.stands.0 stands.0 kept.stands.1 stands.1).1

-- the one that isn't lost is kept
pub is_kept : (table : Table) (lost kept file : List ℕ) (history : List Answered) → file ≡ kept → IsLostOf table lost kept history →
    IsKeptFor table file history
is_kept table lost kept file history same is = record
    { stands = subst (λ (f : List ℕ). StandsFor f table.setting.shape history) (sym same) is.stands; legal = is.legal }

pub is_lost_of : (table : Table) (lost kept file : List ℕ) (history : List Answered) → file ≡ kept → IsLost lost → IsKeptFor table file history →
    IsLostOf table lost kept history
is_lost_of table lost kept file history same unmade is =
    record { unmade = unmade; stands = subst (λ (f : List ℕ). StandsFor f table.setting.shape history) same is.stands; legal = is.legal }

module _ {D : Type 0} (bench : Ghosts D) (old mid : D) (shape : Shape) (history : List Answered) (reads : OnlyReads bench old mid) (quiet : IsQuiet bench old)
    (lost : IsLost (bench.file old)) where
  -- a lost file that is only read stays lost
  pub read_lost : LeavesOnly bench old mid (IsUnmadeOrWhole shape history (bench.sent old))
  read_lost =
      weakens bench old mid (IsUntouched (bench.file old) (bench.sent old)) (IsUnmadeOrWhole shape history (bench.sent old))
      (λ image sent is. (is.0, inl (subst (λ (f : List ℕ). IsLost f) (sym is.1) lost))) (reads.untouched quiet)

  -- and then it is written
  pub read_and_write : (new : D) → (IsQuiet bench mid → LeavesOnly bench mid new (IsUnmadeOrWhole shape history (bench.sent mid)))
      → LeavesOnly bench old new (IsUnmadeOrWhole shape history (bench.sent old))
  read_and_write new rest =
      joins bench old mid new (IsUnmadeOrWhole shape history (bench.sent old)) read_lost
      (subst (λ (sent : List ℕ). LeavesOnly bench mid new (IsUnmadeOrWhole shape history sent)) reads.sent (rest (still_quiet bench old mid reads quiet)))

-- ---- how a copy ends

-- the kept one is refused, and nothing else is
abbrev pub IsOfKept : RestoreRefusal → Type 0
IsOfKept (Main refusal) = Unit {0}
IsOfKept refusal = ⊥

pub kept_of_copy : (refusal : RestoreRefusal) → IsOfKept refusal → IsOfCopy refusal
kept_of_copy NothingLost is = tt
kept_of_copy BothLost is = is
kept_of_copy (Main refusal) is = tt
kept_of_copy (Spare refusal) is = is

-- it is, for what its file is
abbrev pub KeptCause : List ℕ → Table → RestoreRefusal → Type 0
KeptCause file table (Main refusal) = StartCause refusal file table
KeptCause file table refusal = ⊥

-- the lost one is made, and nothing else is refused
abbrev pub IsOfLost : RestoreRefusal → Type 0
IsOfLost NothingLost = Unit {0}
IsOfLost refusal = ⊥

pub lost_of_copy : (refusal : RestoreRefusal) → IsOfLost refusal → IsOfCopy refusal
lost_of_copy NothingLost is = tt
lost_of_copy BothLost is = is
lost_of_copy (Main refusal) is = absurd is
lost_of_copy (Spare refusal) is = is

module _ (table : Table) (file spare : List ℕ) (refusal : RestoreRefusal) (of : IsOfCopy refusal) (never : refusal ≡ NothingLost → ⊥) where
  -- why the spare wasn't written
  pub main_refused : IsLost spare → IsMade file → ((kept : JournalRefusal) → refusal ≡ Main kept → StartCause kept file table) →
      RestoreCause refusal file spare table
  main_refused lost made = says refusal of never
    where
      says : (refusal : RestoreRefusal) → IsOfCopy refusal → (refusal ≡ NothingLost → ⊥)
          → ((kept : JournalRefusal) → refusal ≡ Main kept → StartCause kept file table) → RestoreCause refusal file spare table
      says NothingLost of never cause = absurd (never refl)
      says BothLost of never cause = absurd of
      says (Main kept) of never cause = (lost, made, cause kept refl)
      says (Spare kept) of never cause = absurd of

  -- or the journal
  pub spare_refused : IsLost file → IsMade spare → ((kept : JournalRefusal) → refusal ≡ Main kept → StartCause kept spare table) →
      RestoreCause (turned_refusal refusal) file spare table
  spare_refused lost made = says refusal of never
    where
      says : (refusal : RestoreRefusal) → IsOfCopy refusal → (refusal ≡ NothingLost → ⊥)
          → ((kept : JournalRefusal) → refusal ≡ Main kept → StartCause kept spare table) → RestoreCause (turned_refusal refusal) file spare table
      says NothingLost of never cause = absurd (never refl)
      says BothLost of never cause = absurd of
      says (Main kept) of never cause = (lost, made, cause kept refl)
      says (Spare kept) of never cause = absurd of

-- a copy that is refused found the lost one made, or the kept one is refused
pub refused_copy : {X : Type 0} (answer : Result X (End RestoreRefusal)) (P : Type 0) → IfErr answer (EndsBy IsOfBenches IsOfCopy) → IsRefused answer
    → (IsErrOf answer (Refused NothingLost) → P) → ((kept : JournalRefusal) → answer ≡ Err (Refused (Main kept)) → P) → P
refused_copy (Ok x) P ends refused already kept = absurd refused
refused_copy (Err (Stopped stop)) P ends refused already kept = absurd refused
refused_copy (Err (Refused NothingLost)) P ends refused already kept = already refl
refused_copy (Err (Refused BothLost)) P ends refused already kept = absurd ends
refused_copy (Err (Refused (Main refusal))) P ends refused already kept = kept refusal refl
refused_copy (Err (Refused (Spare refusal))) P ends refused already kept = absurd ends

-- what two clauses say of an answer they say together
pub on_ok_both : {X E P Q S : Type 0} (answer : Result X E) → (P → Q → S) → OnOk answer P → OnOk answer Q → OnOk answer S
on_ok_both (Ok x) both p q = both p q
on_ok_both (Err e) both p q = tt

-- what a crash leaves of a list of this shape, by another name
pub wholes_of : {D : Type 0} (bench : Ghosts D) (old new : D) (other shape : Shape) (list history : List Answered) → other ≡ shape → list ≡ history →
    LeavesOnly bench old new (IsUnmadeOrWhole other list (bench.sent old)) → LeavesOnly bench old new (IsUnmadeOrWhole shape history (bench.sent old))
wholes_of bench old new other shape list history same also found =
    subst (λ (h : List Answered). LeavesOnly bench old new (IsUnmadeOrWhole shape h (bench.sent old))) also
    (subst (λ (s : Shape). LeavesOnly bench old new (IsUnmadeOrWhole s list (bench.sent old))) same found)

-- ---- which refusal is due

module _ (table : Table) (file spare : List ℕ) where
  -- both are made
  pub both_made_due : IsMade file → IsMade spare → (due : RestoreRefusal) → RestoreCause due file spare table → NothingLost ≡ due
  both_made_due made spare_made NothingLost cause = refl
  both_made_due made spare_made BothLost cause = absurd (cause.0 made)
  both_made_due made spare_made (Main refusal) cause = absurd (cause.0 spare_made)
  both_made_due made spare_made (Spare refusal) cause = absurd (cause.0 made)

  -- neither is
  pub both_lost_due : IsLost file → IsLost spare → (due : RestoreRefusal) → RestoreCause due file spare table → BothLost ≡ due
  both_lost_due lost spare_lost NothingLost cause = absurd (lost cause.0)
  both_lost_due lost spare_lost BothLost cause = refl
  both_lost_due lost spare_lost (Main refusal) cause = absurd (lost cause.1)
  both_lost_due lost spare_lost (Spare refusal) cause = absurd (spare_lost cause.1)

  -- the spare is lost: what is due is a refusal of the journal
  pub main_is_due : (P : RestoreRefusal → Type 0) → IsLost spare → IsMade file → ((kept : JournalRefusal) → StartCause kept file table → P (Main kept)) →
      (due : RestoreRefusal) → RestoreCause due file spare table → P due
  main_is_due P lost made of_main NothingLost cause = absurd (lost cause.1)
  main_is_due P lost made of_main BothLost cause = absurd (cause.0 made)
  main_is_due P lost made of_main (Main kept) cause = of_main kept cause.2
  main_is_due P lost made of_main (Spare kept) cause = absurd (cause.0 made)

  -- the journal is: a refusal of the spare
  pub spare_is_due : (P : RestoreRefusal → Type 0) → IsLost file → IsMade spare → ((kept : JournalRefusal) → StartCause kept spare table → P (Spare kept)) →
      (due : RestoreRefusal) → RestoreCause due file spare table → P due
  spare_is_due P lost made of_spare NothingLost cause = absurd (lost cause.0)
  spare_is_due P lost made of_spare BothLost cause = absurd (cause.1 made)
  spare_is_due P lost made of_spare (Main kept) cause = absurd (cause.0 made)
  spare_is_due P lost made of_spare (Spare kept) cause = of_spare kept cause.2

-- eight calls were made of the lost one, and four of the kept one
pub takes_calls : (lost kept : List ℕ) (before mid after kept_before kept_mid kept_after : ℕ) → IsMade kept → mid ≡ before + calls_to_look lost →
    after ≡ mid + calls_to_make lost → kept_mid ≡ kept_before + calls_to_look kept → kept_after ≡ kept_mid + 2 → TakeCalls before after kept_before kept_after
takes_calls lost kept before mid after kept_before kept_mid kept_after made looked written kept_looked read =
    let eight : calls_to_look lost + calls_to_make lost ≡ 8 = grind (arith, common_steps) in
    let two : calls_to_look kept ≡ 2 = grind (arith, common_steps, made.0) in
    record { lost = omega (arith, looked, written, eight); kept = omega (arith, kept_looked, read, two) }
