-- Groups that are ready for one journal or for two, and journals that are brought up.
use Rattle.std.specs.Prelude.{◌≡◌, ℕ, ◌+◌, ◌*◌, ◌/◌, ◌<◌, true, Option, Some, None, List, [], ◌++◌, length, take}
use Rattle.audit_types.specs.declared.shapes.Shape.{Shape}
use Rattle.audit_types.specs.declared.records.Answered.{Answered}
use Rattle.bench_core.specs.declared.bench.Bench.{Ghosts}
use Rattle.bench_core.specs.Calls.{IsQuiet, LeavesOnly}
use Rattle.journal_form.specs.Journal.{StandsAt, StandsFor}
use Rattle.answer_journal.specs.Contents.{JournalContents, ReadyContents}
use Rattle.answer_journal.specs.Moments.{IsBeforeOrAfter}
use Rattle.audit_store.specs.Stores.{HasGroup, calls_for}

-- the records of a group that is ready, if there are any
abbrev pub group_of : Option ReadyContents → List Answered
group_of None = []
group_of (Some ready) = ready.list

-- it is over this shape, and has a record
abbrev pub IsReadyOver : Shape → Option ReadyContents → Type 0
IsReadyOver shape None = Unit {0}
IsReadyOver shape (Some ready) = (ready.shape ≡ shape) × (0 < length ready.list)

-- what a crash finds in a call that was to append the group to the journal
abbrev pub MayAppend : {D : Type 0} → Ghosts D → JournalContents → List Answered → D → D → Type 0
MayAppend bench journal group old new =
    (history : List Answered) → bench.told → StandsAt (bench.file old) journal.shape history journal.gate → length history ≡ journal.count → IsQuiet bench old
    → LeavesOnly bench old new (IsBeforeOrAfter journal.shape history group (bench.sent old))

-- the group was appended to it
pub record WasAppended {D : Type 0} (bench : Ghosts D) (journal after : JournalContents) (group : List Answered) (old new : D) : Type 0 where
  pub done : (history : List Answered) → bench.told → StandsAt (bench.file old) journal.shape history journal.gate → length history ≡ journal.count
      → StandsAt (bench.file new) after.shape (history ++ group) after.gate
  pub written : bench.told → HasGroup journal.shape group journal.gate (bench.file old) (bench.file new)
  pub quiet : bench.told → IsQuiet bench old → IsQuiet bench new
  pub ticks : bench.told → bench.moment new ≡ bench.moment old + calls_for group
  pub shape : after.shape ≡ journal.shape
  pub usable : after.usable ≡ true
  pub counted : after.count ≡ journal.count + length group

-- another journal is that of this shape and history, too
pub record IsJournalOf (shape : Shape) (history : List Answered) (journal : JournalContents) : Type 0 where
  pub usable : journal.usable ≡ true
  pub same_shape : journal.shape ≡ shape
  pub counted : journal.count ≡ length history

-- the image stands for the history with some of the missing records, from the first on
abbrev pub StandsWithSome : Shape → List Answered → List Answered → List ℕ → Type 0
StandsWithSome shape history missing image = (count : ℕ) × StandsFor image shape (history ++ take count missing)

-- and nothing was sent
abbrev pub IsBroughtUp : Shape → List Answered → List Answered → List ℕ → List ℕ → List ℕ → Type 0
IsBroughtUp shape history missing before image sent = (sent ≡ before) × StandsWithSome shape history missing image

-- the calls that bring a journal up: four for each 64 records that are missing
abbrev pub calls_to_bring_up : List Answered → ℕ
calls_to_bring_up missing = 4 * ((length missing + 63) / 64)
