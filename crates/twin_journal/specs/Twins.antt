-- Two journals of one table, on a bench and on a spare, of which one history begins the other.
use Rattle.std.specs.Prelude.{◌≡◌, ◌≢◌, ◌⊎◌, ℕ, ◌+◌, ◌<◌, true, List, length, drop, slice_get, Some}
use Rattle.audit_types.specs.declared.records.Answered.{Answered}
use Rattle.audit_types.specs.declared.shapes.Shape.{Shape}
use Rattle.audit_types.specs.History.{Table, IsLegal}
use Rattle.table_load.specs.Database.{Database}
use Rattle.journal_form.specs.Journal.{StandsAt, StandsFor}
use Rattle.answer_journal.specs.Contents.{JournalContents}
use Rattle.audit_store.specs.Stores.{StoreContents}
use Rattle.audit_store.specs.Starting.{StartCause, StandsForOne}
use Rattle.audit_store.specs.Twice.{calls_to_bring_up}
use Rattle.line_wire.specs.Lines.{CountedLine}
use Rattle.audit_session.specs.Stops.{IsFront, SpareStops, StopsOver}
use Rattle.twin_journal.specs.declared.starting.TwinRefusal.{TwinRefusal}
use Rattle.twin_journal.specs.declared.starting.TwinRefusal.TheVariants.{Main, Spare, Differ}

-- a twin store as contracts see it: the store of the journal on the bench, and the journal on the spare
pub record TwinContents : Type 0 where
  pub store : StoreContents
  pub spare : JournalContents

-- what is true of every twin store: while it is usable the spare's journal is that of its table and history, too
pub record IsTwin (twin : TwinContents) : Type 0 where
  pub spare_usable : twin.store.usable ≡ true → twin.spare.usable ≡ true
  pub same_shape : twin.store.usable ≡ true → twin.spare.shape ≡ twin.store.secret.shape
  pub counted : twin.store.usable ≡ true → twin.spare.count ≡ length twin.store.history

-- the spare's file is as the twin store left it: it stands for its history, and its closing gate is where the journal says
abbrev pub IsSpareAsLeft : List ℕ → TwinContents → Type 0
IsSpareAsLeft file twin = StandsAt file twin.store.secret.shape twin.store.history twin.spare.gate

-- ---- at the start

-- one of these histories begins the other, and the whole is the longer one
pub record Meet (main other whole : List Answered) : Type 0 where
  pub main_front : IsFront main whole
  pub other_front : IsFront other whole
  pub longer : (main ≡ whole) ⊎ (other ≡ whole)

-- the files stand for histories over the rows of one table, of which one begins the other; the whole is the longer one, and legal
pub record KeepTogether (table : Table) (file spare : List ℕ) (main other whole : List Answered) : Type 0 where
  pub main_stands : StandsFor file table.setting.shape main
  pub spare_stands : StandsFor spare table.setting.shape other
  pub main_front : IsFront main whole
  pub spare_front : IsFront other whole
  pub longer : (main ≡ whole) ⊎ (other ≡ whole)
  pub legal : IsLegal table whole

-- there are such histories, with this whole
abbrev pub KeepWhole : Table → List ℕ → List ℕ → List Answered → Type 0
KeepWhole table file spare whole = (main : List Answered) × (other : List Answered) × KeepTogether table file spare main other whole

-- there are none
abbrev pub KeepApart : Table → List ℕ → List ℕ → Type 0
KeepApart table file spare = (main other whole : List Answered) → KeepTogether table file spare main other whole → ⊥

-- the first place at which both histories have a record, and these differ
pub record DifferFirst (main other : List Answered) (place : ℕ) : Type 0 where
  pub ours : Answered
  pub theirs : Answered
  pub here : slice_get main place ≡ Some ours
  pub there : slice_get other place ≡ Some theirs
  pub differ : ours ≢ theirs
  pub before : (i : ℕ) → i < place → slice_get main i ≡ slice_get other i

-- the file stands for a legal history of the table
abbrev pub HoldsLegal : List ℕ → Table → Type 0
HoldsLegal file table = StandsForOne file table.setting.shape (λ history. IsLegal table history)

-- both files do, and this is the first place at which the histories differ
abbrev pub HoldApart : List ℕ → List ℕ → Table → ℕ → Type 0
HoldApart file spare table place =
    StandsForOne file table.setting.shape (λ main. IsLegal table main × StandsForOne spare table.setting.shape (λ other. IsLegal table other × DifferFirst main other place))

-- why no twin store was started. The spare is looked at only if the journal isn't refused
abbrev pub TwinCause : TwinRefusal → List ℕ → List ℕ → Table → Type 0
TwinCause (Main refusal) file spare table = StartCause refusal file table
TwinCause (Spare refusal) file spare table = HoldsLegal file table × StartCause refusal spare table
TwinCause (Differ place) file spare table = HoldApart file spare table place

-- the journals differ
abbrev pub IsDiffer : TwinRefusal → Type 0
IsDiffer (Differ place) = Unit {0}
IsDiffer refusal = ⊥

-- the image stands for a history that begins with the first and is a front of the whole
pub record StandsBetween (shape : Shape) (first whole : List Answered) (image : List ℕ) : Type 0 where
  pub now : List Answered
  pub stands : StandsFor image shape now
  pub from : IsFront first now
  pub to : IsFront now whole

-- while a journal catches up nothing is sent
abbrev pub CatchesUp : Shape → List Answered → List Answered → List ℕ → List ℕ → List ℕ → Type 0
CatchesUp shape first whole before image sent = (sent ≡ before) × StandsBetween shape first whole image

-- while a journal is brought up nothing is sent, and its image stands for a history between its own and the whole; then it is a stop
abbrev pub CatchesUpOrStops : Database → ℕ → List Answered → List Answered → List CountedLine → List ℕ → List ℕ → List ℕ → Type 0
CatchesUpOrStops base batch first whole lines before image sent =
    CatchesUp base.secret.shape first whole before image sent ⊎ StopsOver base batch whole lines before image sent

-- the same of a spare, on which nothing is sent
abbrev pub SpareCatchesUpOrStops : Database → ℕ → List Answered → List Answered → List CountedLine → List ℕ → List ℕ → List ℕ → Type 0
SpareCatchesUpOrStops base batch first whole lines before image sent =
    CatchesUp base.secret.shape first whole before image sent ⊎ SpareStops base batch whole lines before image sent

-- the records of the whole that a history lacks
abbrev pub missing : List Answered → List Answered → List Answered
missing history whole = drop (length history) whole

-- the calls with which a journal is read back and brought up: two, and four for each 64 records that it lacks
abbrev pub calls_to_open : List Answered → List Answered → ℕ
calls_to_open history whole = 2 + calls_to_bring_up (missing history whole)
