-- What a journal is found to be when it is to grow to the rows of a table: each refusal has its cause in the file and the
-- table.
use Rattle.std.specs.Prelude.{◌≡◌, ◌≢◌, ◌⊎◌, ℕ, ◌<◌, List}
use Rattle.audit_types.specs.declared.shapes.Shape.{Shape}
use Rattle.audit_types.specs.declared.records.Answered.{Answered}
use Rattle.audit_types.specs.Widening.{over, widened}
use Rattle.audit_types.specs.History.{Table, IsLegal}
use Rattle.journal_form.specs.Journal.{StandsFor, BreaksAt}
use Rattle.answer_journal.specs.Moments.{IsMade}
use Rattle.answer_journal.specs.declared.refusals.JournalRefusal.TheVariants.{NotMade, Damaged, OtherShape, Untrue, Illegal}
use Rattle.audit_store.specs.declared.growing.GrowRefusal.{GrowRefusal}
use Rattle.audit_store.specs.declared.growing.GrowRefusal.TheVariants.{Journal, NothingNew}
use Rattle.audit_store.specs.Starting.{IsFirstUntrue, IsFirstIllegal, StandsForOne}

-- a journal of this shape can't grow to a table of that one: its columns are others, or it has more rows
abbrev pub CantGrow : Shape → Shape → Type 0
CantGrow kept now = (kept.kinds ≢ now.kinds) ⊎ (now.rows < kept.rows)

-- the file stands for a history over fewer rows than the table has, and over all of them it has this
pub record StandsForFewer (file : List ℕ) (table : Table) (P : List Answered → Type 0) : Type 0 where
  pub rows : ℕ
  pub history : List Answered
  pub fewer : rows < table.setting.shape.rows
  pub stands : StandsFor file (over rows table.setting.shape) history
  pub has : P (widened table.setting.shape.rows history)

-- the file stands for a history over fewer rows, which is legal over all of them
abbrev pub CanGrow : List ℕ → Table → Type 0
CanGrow file table = StandsForFewer file table (IsLegal table)

-- why a journal has not grown, by the file
abbrev pub GrowCause : GrowRefusal → List ℕ → Table → Type 0
GrowCause (Journal NotMade) file table = ¬ (IsMade file)
GrowCause (Journal (Damaged at)) file table = IsMade file × BreaksAt file at
GrowCause (Journal (OtherShape kept now)) file table = StandsForOne file kept (λ _. (now ≡ table.setting.shape) × CantGrow kept now)
GrowCause (NothingNew rows) file table = StandsForOne file table.setting.shape (λ _. rows ≡ table.setting.shape.rows)
GrowCause (Journal (Untrue place kept now)) file table = StandsForFewer file table (λ history. IsFirstUntrue table history place kept now)
GrowCause (Journal (Illegal place group)) file table = StandsForFewer file table (λ history. IsFirstIllegal table history place group)

-- the same columns over fewer rows
pub record IsFewer (shape : Shape) (table : Table) : Type 0 where
  pub columns : shape ≡ over shape.rows table.setting.shape
  pub fewer : shape.rows < table.setting.shape.rows

-- a history that a journal of this shape keeps goes on over all rows of the table
pub record GrowsFrom (shape : Shape) (history : List Answered) (table : Table) : Type 0 where
  pub fewer : IsFewer shape table
  pub legal : IsLegal table (widened table.setting.shape.rows history)

-- why it doesn't
abbrev pub GrowHistoryCause : GrowRefusal → Shape → List Answered → Table → Type 0
GrowHistoryCause (Journal (OtherShape kept now)) shape history table = (kept ≡ shape) × (now ≡ table.setting.shape) × CantGrow kept now
GrowHistoryCause (NothingNew rows) shape history table = (shape ≡ table.setting.shape) × (rows ≡ table.setting.shape.rows)
GrowHistoryCause (Journal (Untrue place kept now)) shape history table = IsFewer shape table × IsFirstUntrue table (widened table.setting.shape.rows history) place kept now
GrowHistoryCause (Journal (Illegal place group)) shape history table = IsFewer shape table × IsFirstIllegal table (widened table.setting.shape.rows history) place group
GrowHistoryCause refusal shape history table = ⊥
