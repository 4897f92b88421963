-- A journal that is written whole.
use Rattle.std.specs.Prelude.{◌≡◌, ℕ, ◌+◌, ◌*◌, ◌<◌, List, ◌∷◌, ◌++◌, [], length}
use Rattle.std.specs.List.{AllByRecursion}
use Rattle.audit_types.specs.declared.shapes.Shape.{Shape}
use Rattle.audit_types.specs.declared.records.Answered.{Answered}
use Rattle.journal_form.specs.Header.{named, IsWholeShape}
use Rattle.journal_form.specs.Group.{IsGroup}
use Rattle.journal_form.specs.Journal.{Written, texts, records}
use Rattle.answer_journal.specs.Append.{appended}

-- a group of records, and no growth: the rows in force after it are the shape's
abbrev pub IsOfRecords : Shape → Written → Type 0
IsOfRecords shape group = IsGroup shape group.text group.list × (group.rows ≡ shape.rows)

-- what stands after the header's gate: the rest of the header, the list in groups behind open gates, as few as can be, and a
-- closed gate
pub record AreBehindGate (shape : Shape) (list : List Answered) (bytes : List ℕ) : Type 0 where
  pub shaped : IsWholeShape shape
  pub groups : List Written
  pub of_records : AllByRecursion (IsOfRecords shape) groups
  pub list_is : list ≡ records groups
  pub fewest : 64 * length groups < length list + 64
  pub bytes_are : bytes ≡ named shape ++ (texts groups ++ 0 ∷ [])

-- the new file begins with a whole journal of the list, and what stood after its place in the old one stays
pub record HoldsWhole (shape : Shape) (list : List Answered) (old new : List ℕ) : Type 0 where
  pub behind : List ℕ
  pub are : AreBehindGate shape list behind
  pub file_is : new ≡ appended 0 behind old
