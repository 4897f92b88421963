-- Numbers that give answers, and when rows are shown to be the only ones of a set that can reach the set's answer.
use Rattle.std.specs.Prelude.{◌≡◌, ℕ, ℤ, ◌<ℤ◌, true, false, List}
use Rattle.audit_types.specs.Rows.{has_row}
use Rattle.audit_types.specs.Truth.{greatest_over}
use Rattle.audit_types.specs.declared.records.Answered.{Answered}
use Rattle.audit_types.specs.History.{answer_in}
use Rattle.audit_types.specs.Column.{Answer, IsOneOf, Known, Agrees}

-- the answer is the greatest of the numbers over its set
abbrev pub IsGreatest : List ℤ → Answer → Type 0
IsGreatest w a = greatest_over w a.rows ≡ a.value

-- an answer over a set that holds the row, and below this value
pub record HoldsBelow (value : ℤ) (row : ℕ) (answer : Answer) : Type 0 where
  pub holds : has_row answer.rows row ≡ true
  pub below : answer.value <ℤ value

-- a record of the column that does so
abbrev pub RecordHoldsBelow : ℕ → ℤ → ℕ → Answered → Type 0
RecordHoldsBelow column value row r = (r.column ≡ column) × HoldsBelow value row (answer_in r)

-- some answer holds the row below this value
abbrev pub IsHeldBelow : List Answer → ℤ → ℕ → Type 0
IsHeldBelow answers value row = (answer : Answer) × IsOneOf answer answers × HoldsBelow value row answer

-- `high` gives all answers, and every row of one answer's set but these is held below that answer
pub record ShowsLone (known : Known) (pair : Answer) (rows : List ℕ) (high : List ℤ) : Type 0 where
  pub agrees : Agrees known high
  pub among : IsOneOf pair known.answers
  pub holds : (r : ℕ) → has_row rows r ≡ true → has_row pair.rows r ≡ true
  pub others : (q : ℕ) → has_row pair.rows q ≡ true → has_row rows q ≡ false → IsHeldBelow known.answers pair.value q
