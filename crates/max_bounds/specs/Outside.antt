-- When a question on maxima is dangerous, told from the extreme rows of the answers before it.
use Rattle.std.specs.Prelude.{◌≡◌, ℕ, ℤ, ◌<ℤ◌, true, false, not, List, [], Option, Some, None}
use Rattle.std.specs.List.{filter}
use Rattle.audit_types.specs.Rows.{has_row, IsLeast}
use Rattle.audit_types.specs.Column.{Answer, IsOneOf}
use Rattle.audit_types.specs.Extremes.{extremes, IsLone}

-- the rows of a list that are outside a set
abbrev pub outside : List ℕ → List ℕ → List ℕ
outside set rows = filter (λ r. not (has_row set r)) rows

-- a bound is below another; a row without a bound stands above all
abbrev pub IsBelowBound : Option ℤ → Option ℤ → Type 0
IsBelowBound None bound = ⊥
IsBelowBound (Some b) None = Unit {0}
IsBelowBound (Some b) (Some c) = b <ℤ c

-- a set has this answer and lies in the question's
pub record IsWithin (rows : List ℕ) (value : ℤ) (a : Answer) : Type 0 where
  pub same : a.value ≡ value
  pub none_left : outside rows a.rows ≡ []

-- some set does
abbrev pub HasWithin : List Answer → List ℕ → ℤ → Type 0
HasWithin answers rows value = (a : Answer) × IsOneOf a answers × IsWithin rows value a

-- an answer of this value has all its extreme rows in the set
pub record HasExtremesWithin (answers : List Answer) (rows : List ℕ) (value : ℤ) : Type 0 where
  pub answer : Answer
  pub one : IsOneOf answer answers
  pub same : answer.value ≡ value
  pub within : (r : ℕ) → has_row (extremes answers answer) r ≡ true → has_row rows r ≡ true

-- the least lone row that isn't shared, if there is one
abbrev pub IsLeastOwnLone : List ℕ → List Answer → Option ℕ → Type 0
IsLeastOwnLone shared answers least = IsLeast (λ r. IsLone answers r × (has_row shared r ≡ false)) least
