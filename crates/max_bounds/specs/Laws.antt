-- The law of upper bounds.
use Rattle.std.specs.Prelude.{◌≡◌, ℕ, ℤ, ◌≤ℤ◌, true, List, Some}
use Rattle.audit_types.specs.Rows.{has_row}
use Rattle.audit_types.specs.Column.{Answer, IsOneOf}
use Rattle.audit_types.specs.Extremes.{upper_bound}

-- the upper bound of a row is at most each answer whose set holds the row, and one of them has it
abbrev pub UpperBoundIsLeast : Type 0
UpperBoundIsLeast = (answers : List Answer) (r : ℕ) →
    ((a : Answer) → IsOneOf a answers → has_row a.rows r ≡ true → (b : ℤ) × (upper_bound answers r ≡ Some b) × (b ≤ℤ a.value))
    × ((b : ℤ) → upper_bound answers r ≡ Some b → (a : Answer) × IsOneOf a answers × (has_row a.rows r ≡ true) × (a.value ≡ b))
