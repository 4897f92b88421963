-- Directions that show a row of a column of sums to be free.
use Rattle.std.specs.Prelude.{◌≡◌, ◌≢◌, ℕ, ℤ, pos, List, map}
use Rattle.std.specs.List.{AllByRecursion}
use Rattle.audit_types.specs.Rows.{Rows}
use Rattle.audit_types.specs.Truth.{number_at, sum_over}
use Rattle.audit_types.specs.Direction.{IsDirection, IsSmall}

-- the lists of rows of sets
abbrev pub lists_of : List Rows → List (List ℕ)
lists_of sets = map (λ s. s.list) sets

-- the numbers sum to 0 over each set
abbrev pub HasZeroSums : List ℤ → List (List ℕ) → Type 0
HasZeroSums v sets = AllByRecursion (λ s. sum_over v s ≡ pos 0) sets

-- a direction of the sets with small numbers that is not 0 at the row
pub record MovesRow (n : ℕ) (sets : List (List ℕ)) (row : ℕ) (v : List ℤ) : Type 0 where
  pub direction : IsDirection n sets v
  pub small : IsSmall v
  pub moves : number_at v row ≢ pos 0
