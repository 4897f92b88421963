-- Directions of sets of rows: what may be added to every number without changing a sum.
use Rattle.std.specs.Prelude.{◌≡◌, ◌≢◌, ℕ, ◌+◌, ◌^◌, ℤ, pos, ◌<◌, ◌≤◌, ◌<ℤ◌, unsigned_abs, Bool, false, cond, ◌||◌, List, [], ◌∷◌, length, ◌==◌}
use Rattle.std.specs.List.{AllByRecursion, list_any}
use Rattle.audit_types.specs.Rows.{has_row}
use Rattle.audit_types.specs.Truth.{is_zero, number_at, sum_over}
use Rattle.audit_types.specs.Form.{pivot, IsContent}

-- n numbers that sum to 0 over each set
pub record IsDirection (n : ℕ) (sets : List (List ℕ)) (d : List ℤ) : Type 0 where
  pub one_each : length d ≡ n
  pub zero_sums : AllByRecursion (λ s. sum_over d s ≡ pos 0) sets

-- no number has a size above 2 ^ 112
abbrev pub IsSmall : List ℤ → Type 0
IsSmall d = AllByRecursion (λ x. unsigned_abs x ≤ 2 ^ 112) d

-- the sets pin row i: it is a row of the table, and every direction is 0 there
pub record IsPinned (n : ℕ) (sets : List (List ℕ)) (i : ℕ) : Type 0 where
  pub below : i < n
  pub still : (d : List ℤ) → IsDirection n sets d → number_at d i ≡ pos 0

-- the sets pin some row
abbrev pub PinSomeRow : ℕ → List (List ℕ) → Type 0
PinSomeRow n sets = (i : ℕ) × IsPinned n sets i

-- the same for one who knows the numbers of some rows: row i isn't one of them, and every direction that is 0 at them is 0 there
pub record IsPinnedFor (n : ℕ) (sets : List (List ℕ)) (own : List ℕ) (i : ℕ) : Type 0 where
  pub below : i < n
  pub other : has_row own i ≡ false
  pub still : (d : List ℤ) → IsDirection n sets d → AllByRecursion (λ r. number_at d r ≡ pos 0) own → number_at d i ≡ pos 0

-- whether j is the pivot of a row of the form
abbrev pub is_pivot : List (List ℤ) → ℕ → Bool
is_pivot form j = list_any (λ row. pivot row == j) form

-- the place, counted from j, of the first entry that is not 0 and stands at no pivot
abbrev pub first_free : List (List ℤ) → List ℤ → ℕ → ℕ
first_free form [] j = j
first_free form (x ∷ row) j = cond (is_pivot form j || is_zero x) (first_free form row (j + 1)) j

-- the free column whose direction belongs to row i: i itself, or for a pivot the first free column at which its row is not 0
abbrev pub free_column_of : List (List ℤ) → List (List ℤ) → ℕ → ℕ
free_column_of form [] i = i
free_column_of form (row ∷ rows) i = cond (pivot row == i) (first_free form row 0) (free_column_of form rows i)

-- the primitive direction that is positive at row i and 0 at every free column but one
pub record IsCanonicalDirection (n : ℕ) (sets : List (List ℕ)) (form : List (List ℤ)) (i : ℕ) (d : List ℤ) : Type 0 where
  pub direction : IsDirection n sets d
  pub free : (j : ℕ) → is_pivot form j ≡ false → j ≢ free_column_of form form i → number_at d j ≡ pos 0
  pub content : IsContent d 1
  pub positive : pos 0 <ℤ number_at d i
