-- What a form with a new row reaches, as its entries tell it.
use Rattle.std.specs.Prelude.{◌≡◌, ◌≢◌, ◌⊎◌, ℕ, ◌+◌, ◌<◌, ℤ, pos, ◌-ℤ◌, ◌*ℤ◌, cond, false, List, [], ◌∷◌, ◌++◌, length, unsigned_abs, ◌≤◌, ◌^◌, Contains, slice_index_or}
use Rattle.std.specs.List.{AllByRecursion}
use Rattle.audit_types.specs.Rows.{has_row}
use Rattle.audit_types.specs.Truth.{is_zero, number_at, sum_over}
use Rattle.audit_types.specs.Form.{IsPrimitive, IsEchelon, IsReducedForm}
use Rattle.audit_types.specs.Direction.{is_pivot}
use Rattle.audit_types.specs.Reach.{extent}
use Rattle.audit_types.specs.Totals.{product}
use Rattle.sum_basis.specs.Basis.{Echelon}
use Rattle.sum_basis.specs.Growth.{IsLeftOver}
use Rattle.sum_basis.specs.Sparse.{entry_at, row_of, IsListed}
use Rattle.sum_basis.specs.declared.sparse.FreeEntry.{FreeEntry}

-- a direction of the free column j: n numbers whose product with each row of the form is 0, not 0 at j, and 0 at the other free columns
pub record IsAlong (n : ℕ) (form : List (List ℤ)) (j : ℕ) (d : List ℤ) : Type 0 where
  pub one_each : length d ≡ n
  pub zeros : AllByRecursion (λ row. product row (number_at d) n ≡ pos 0) form
  pub free : is_pivot form j ≡ false
  pub some : number_at d j ≢ pos 0
  pub only : (i : ℕ) → is_pivot form i ≡ false → i ≢ j → number_at d i ≡ pos 0

-- a direction of some free column, of at most so many rows, along which the value changes
pub record Changes (n : ℕ) (form : List (List ℤ)) (most : ℕ) (value : List ℤ → ℤ) : Type 0 where
  pub column : ℕ
  pub direction : List ℤ
  pub along : IsAlong n form column direction
  pub near : extent direction ≤ most
  pub changed : value direction ≢ pos 0

-- if the value changes along a direction of some free column, it does so along one of at most `reach` rows
abbrev pub IsReached : ℕ → ℕ → List (List ℤ) → (List ℤ → ℤ) → Type 0
IsReached n reach form value = Changes n form n value → Changes n form reach value

-- so it is with the number of each row that isn't shared, and with the total of each of these sets
pub record ReachesAll (n reach : ℕ) (shared : List ℕ) (sets : List (List ℕ)) (form : List (List ℤ)) : Type 0 where
  pub numbers : (i : ℕ) → i < n → has_row shared i ≡ false → IsReached n reach form (λ w. number_at w i)
  pub totals : (set : List ℕ) → Contains sets set → IsReached n reach form (λ w. sum_over w set)

-- each free column of a form has a direction
abbrev pub FreeColumnsHaveDirections : Type 0
FreeColumnsHaveDirections =
    (n : ℕ) (form : List (List ℤ)) (j : ℕ) → AllByRecursion (IsPrimitive n) form → IsEchelon form → j < n → is_pivot form j ≡ false → (d : List ℤ) × IsAlong n form j d

-- ---- by entries

-- what is left of a row at a column if it is made 0 at the pivot of a new list; by an empty list it stays as it is
abbrev pub without_new : List FreeEntry → (ℕ → ℤ) → ℕ → ℤ
without_new [] row j = row j
without_new (e ∷ new) row j = e.value *ℤ row j -ℤ row e.place *ℤ entry_at (e ∷ new) j

-- 1 for a number other than 0
abbrev pub one_if : ℤ → ℕ
one_if x = cond (is_zero x) 0 1

-- how many of the rows aren't 0 at a column if they are made 0 at the pivot of a new list
abbrev pub count_with : List FreeEntry → List (List ℤ) → ℕ → ℕ
count_with new [] j = 0
count_with new (row ∷ rows) j = one_if (without_new new (number_at row) j) + count_with new rows j

-- how many of the rows aren't 0 at a column
abbrev pub met : List (List ℤ) → ℕ → ℕ
met [] j = 0
met (row ∷ rows) j = one_if (number_at row j) + met rows j

-- at each free column how many rows of the form aren't 0 there, and 0 at each pivot
pub record AreCounts (n : ℕ) (form : List (List ℤ)) (counts : List ℕ) : Type 0 where
  pub one_each : length counts ≡ n
  pub is : (j : ℕ) → slice_index_or counts j 0 ≡ cond (is_pivot form j) 0 (met form j)

-- what a row has at the pivot of a new list, 0 if there is none
abbrev pub times_of : List FreeEntry → (ℕ → ℤ) → ℤ
times_of [] row = pos 0
times_of (e ∷ new) row = row e.place

-- what a list has after its first entry
abbrev pub rest_at : List FreeEntry → ℕ → ℤ
rest_at [] j = pos 0
rest_at (e ∷ new) j = entry_at new j

-- unless a row is 0 everywhere, it isn't at some column with a count below the reach
abbrev pub IsNear : List ℕ → ℕ → (ℕ → ℤ) → Type 0
IsNear counts reach row = (j : ℕ) → row j ≢ pos 0 → (q : ℕ) × (row q ≢ pos 0) × (slice_index_or counts q 0 < reach)

-- entries other than 0 in ascending places below n, none above 2 ^ 56
abbrev pub AreSmallEntries : ℕ → List FreeEntry → Type 0
AreSmallEntries n entries = IsListed 0 n entries × AllByRecursion (λ (e : FreeEntry). unsigned_abs e.value ≤ 2 ^ 56) entries

-- what a form leaves of a row: an empty list if nothing
abbrev pub IsLeftOverOrNone : Echelon → List FreeEntry → Type 0
IsLeftOverOrNone form new = (new ≡ []) ⊎ IsLeftOver form new

-- the reduced form of the form's rows with the row of a new list, or of these alone if the list is empty
abbrev pub IsGrownBy : Echelon → List FreeEntry → List (List ℤ) → Type 0
IsGrownBy form [] grown = form.rows ≡ grown
IsGrownBy form (e ∷ new) grown = IsReducedForm form.n (form.rows ++ row_of form.n (e ∷ new) ∷ []) grown
