-- What is done to a row, and to the rows of a form, when the row joins the form.
use Rattle.std.specs.Prelude.{◌≡◌, ◌≢◌, ℕ, ◌≤◌, ◌*◌, ◌^◌, ℤ, pos, ◌+ℤ◌, ◌*ℤ◌, List, [], ◌∷◌, unsigned_abs}
use Rattle.std.specs.Int.{◌∣◌}
use Rattle.std.specs.List.{AllByRecursion}
use Rattle.audit_types.specs.Truth.{number_at}
use Rattle.sum_basis.specs.Limits.{most_short}
use Rattle.audit_types.specs.Form.{combined, InSpan, IsPrimitive, IsEchelon, pivot, pivot_entry}

-- no entry is above the width
abbrev pub IsWithin : ℕ → List ℤ → Type 0
IsWithin width row = AllByRecursion (λ x. unsigned_abs x ≤ width) row

-- no entry is above 2 ^ 56, so that products of entries can be worked out
abbrev pub IsSmall : List ℤ → Type 0
IsSmall row = IsWithin (2 ^ 56) row

-- primitive rows with no entry above the width, in the order of their pivots, each 0 at the pivots of the others
pub record IsFormWithin (width n : ℕ) (form : List (List ℤ)) : Type 0 where
  pub primitive : AllByRecursion (IsPrimitive n) form
  pub echelon : IsEchelon form
  pub entries : AllByRecursion (IsWithin width) form

-- the same with small entries
abbrev pub IsSmallForm : ℕ → List (List ℤ) → Type 0
IsSmallForm n form = IsFormWithin (2 ^ 56) n form

-- each pivot entry is 1, and no other entry is above 2 ^ 48, so that what is left of a set fits 64 bits
abbrev pub IsShortForm : List (List ℤ) → Type 0
IsShortForm form = AllByRecursion (λ row. (pivot_entry row ≡ pos 1) × IsWithin most_short row) form

-- the row is 0 at all pivots of the form
abbrev pub IsZeroAtPivots : List (List ℤ) → List ℤ → Type 0
IsZeroAtPivots form row = AllByRecursion (λ other. number_at row (pivot other) ≡ pos 0) form

-- a multiple of the other row is taken from the row, so that it is 0 at the other's pivot
pub record IsLessMultiple (other old new : List ℤ) : Type 0 where
  pub times : ℤ
  pub small : unsigned_abs times ≤ 2 ^ 56
  pub is : (j : ℕ) → number_at old j ≡ number_at new j +ℤ times *ℤ number_at other j
  pub zero_there : number_at new (pivot other) ≡ pos 0

-- what is left of a row when multiples of the form's rows are taken from it, so that it is 0 at their pivots
pub record IsRemainder (form : List (List ℤ)) (old new : List ℤ) : Type 0 where
  pub coefficients : List ℤ
  pub is : (j : ℕ) → number_at old j ≡ number_at new j +ℤ combined coefficients form j
  pub zeros : IsZeroAtPivots form new

-- a primitive row with the same pivot that is 0 at the pivot of the new row, and what the two spans have in common; its pivot entry divides the product of theirs
pub record IsCleared (n : ℕ) (new row cleared : List ℤ) : Type 0 where
  pub same_pivot : pivot cleared ≡ pivot row
  pub primitive : IsPrimitive n cleared
  pub zero_there : number_at cleared (pivot new) ≡ pos 0
  pub head : unsigned_abs (pivot_entry cleared) ∣ (unsigned_abs (pivot_entry new) * unsigned_abs (pivot_entry row))
  pub keeps : (j : ℕ) → number_at row j ≡ pos 0 → number_at new j ≡ pos 0 → number_at cleared j ≡ pos 0
  pub back : (span : List (List ℤ)) → InSpan span cleared → InSpan span new → InSpan span row
  pub there : (span : List (List ℤ)) → InSpan span row → InSpan span new → InSpan span cleared

-- the row has no entry above 2 ^ 56 when it is cleared
abbrev pub StaysSmall : ℕ → List ℤ → List ℤ → Type 0
StaysSmall n new row = (cleared : List ℤ) → IsCleared n new row cleared → IsSmall cleared

-- the rows cleared, each in its place
abbrev pub AreCleared : ℕ → List ℤ → List (List ℤ) → List (List ℤ) → Type 0
AreCleared n new [] [] = Unit {0}
AreCleared n new [] (cleared ∷ more) = ⊥
AreCleared n new (row ∷ rows) [] = ⊥
AreCleared n new (row ∷ rows) (cleared ∷ more) = IsCleared n new row cleared × AreCleared n new rows more

-- the pivot entry is the only one that is not 0
abbrev pub IsLone : List ℤ → Type 0
IsLone row = (j : ℕ) → j ≢ pivot row → number_at row j ≡ pos 0
