-- Rational row spaces of lists of whole numbers, and their one reduced form.
use Rattle.std.specs.Prelude.{◌≡◌, ℕ, ℤ, pos, ◌+ℤ◌, ◌*ℤ◌, ◌<ℤ◌, ◌<◌, ◌≤◌, cond, not, List, [], ◌∷◌, map, length, unsigned_abs}
use Rattle.std.specs.List.{AllByRecursion, position_or_len, range_with_len}
use Rattle.std.specs.Int.{◌∣◌}
use Rattle.audit_types.specs.Rows.{has_row}
use Rattle.audit_types.specs.Truth.{is_zero, number_at}

-- the row of zeros and ones of a set of rows, over n columns
abbrev pub set_row : ℕ → List ℕ → List ℤ
set_row n rows = map (λ r. cond (has_row rows r) (pos 1) (pos 0)) (range_with_len 0 n)

-- column j of the sum of the rows, each taken as many times as its coefficient says
abbrev pub combined : List ℤ → List (List ℤ) → ℕ → ℤ
combined [] rows j = pos 0
combined (c ∷ cs) [] j = pos 0
combined (c ∷ cs) (row ∷ rows) j = c *ℤ number_at row j +ℤ combined cs rows j

-- some positive multiple of the row is a sum of whole multiples of the rows
pub record InSpan (rows : List (List ℤ)) (row : List ℤ) : Type 0 where
  pub multiple : ℕ
  pub positive : 0 < multiple
  pub coefficients : List ℤ
  pub is : (j : ℕ) → pos multiple *ℤ number_at row j ≡ combined coefficients rows j

-- g divides each entry, and so does no number that does not divide g
pub record IsContent (row : List ℤ) (g : ℕ) : Type 0 where
  pub divides : AllByRecursion (λ x. g ∣ unsigned_abs x) row
  pub greatest : (d : ℕ) → AllByRecursion (λ x. d ∣ unsigned_abs x) row → d ∣ g

-- the place of the first entry that is not 0
abbrev pub pivot : List ℤ → ℕ
pivot row = position_or_len (λ x. not (is_zero x)) row

-- the first entry that is not 0
abbrev pub pivot_entry : List ℤ → ℤ
pivot_entry row = number_at row (pivot row)

-- n entries with no common divisor but 1, the first that is not 0 positive
pub record IsPrimitive (n : ℕ) (row : List ℤ) : Type 0 where
  pub one_each : length row ≡ n
  pub content : IsContent row 1
  pub leading : pos 0 <ℤ pivot_entry row

-- the pivots of the rows after this one come later, and none of these rows is nonzero at another's pivot
abbrev pub StandsBefore : List ℤ → List ℤ → Type 0
StandsBefore row later = (pivot row < pivot later) × (number_at row (pivot later) ≡ pos 0) × (number_at later (pivot row) ≡ pos 0)

-- rows in the order of their pivots, each 0 at the pivots of the others
abbrev pub IsEchelon : List (List ℤ) → Type 0
IsEchelon [] = Unit {0}
IsEchelon (row ∷ rows) = AllByRecursion (StandsBefore row) rows × IsEchelon rows

-- the reduced form of the row space of `rows` over n columns
pub record IsReducedForm (n : ℕ) (rows form : List (List ℤ)) : Type 0 where
  pub primitive : AllByRecursion (IsPrimitive n) form
  pub echelon : IsEchelon form
  pub within : AllByRecursion (InSpan rows) form
  pub spans : AllByRecursion (InSpan form) rows

-- the reduced form of the rows of zeros and ones of these sets
abbrev pub Reduced : ℕ → List (List ℕ) → List (List ℤ) → Type 0
Reduced n sets form = IsReducedForm n (map (set_row n) sets) form

-- m is the least common multiple, 1 for no numbers
pub record IsLeastCommonMultiple (numbers : List ℕ) (m : ℕ) : Type 0 where
  pub multiple : AllByRecursion (λ x. x ∣ m) numbers
  pub least : (k : ℕ) → AllByRecursion (λ x. x ∣ k) numbers → m ∣ k

-- the pivot entries of a reduced form
abbrev pub pivot_entries : List (List ℤ) → List ℕ
pivot_entries form = map (λ row. unsigned_abs (pivot_entry row)) form

-- no entry, and no least common multiple of the pivot entries, is above the width
pub record IsNarrow (width : ℕ) (form : List (List ℤ)) : Type 0 where
  pub entries : AllByRecursion (AllByRecursion (λ x. unsigned_abs x ≤ width)) form
  pub common : ℕ
  pub common_is : IsLeastCommonMultiple (pivot_entries form) common
  pub common_small : common ≤ width

-- the reduced form of the sets is narrow
pub record HasNarrowForm (width n : ℕ) (sets : List (List ℕ)) : Type 0 where
  pub form : List (List ℤ)
  pub reduced : Reduced n sets form
  pub narrow : IsNarrow width form

-- the reduced form of the sets is not narrow
pub record HasWideForm (width n : ℕ) (sets : List (List ℕ)) : Type 0 where
  pub form : List (List ℤ)
  pub reduced : Reduced n sets form
  pub wide : ¬ (IsNarrow width form)
