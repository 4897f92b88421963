-- A reduced form, as contracts see it.
use Rattle.std.specs.Prelude.{◌≡◌, ◌≢◌, ℕ, ◌<◌, ◌≤◌, ℤ, pos, ◌<ℤ◌, false, List, [], ◌∷◌, Option, unsigned_abs}
use Rattle.audit_types.specs.Limits.{most_width}
use Rattle.audit_types.specs.Rows.{has_row, IsLeast}
use Rattle.audit_types.specs.Form.{set_row, InSpan, IsLeastCommonMultiple, pivot, pivot_entries}
use Rattle.std.specs.List.{AllByRecursion}
use Rattle.sum_basis.specs.Limits.{most_columns}
use Rattle.sum_basis.specs.declared.sparse.SparseRow.{SparseRow}
use Rattle.sum_basis.specs.Sparse.{entry_at, rows_of, IsListed, IsKept}
use Rattle.sum_basis.specs.declared.sparse.FreeEntry.{FreeEntry}
use Rattle.audit_types.specs.Truth.{number_at}
use Rattle.sum_basis.specs.Elimination.{IsFormWithin}

-- a number of columns, the width that the form may have, and reduced rows in the order of their pivots
pub record Echelon : Type 0 where
  pub n : ℕ
  pub width : ℕ
  pub rows : List (List ℤ)

-- a width that a form may have
abbrev pub IsWidth : ℕ → Type 0
IsWidth width = (0 < width) × (width ≤ most_width)

-- the row of zeros and ones of one row number
abbrev pub unit_row : ℕ → ℕ → List ℤ
unit_row n i = set_row n (i ∷ [])

-- the unit row of this row number lies in the span
abbrev pub SpansUnit : Echelon → ℕ → Type 0
SpansUnit form i = (i < form.n) × InSpan form.rows (unit_row form.n i)

-- the least row number whose unit row does, if there is one
abbrev pub IsLeastUnit : Echelon → Option ℕ → Type 0
IsLeastUnit form least = IsLeast (SpansUnit form) least

-- the least row number that isn't shared whose unit row does
abbrev pub IsLeastOwnUnit : Echelon → List ℕ → Option ℕ → Type 0
IsLeastOwnUnit form shared least = IsLeast (λ i. SpansUnit form i × (has_row shared i ≡ false)) least

-- some unit row lies in the span
abbrev pub HasUnitRow : Echelon → Type 0
HasUnitRow form = (i : ℕ) × SpansUnit form i

-- what is true of the fields of every form: the kept rows are a reduced form, `common` is the multiple that makes it narrow, and no row has a
-- bound above `greatest_bound`
pub record IsForm (n width : ℕ) (common : ℤ) (greatest_bound : ℕ) (rows : List SparseRow) : Type 0 where
  pub some : 0 < n
  pub at_most : n ≤ most_columns
  pub width_fits : IsWidth width
  pub kept : AllByRecursion (IsKept n) rows
  pub form : IsFormWithin width n (rows_of n rows)
  pub positive : pos 0 <ℤ common
  pub within : unsigned_abs common ≤ width
  pub multiple : IsLeastCommonMultiple (pivot_entries (rows_of n rows)) (unsigned_abs common)
  pub bounded : AllByRecursion (λ r. r.most ≤ greatest_bound) rows

-- the entries of a row that are not 0, at the columns that are the pivot of no row, in ascending places
pub record IsFreeList (n : ℕ) (rows : List (List ℤ)) (row : List ℤ) (entries : List FreeEntry) : Type 0 where
  pub listed : IsListed 0 n entries
  pub free : AllByRecursion (λ (e : FreeEntry). AllByRecursion (λ other. pivot other ≢ e.place) rows) entries
  pub is : (j : ℕ) → AllByRecursion (λ other. pivot other ≢ j) rows → entry_at entries j ≡ number_at row j
