-- One row of a form with a new row.
use Rattle.std.specs.Prelude.{◌≡◌, ℕ, ℤ, List, [], ◌∷◌, ◌++◌, ◌<◌, false, Option, length, slice_index_or}
use Rattle.audit_types.specs.Form.{InSpan, IsNarrow, IsReducedForm, Reduced, pivot}
use Rattle.audit_types.specs.Rows.{has_row}
use Rattle.sum_basis.specs.Basis.{Echelon, IsLeastOwnUnit, unit_row}
use Rattle.sum_basis.specs.Growth.{GrowsTo}
use Rattle.sum_basis.specs.Ties.{IsRowOf}
use Rattle.sum_basis.specs.declared.row_with.RowWith.{RowWith}
use Rattle.sum_basis.specs.declared.row_with.RowWith.TheVariants.{Wide, Nothing, Row}

-- a row of a form that has its pivot at this place
pub record IsRowAt (form : List (List ℤ)) (place : ℕ) (row : List ℤ) : Type 0 where
  pub among : IsRowOf row form
  pub at_place : pivot row ≡ place

-- what is told of the row with this pivot of the reduced form of some rows and a new one
abbrev pub IsRowGrown : ℕ → List (List ℤ) → List ℤ → ℕ → RowWith → Type 0
IsRowGrown n rows new place Wide = ⊥
IsRowGrown n rows new place Nothing = Unit {0}
IsRowGrown n rows new place (Row row) = (grown : List (List ℤ)) → IsReducedForm n (rows ++ new ∷ []) grown → IsRowAt grown place row

-- what is told of the row with this pivot of a form with one more row, whatever rows the form stands for
abbrev pub IsRowWith : Echelon → List ℤ → ℕ → RowWith → Type 0
IsRowWith old row place Wide = (rows : List (List ℤ)) → IsReducedForm old.n rows old.rows → (form : List (List ℤ)) × IsReducedForm old.n (rows ++ row ∷ []) form × ¬ (IsNarrow old.width form)
IsRowWith old row place Nothing = Unit {0}
IsRowWith old row place (Row whole) =
    (new : Echelon) × GrowsTo old row new × IsRowAt new.rows place whole × ((rows : List (List ℤ)) → IsReducedForm old.n rows old.rows → IsReducedForm old.n (rows ++ row ∷ []) new.rows)

-- a column that isn't shared, whose unit row lies in the span
pub record IsPinned (n : ℕ) (form : List (List ℤ)) (shared : List ℕ) (i : ℕ) : Type 0 where
  pub within : i < n
  pub spanned : InSpan form (unit_row n i)
  pub own : has_row shared i ≡ false

-- the same of a pivot of these rows
pub record IsPinnedPivot (n : ℕ) (rows form : List (List ℤ)) (shared : List ℕ) (i : ℕ) : Type 0 where
  pub pinned : IsPinned n form shared i
  pub k : ℕ
  pub is_row : k < length rows
  pub at_pivot : pivot (slice_index_or rows k []) ≡ i

-- the least row that isn't shared whose unit row lies in the span of the form of some sets and one more, if that is narrow
abbrev pub IsLeastOwnUnitWith : Echelon → List ℕ → List ℕ → Option ℕ → Type 0
IsLeastOwnUnitWith form shared rows least =
    (sets : List (List ℕ)) (new : Echelon) → Reduced form.n sets form.rows → new.n ≡ form.n → Reduced form.n (sets ++ rows ∷ []) new.rows →
    IsNarrow form.width new.rows → IsLeastOwnUnit new shared least
