-- Which columns the span of rows ties to one another: whoever knows the number at one of them then knows the number at the other.
use Rattle.std.specs.Prelude.{◌≡◌, ◌≢◌, ◌⊎◌, ◌↔◌, ℕ, false, ℤ, pos, ◌*ℤ◌, List, [], ◌∷◌, map}
use Rattle.std.specs.List.{AllByRecursion}
use Rattle.audit_types.specs.Rows.{has_row}
use Rattle.audit_types.specs.Truth.{number_at}
use Rattle.audit_types.specs.Form.{InSpan, IsPrimitive, IsEchelon, pivot}
use Rattle.sum_basis.specs.declared.sparse.FreeEntry.{FreeEntry}
use Rattle.sum_basis.specs.declared.sparse.SparseRow.{SparseRow}
use Rattle.sum_basis.specs.Sparse.{scaled}

-- the row is one of these
abbrev pub IsRowOf : List ℤ → List (List ℤ) → Type 0
IsRowOf row [] = ⊥
IsRowOf row (r ∷ rows) = (r ≡ row) ⊎ IsRowOf row rows

-- a row of the span that isn't 0 at p, and is 0 but at p and q
pub record Ties (rows : List (List ℤ)) (p q : ℕ) : Type 0 where
  pub row : List ℤ
  pub spanned : InSpan rows row
  pub there : number_at row p ≢ pos 0
  pub only : (j : ℕ) → j ≢ p → j ≢ q → number_at row j ≡ pos 0

-- some column is tied to another one. A column that is known by itself is tied to each
abbrev pub TieSome : List (List ℤ) → Type 0
TieSome rows = (p : ℕ) × (q : ℕ) × (q ≢ p) × Ties rows p q

-- the row is 0 but at its pivot and at one more column at most
abbrev pub IsShort : List ℤ → Type 0
IsShort row = (q : ℕ) × ((j : ℕ) → j ≢ pivot row → j ≢ q → number_at row j ≡ pos 0)

-- but for their pivots, the two rows are multiples of each other
pub record AreParallel (row other : List ℤ) : Type 0 where
  pub apart : pivot row ≢ pivot other
  pub x : ℤ
  pub y : ℤ
  pub x_some : x ≢ pos 0
  pub y_some : y ≢ pos 0
  pub is : (j : ℕ) → j ≢ pivot row → j ≢ pivot other → x *ℤ number_at row j ≡ y *ℤ number_at other j

-- what shows in a form: a short row, or two parallel ones
abbrev pub ShowsTie : List (List ℤ) → Type 0
ShowsTie form =
    ((row : List ℤ) × IsRowOf row form × IsShort row)
    ⊎ ((row : List ℤ) × (other : List ℤ) × IsRowOf row form × IsRowOf other form × AreParallel row other)

-- the span of a form ties two columns exactly if the form shows it
abbrev pub TiesByForm : Type 0
TiesByForm = (n : ℕ) (form : List (List ℤ)) → AllByRecursion (IsPrimitive n) form → IsEchelon form → TieSome form ↔ ShowsTie form

-- ---- columns that are left out

-- one of the two columns isn't among the first, and the other not among the second
abbrev pub MayTell : List ℕ → List ℕ → ℕ → ℕ → Type 0
MayTell beside several p q = ((has_row beside p ≡ false) × (has_row several q ≡ false)) ⊎ ((has_row several p ≡ false) × (has_row beside q ≡ false))

-- some column that isn't among the first is tied to another one that isn't among the second
abbrev pub TieSomeBut : List ℕ → List ℕ → List (List ℤ) → Type 0
TieSomeBut beside several rows = (p : ℕ) × (q : ℕ) × (q ≢ p) × Ties rows p q × (has_row beside p ≡ false) × (has_row several q ≡ false)

-- but for its pivot and one more column at most the row is 0, and the number at one of the two may tell that at the other. What is 0 tells nothing
pub record IsShortBut (beside several : List ℕ) (row : List ℤ) : Type 0 where
  pub free : ℕ
  pub tells : MayTell beside several (pivot row) free
  pub some : (has_row beside (pivot row) ≡ false) ⊎ (number_at row free ≢ pos 0)
  pub zeros : (j : ℕ) → j ≢ pivot row → j ≢ free → number_at row j ≡ pos 0

-- the two rows are parallel, and the number at one of their pivots may tell that at the other
pub record AreParallelBut (beside several : List ℕ) (row other : List ℤ) : Type 0 where
  pub tells : MayTell beside several (pivot row) (pivot other)
  pub parallel : AreParallel row other

-- what shows in a form of these columns
abbrev pub ShowsTieBut : List ℕ → List ℕ → List (List ℤ) → Type 0
ShowsTieBut beside several form =
    ((row : List ℤ) × IsRowOf row form × IsShortBut beside several row)
    ⊎ ((row : List ℤ) × (other : List ℤ) × IsRowOf row form × IsRowOf other form × AreParallelBut beside several row other)

-- the span of a form ties two such columns exactly if the form shows it
abbrev pub TiesByFormBut : Type 0
TiesByFormBut =
    (n : ℕ) (beside several : List ℕ) (form : List (List ℤ)) → AllByRecursion (IsPrimitive n) form → IsEchelon form →
    TieSomeBut beside several form ↔ ShowsTieBut beside several form

-- ---- kept rows

-- two lists of entries, none empty, each of which is a multiple of the other
abbrev pub AreLikeLists : List FreeEntry → List FreeEntry → Type 0
AreLikeLists [] ys = ⊥
AreLikeLists (x ∷ xs) [] = ⊥
AreLikeLists (x ∷ xs) (y ∷ ys) = map (scaled y.value) (x ∷ xs) ≡ map (scaled x.value) (y ∷ ys)

-- the list of one of these rows is a multiple of the row's, and the number at one of the two pivots may tell that at the other
abbrev pub HasLikeListBut : List ℕ → List ℕ → List SparseRow → SparseRow → Type 0
HasLikeListBut beside several [] row = ⊥
HasLikeListBut beside several (r ∷ rows) row =
    (MayTell beside several r.pivot row.pivot × AreLikeLists r.free.items row.free.items) ⊎ HasLikeListBut beside several rows row
