-- Rows of a reduced form at each other's pivots.
use Rattle.std.proofs.Common.{◌≡◌, ◌≢◌, ℕ, zero, suc, ◌<◌, true, false, ◌||◌, ◌==◌, ℤ, List, [], ◌∷◌, ◌++◌, length, get_or, take, refl, arith}
use Rattle.std.specs.List.{AllByRecursion}
use Rattle.std.proofs.lemmas.Bool.{or_left, eq-eqb, or_right}
use Rattle.std.proofs.lemmas.List.Folds.{list_any-append}
use Rattle.audit_types.specs.Form.{pivot, IsEchelon, StandsBefore}
use Rattle.audit_types.specs.Direction.{is_pivot}

pub is_pivot_at : (form : List (List ℤ)) (k : ℕ) → k < length form → is_pivot form (pivot (get_or form k [])) ≡ true
is_pivot_at [] k h = absurd (omega arith)
is_pivot_at (row ∷ rows) zero h = or_left (pivot row == pivot row) (is_pivot rows (pivot row)) (eq-eqb (pivot row) (pivot row) refl)
is_pivot_at (row ∷ rows) (suc k) h = or_right (pivot row == pivot (get_or rows k [])) _ (is_pivot_at rows k (omega arith))

stands_before_at : (row : List ℤ) (rows : List (List ℤ)) (k : ℕ) → k < length rows → AllByRecursion (StandsBefore row) rows →
    pivot row < pivot (get_or rows k [])
stands_before_at row [] k l h = absurd (omega arith)
stands_before_at row (r ∷ rows) zero l h = h.0.0
stands_before_at row (r ∷ rows) (suc k) l h = stands_before_at row rows k (omega arith) h.1

-- the rows before row k have other pivots
pub other_pivots : (form : List (List ℤ)) (k : ℕ) → IsEchelon form → k < length form → AllByRecursion (λ r. pivot r ≢ pivot (get_or form k [])) (take k form)
other_pivots form zero h l = tt
other_pivots [] (suc k) h l = tt
other_pivots (row ∷ rows) (suc k) h l =
    ((λ e. let before = stands_before_at row rows k (omega arith) h.0 in omega arith), other_pivots rows k h.1 (omega arith))

-- the pivots of the first rows and of one more
pub is_pivot-more : (rows : List (List ℤ)) (row : List ℤ) (j : ℕ) → is_pivot (rows ++ row ∷ []) j ≡ (is_pivot rows j || (pivot row == j || false))
is_pivot-more rows row j = list_any-append (λ r. pivot r == j) rows (row ∷ [])
