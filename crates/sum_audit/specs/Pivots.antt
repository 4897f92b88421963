-- Facts on the pivots of a reduced form.
use Rattle.std.proofs.Common.{◌≡◌, ◌≢◌, ℕ, ◌<◌, false, ◌==◌, ℤ, List, [], ◌∷◌, sym}
use Rattle.std.specs.List.{AllByRecursion}
use Rattle.std.proofs.lemmas.Bool.{eq-eqb, or_parts}
use Rattle.audit_types.specs.Form.{pivot, IsPrimitive}
use Rattle.audit_types.specs.Direction.{is_pivot}
use Rattle.audit_types.specs.FormRows.{pivot_below}

-- a column that is no pivot isn't that of any row
pub no_pivot : (rows : List (List ℤ)) (j : ℕ) → is_pivot rows j ≡ false → AllByRecursion (λ row. j ≢ pivot row) rows
no_pivot [] j e = tt
no_pivot (row ∷ rows) j e = (
  (λ same. let there = eq-eqb (pivot row) j (sym same) in let not_there = (or_parts (pivot row == j) (is_pivot rows j) e).0 in absurd cc),
  no_pivot rows j (or_parts (pivot row == j) (is_pivot rows j) e).1,
)

-- each pivot is one of the columns
pub pivots_below : (n : ℕ) (rows : List (List ℤ)) → AllByRecursion (IsPrimitive n) rows → AllByRecursion (λ row. pivot row < n) rows
pivots_below n [] primitive = tt
pivots_below n (row ∷ rows) primitive = (pivot_below n row primitive.0, pivots_below n rows primitive.1)
