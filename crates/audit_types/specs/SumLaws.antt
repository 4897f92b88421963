-- Facts on sums over rows.
use Rattle.std.proofs.Common.{◌≡◌, ℕ, ℤ, List, [], ◌∷◌, ◌++◌, arith}
use Rattle.std.specs.Prelude.{◌+ℤ◌}
use Rattle.std.proofs.lemmas.Int.{ints}
use Rattle.audit_types.specs.Truth.{sum_over}

-- a sum over two lists of rows
pub sum_over-append : (d : List ℤ) (xs ys : List ℕ) → sum_over d (xs ++ ys) ≡ sum_over d xs +ℤ sum_over d ys
sum_over-append d [] ys = omega (arith, ints)
sum_over-append d (x ∷ xs) ys = let rest = sum_over-append d xs ys in omega (arith, ints)
