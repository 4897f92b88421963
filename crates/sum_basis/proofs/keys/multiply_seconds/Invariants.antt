use Rattle.std.proofs.Common.{ℕ, ◌<◌, pos, get_or}
use Rattle.sum_basis.specs.Points.{IsLeftModulo}
use Rattle.sum_basis.specs.Keys.{product_before}
use Rattle.sum_basis.proofs.keys.multiply_seconds.Given as goal

abbrev pub invariant-loop-j : goal.invariant-loop-j
invariant-loop-j l = record {
  before : (i : ℕ) → i < l.j → IsLeftModulo (pos (product_before l.points i)) (get_or l.products i 0);
  product : IsLeftModulo (pos (product_before l.points l.j)) l.product;
}
