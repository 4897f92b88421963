use Rattle.std.proofs.Common.{ℕ, ◌*◌, ◌<◌, ◌≤◌, pos, length, get_or}
use Rattle.sum_basis.specs.Points.{IsLeftModulo, IsKey}
use Rattle.sum_basis.specs.Keys.{product_before}
use Rattle.sum_basis.proofs.KeyProducts.{no_point}
use Rattle.sum_basis.proofs.keys.keys_of.Given as goal

abbrev pub invariant-loop-j : goal.invariant-loop-j
invariant-loop-j l = record {
  keyed : (i : ℕ) → l.j ≤ i → i < length l.points → IsKey (get_or l.points i no_point) (get_or l.keys i 0);
  left : (i : ℕ) → i < l.j → IsLeftModulo (pos (product_before l.points i)) (get_or l.keys i 0);
  inverse : IsLeftModulo (pos (product_before l.points l.j * l.inverse)) 1;
}
