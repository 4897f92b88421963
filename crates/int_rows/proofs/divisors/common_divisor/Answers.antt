use Rattle.std.proofs.Common.{◌≡◌, ◌≤◌, ◌%◌, ◌^◌, ℕ, subst, arith}
use Rattle.std.specs.Int.{IsGcd}
use Rattle.std.proofs.lemmas.Nat.{mod_below}
use Rattle.std.proofs.lemmas.Nat.Gcd.{IsGcd-from_zero, IsGcd-from_mod}
use Rattle.int_rows.proofs.divisors.common_divisor.Goals as goal

from_rest : (x y rest g : ℕ) → rest ≡ x % y → IsGcd y rest g → IsGcd x y g
from_rest x y rest g e h = IsGcd-from_mod x y g (subst (λ m. IsGcd y m g) e h)

small_rest : (x y rest : ℕ) → rest ≡ x % y → ¬ (y ≡ 0) → y ≤ 2 ^ 126 → rest ≤ 2 ^ 126
small_rest x y rest e n h = let below = mod_below x y (omega arith) in omega arith

pub loop-y-preserved : goal.loop-y-preserved
loop-y-preserved c = record {
  same = λ g h. c.loop-y.invariant.same g (from_rest _ _ _ g c.remainder-rest.ensures h);
  x_small = c.loop-y.invariant.y_small;
  y_small = small_rest c.loop-y.x c.loop-y.y c.remainder-rest.result c.remainder-rest.ensures c.loop-y-test.true c.loop-y.invariant.y_small;
}

pub returns-clause-divisor : goal.returns-clause-divisor
returns-clause-divisor c = c.loop-y.invariant.same _ (IsGcd-from_zero _ _ (omega arith))
