use Rattle.std.proofs.Common.{ℕ, ◌≤◌, ◌^◌}
use Rattle.std.specs.Int.{IsGcd}
use Rattle.int_rows.proofs.divisors.common_divisor.Given as goal

abbrev pub invariant-loop-y : goal.invariant-loop-y
invariant-loop-y l = record {
  same : (g : ℕ) → IsGcd l.x l.y g → IsGcd l.fn.a l.fn.b g;
  x_small : l.x ≤ 2 ^ 126;
  y_small : l.y ≤ 2 ^ 126;
}

abbrev pub decreases-loop-y : goal.decreases-loop-y
decreases-loop-y l = l.y
