use Rattle.std.proofs.Common.{ℕ, ◌<◌}
use Rattle.std.specs.Prelude.{◌*ℤ◌, ◌-ℤ◌, unsigned_abs}
use Rattle.std.specs.Int.{◌∣◌}
use Rattle.sum_basis.specs.Sparse.{entry_at}
use Rattle.sum_basis.proofs.over_divisor.first_divisor.Given as goal

abbrev pub invariant-loop-k : goal.invariant-loop-k
invariant-loop-k l = record {
  divides : l.divisor ∣ unsigned_abs l.fn.head;
  positive : 0 < l.divisor;
  greatest : (d : ℕ) → d ∣ unsigned_abs l.fn.head → ((j : ℕ) → d ∣ unsigned_abs (l.fn.by *ℤ entry_at l.first j -ℤ l.fn.times *ℤ entry_at l.second j)) →
      d ∣ l.divisor;
}
