use Rattle.std.proofs.Common.{ℕ, ◌<◌, ◌≤◌, get_or}
use Rattle.std.specs.Prelude.{bit_and}
use Rattle.std.specs.Int.Count.{ones}
use Rattle.max_bounds.proofs.unshown.next_maybe_few.Given as goal

abbrev pub invariant-loop-k : goal.invariant-loop-k
invariant-loop-k l = (i : ℕ) → l.from ≤ i → i < l.k → l.enough ≤ ones (bit_and (get_or l.marks i 0) l.lacking)
