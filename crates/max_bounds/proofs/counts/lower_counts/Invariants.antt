use Rattle.std.proofs.Common.{◌≡◌, ◌-◌, take, drop, map, length}
use Rattle.max_bounds.specs.Maxima.{answers_of}
use Rattle.max_bounds.specs.Reaching.{bound_at, reaching}
use Rattle.max_bounds.specs.Kept.{falls_of}
use Rattle.max_bounds.proofs.counts.lower_counts.Given as goal

abbrev pub invariant-loop-k : goal.invariant-loop-k
invariant-loop-k l = record {
  done : take l.k l.counts ≡ map (λ a. length (reaching (bound_at l.upper) a.rows a.value) - length (falls_of (bound_at l.upper) l.falling.list a))
      (answers_of (take l.k l.pairs.items));
  left : drop l.k l.counts ≡ drop l.k l.fn.counts;
}
