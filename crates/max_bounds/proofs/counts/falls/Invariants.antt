use Rattle.std.proofs.Common.{◌≡◌, ◌++◌, length}
use Rattle.max_bounds.specs.Maxima.{answer_of, pair_at}
use Rattle.max_bounds.specs.Reaching.{bound_at}
use Rattle.max_bounds.specs.Kept.{falls_of}
use Rattle.max_bounds.proofs.counts.falls.Given as goal

abbrev pub invariant-loop-row : goal.invariant-loop-row
invariant-loop-row l = record {
  together : l.yielded ++ l.row-iterator ≡ l.falling.list;
  counted : l.count ≡ length (falls_of (bound_at l.upper) l.yielded (answer_of (pair_at l.pairs.items l.k)));
}
