use Rattle.std.proofs.Common.{◌≡◌, ◌++◌}
use Rattle.max_bounds.specs.Reaching.{bound_at}
use Rattle.max_bounds.specs.Kept.{AreSettled}
use Rattle.max_bounds.proofs.reach.are_settled.Given as goal

abbrev pub invariant-loop-row : goal.invariant-loop-row
invariant-loop-row l = record {
  together : l.yielded ++ l.row-iterator ≡ l.rows.list;
  settled : AreSettled (bound_at l.upper) l.answer l.yielded;
}
