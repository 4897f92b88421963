use Rattle.std.proofs.Common.{◌≡◌, ◌++◌}
use Rattle.implied_records.proofs.HighestBounds.{IsHighestSoFar}
use Rattle.implied_records.proofs.following.highest_bound.Given as goal

abbrev pub invariant-loop-row : goal.invariant-loop-row
invariant-loop-row l = record {
  together : l.yielded ++ l.row-iterator ≡ l.rows.list;
  so_far : IsHighestSoFar l.bounds.answers l.yielded l.highest;
}
