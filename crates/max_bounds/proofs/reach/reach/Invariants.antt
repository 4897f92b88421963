use Rattle.std.proofs.Common.{◌≡◌, ◌++◌}
use Rattle.max_bounds.specs.Reaching.{bound_at}
use Rattle.max_bounds.specs.Kept.{rows_at_least, rows_above}
use Rattle.max_bounds.proofs.reach.reach.Given as goal

abbrev pub invariant-loop-row : goal.invariant-loop-row
invariant-loop-row l = record {
  together : l.yielded ++ l.row-iterator ≡ l.rows.list;
  extremes_n : l.extremes.n ≡ l.rows.n;
  falling_n : l.falling.n ≡ l.rows.n;
  extremes : l.extremes.list ≡ rows_at_least (bound_at l.upper) l.answer l.yielded;
  falling : l.falling.list ≡ rows_above (bound_at l.upper) l.answer l.yielded;
}
