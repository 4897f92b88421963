use Rattle.std.proofs.Common.{◌≡◌, ◌++◌}
use Rattle.max_bounds.proofs.high_rows.has_at_least.Given as goal

abbrev pub invariant-loop-row : goal.invariant-loop-row
invariant-loop-row l = record { together : l.yielded ++ l.row-iterator ≡ l.rows.list }
