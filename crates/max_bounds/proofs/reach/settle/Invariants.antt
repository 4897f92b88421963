use Rattle.std.proofs.Common.{◌≡◌, ◌++◌, ℕ, cond, Some}
use Rattle.audit_types.specs.Rows.{has_row}
use Rattle.max_bounds.specs.Reaching.{bound_at}
use Rattle.max_bounds.proofs.reach.settle.Given as goal

abbrev pub invariant-loop-row : goal.invariant-loop-row
invariant-loop-row l = record {
  together : l.yielded ++ l.row-iterator ≡ l.affected.extremes.list;
  settled : (r : ℕ) → bound_at l.upper r ≡ cond (has_row l.yielded r) (Some l.answer) (bound_at l.fn.upper r);
}
