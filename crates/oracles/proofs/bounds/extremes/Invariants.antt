use Rattle.std.proofs.Common.{◌≡◌, ◌++◌, ◌&&◌}
use Rattle.audit_types.specs.Rows.{has_row, rows_that}
use Rattle.audit_types.specs.Extremes.{upper_bound, is_bound}
use Rattle.audit_types.specs.History.{answers_of}
use Rattle.oracles.proofs.bounds.extremes.Given as goal

abbrev pub invariant-loop-row : goal.invariant-loop-row
invariant-loop-row l = record {
  together : l.yielded ++ l.row-iterator ≡ l.answered.rows.list;
  same_n : l.extremes.n ≡ l.answered.rows.n;
  rows : l.extremes.list ≡ rows_that (λ r. has_row l.yielded r && is_bound
      (upper_bound (answers_of l.answered.column l.history) r) l.answered.answer) l.answered.rows.n;
}
