use Rattle.std.proofs.Common.{◌≡◌}
use Rattle.std.specs.Prelude.{nat_le}
use Rattle.audit_types.specs.Headcount.{count_at}
use Rattle.audit_types.specs.Rows.{rows_that}
use Rattle.audit_types.proofs.counted_rows.crowded.Given as goal

abbrev pub invariant-loop-row : goal.invariant-loop-row
invariant-loop-row l = record {
  same_n : l.rows.n ≡ l.n;
  so_far : l.rows.list ≡ rows_that (λ r. nat_le l.least (count_at l.counts r)) l.row;
}
