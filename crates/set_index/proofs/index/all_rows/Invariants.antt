-- The rows so far.
use Rattle.std.proofs.Common.{◌≡◌, true}
use Rattle.audit_types.specs.Rows.{rows_that}
use Rattle.set_index.proofs.index.all_rows.Given as goal

abbrev pub invariant-loop-row : goal.invariant-loop-row
invariant-loop-row l = l.list.items ≡ rows_that (λ r. true) l.row
