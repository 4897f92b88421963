use Rattle.std.proofs.Common.{◌≡◌, ◌/◌, ◌==◌, ◌&&◌}
use Rattle.std.specs.Prelude.{nat_lt}
use Rattle.audit_types.specs.Rows.{rows_that}
use Rattle.table_load.proofs.blocks.block_rows.Given as goal

abbrev pub invariant-loop-row : goal.invariant-loop-row
invariant-loop-row l = record { same_n : l.rows.n ≡ l.n; so_far : l.rows.list ≡ rows_that (λ r. (r / 64 == l.block) && nat_lt r l.row) l.n }
