use Rattle.std.proofs.Common.{◌≡◌, drop}
use Rattle.audit_types.specs.Direction.{free_column_of}
use Rattle.witness_build.proofs.sums.free_column.Given as goal

abbrev pub invariant-loop-k : goal.invariant-loop-k
invariant-loop-k l = free_column_of l.basis.rows l.basis.rows l.row ≡ free_column_of l.basis.rows (drop l.k l.basis.rows) l.row
