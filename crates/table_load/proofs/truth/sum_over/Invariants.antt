use Rattle.std.proofs.Common.{◌≡◌, ◌++◌, ◌*◌, ◌^◌, ◌≤◌, length}
use Rattle.std.specs.Prelude.{◌+ℤ◌, unsigned_abs}
use Rattle.audit_types.specs.Truth.{sum_over}
use Rattle.table_load.proofs.truth.sum_over.Given as goal

abbrev pub invariant-loop-row : goal.invariant-loop-row
invariant-loop-row l = record {
  together : l.yielded ++ l.row-iterator ≡ l.rows.list;
  total : l.sum +ℤ sum_over l.list l.row-iterator ≡ sum_over l.list l.rows.list;
  small : unsigned_abs l.sum ≤ 10 ^ 12 * length l.yielded;
}
