use Rattle.std.proofs.Common.{◌≡◌, ◌*◌, ◌^◌, ◌≤◌}
use Rattle.std.specs.Prelude.{◌+ℤ◌, unsigned_abs}
use Rattle.audit_types.specs.Limits.{most_answer}
use Rattle.audit_types.specs.Truth.{sum_over}
use Rattle.audit_types.specs.Rows.{AreRows}
use Rattle.table_load.proofs.blocks.sum_by_blocks.Given as goal

abbrev pub invariant-loop-block : goal.invariant-loop-block
invariant-loop-block l = record {
  same_n : l.left.n ≡ l.rows.n;
  are : AreRows l.rows.n l.left.list;
  total : l.sum +ℤ sum_over l.list l.left.list ≡ sum_over l.list l.rows.list;
  small : unsigned_abs l.sum ≤ most_answer * l.block;
}
