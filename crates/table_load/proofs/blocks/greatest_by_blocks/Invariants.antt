use Rattle.std.proofs.Common.{◌≡◌, map}
use Rattle.std.specs.List.{fold}
use Rattle.std.specs.Int.{int_max}
use Rattle.audit_types.specs.Truth.{number_at, greatest_over}
use Rattle.audit_types.specs.Rows.{AreRows}
use Rattle.table_load.proofs.blocks.greatest_by_blocks.Given as goal

abbrev pub invariant-loop-block : goal.invariant-loop-block
invariant-loop-block l = record {
  same_n : l.left.n ≡ l.rows.n;
  are : AreRows l.rows.n l.left.list;
  greatest : fold int_max l.greatest (map (number_at l.list) l.left.list) ≡ greatest_over l.list l.rows.list;
}
