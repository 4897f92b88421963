use Rattle.std.proofs.Common.{◌≡◌, length, take}
use Rattle.std.specs.Vec.{vec_capacity}
use Rattle.std.specs.List.{AllByRecursion}
use Rattle.sum_basis.specs.Sparse.{rows_of, IsKept}
use Rattle.sum_basis.proofs.sparse.copy_rows.Given as goal

abbrev pub invariant-loop-row : goal.invariant-loop-row
invariant-loop-row l = record {
  same : rows_of l.columns l.copies.items ≡ rows_of l.columns (take l.row-index l.rows);
  kept : AllByRecursion (IsKept l.columns) l.copies.items;
  count : length l.copies.items ≡ l.row-index;
  room : vec_capacity l.copies ≡ length l.rows;
}
