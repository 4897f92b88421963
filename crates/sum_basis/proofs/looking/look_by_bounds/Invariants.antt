use Rattle.std.proofs.Common.{◌≤◌}
use Rattle.std.specs.Vec.{vec_capacity}
use Rattle.sum_basis.specs.Sparse.{row_of, rows_of}
use Rattle.sum_basis.proofs.LookingAhead.{IsGlanced}
use Rattle.sum_basis.proofs.looking.look_by_bounds.Given as goal

abbrev pub invariant-loop-row : goal.invariant-loop-row
invariant-loop-row l = record {
  glanced : IsGlanced l.columns l.fn.width (rows_of l.columns l.rows) (row_of l.columns l.new) l.row-index l.fixing;
  room : l.columns ≤ vec_capacity l.room;
}
