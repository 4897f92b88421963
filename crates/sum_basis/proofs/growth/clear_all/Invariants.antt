use Rattle.std.proofs.Common.{◌≡◌, ◌≤◌}
use Rattle.std.specs.Vec.{vec_capacity}
use Rattle.sum_basis.proofs.AllCleared.{IsPartlyCleared}
use Rattle.sum_basis.proofs.growth.clear_all.Given as goal

abbrev pub invariant-loop-k : goal.invariant-loop-k
invariant-loop-k l = record {
  cleared : IsPartlyCleared l.columns l.new l.initial.rows.items l.rows.items l.k;
  capacity : vec_capacity l.rows ≡ vec_capacity l.initial.rows;
  room : l.columns ≤ vec_capacity l.room;
  combined_room : l.columns ≤ vec_capacity l.combined;
}
