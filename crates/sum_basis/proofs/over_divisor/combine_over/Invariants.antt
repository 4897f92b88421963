use Rattle.std.proofs.Common.{◌≡◌, ◌-◌, ◌+◌, length, map, pos}
use Rattle.std.specs.Vec.{vec_capacity}
use Rattle.sum_basis.specs.Sparse.{scaled}
use Rattle.sum_basis.proofs.Merges.{IsMerging}
use Rattle.sum_basis.proofs.over_divisor.combine_over.Given as goal

abbrev pub invariant-loop-i : goal.invariant-loop-i
invariant-loop-i l = record {
  merging : IsMerging l.columns l.fn.by l.first l.fn.times l.second (map (scaled (pos l.divisor)) l.out.items) l.i l.j;
  capacity : vec_capacity l.out ≡ vec_capacity l.initial.out;
}

abbrev pub decreases-loop-i : goal.decreases-loop-i
decreases-loop-i l = (length l.first + length l.second) - (l.i + l.j)
