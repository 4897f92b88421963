use Rattle.std.proofs.Common.{◌≡◌, ◌++◌, map, take, pos}
use Rattle.std.specs.Vec.{vec_capacity}
use Rattle.sum_basis.specs.Sparse.{scaled}
use Rattle.sum_basis.proofs.cleared_list.append_quotients.Given as goal

abbrev pub invariant-loop-e : goal.invariant-loop-e
invariant-loop-e l = record {
  items : map (scaled (pos l.by)) l.out.items ≡ map (scaled (pos l.by)) l.initial.out.items ++ take l.e-index l.entries;
  capacity : vec_capacity l.out ≡ vec_capacity l.initial.out;
}
