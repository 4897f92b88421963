use Rattle.std.proofs.Common.{◌≡◌, ◌++◌, map, take, pos}
use Rattle.std.specs.Vec.{vec_capacity}
use Rattle.sum_basis.specs.Sparse.{scaled}
use Rattle.sum_basis.proofs.over_divisor.append_over.Given as goal

abbrev pub invariant-loop-e : goal.invariant-loop-e
invariant-loop-e l = record {
  items : map (scaled (pos l.divisor)) l.out.items ≡ map (scaled (pos l.divisor)) l.initial.out.items ++ map (scaled l.fn.by) (take l.e-index l.rest);
  capacity : vec_capacity l.out ≡ vec_capacity l.initial.out;
}
