use Rattle.std.proofs.Common.{◌≡◌, ◌++◌, map, take}
use Rattle.std.specs.Vec.{vec_capacity}
use Rattle.sum_basis.specs.Sparse.{scaled}
use Rattle.sum_basis.proofs.merging.append.Given as goal

abbrev pub invariant-loop-e : goal.invariant-loop-e
invariant-loop-e l = record {
  items : l.out.items ≡ l.initial.out.items ++ map (scaled l.fn.by) (take l.e-index l.rest);
  capacity : vec_capacity l.out ≡ vec_capacity l.initial.out;
}
