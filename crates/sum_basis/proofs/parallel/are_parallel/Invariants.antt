use Rattle.std.proofs.Common.{◌≡◌, length, map, take}
use Rattle.sum_basis.specs.Sparse.{scaled}
use Rattle.sum_basis.proofs.parallel.are_parallel.Given as goal

abbrev pub invariant-loop-one : goal.invariant-loop-one
invariant-loop-one l = map (scaled l.fn.by) (take (length l.yielded) l.first) ≡ map (scaled l.fn.times) (take (length l.yielded) l.second)
