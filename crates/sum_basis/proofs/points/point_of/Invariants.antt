use Rattle.std.proofs.Common.{[], take}
use Rattle.sum_basis.specs.Points.{IsPointAfter}
use Rattle.sum_basis.proofs.points.point_of.Given as goal

abbrev pub invariant-loop-e : goal.invariant-loop-e
invariant-loop-e l = IsPointAfter l.weights [] (take l.e-index l.entries) l.point
