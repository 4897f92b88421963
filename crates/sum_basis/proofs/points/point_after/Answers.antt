use Rattle.std.specs.Int.{w128}
use Rattle.std.proofs.lemmas.Int.{to_z-of_z}
use Rattle.sum_basis.proofs.PointSums.{point_cleared}
use Rattle.sum_basis.proofs.points.point_after.Goals as goal

pub returns-in-Some : goal.returns-in-Some
returns-in-Some c =
    rw c.in-Some.is
    (point_cleared c.in-Some.new c.args.point c.cleared.result c.args.value c.residue.result
    (rw (to_z-of_z w128 c.args.value c.ranges.value) at c.residue.ensures) c.cleared.ensures.first c.cleared.ensures.second)
