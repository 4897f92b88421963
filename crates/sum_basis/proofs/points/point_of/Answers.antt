use Rattle.std.proofs.Common.{length, get_or, refl, rules}
use Rattle.std.specs.Prelude.{FitsSigned}
use Rattle.std.specs.Int.{w128}
use Rattle.sum_basis.proofs.MergedNumbers.{passed}
use Rattle.sum_basis.proofs.ListContents.{none}
use Rattle.sum_basis.proofs.SparseRows.{stands_within}
use Rattle.sum_basis.proofs.PointSums.{point_of_none, point_more}
use Rattle.sum_basis.proofs.points.point_of.Goals as goal

pub bounds-weights-e : goal.bounds-weights-e
bounds-weights-e c =
    (stands_within 0 (length c.args.weights.now) c.args.entries.now c.loop-e.e-index none c.requires.0 c.loop-e-test.true).inside

pub loop-e-init : goal.loop-e-init
loop-e-init c = point_of_none c.args.weights.now

pub loop-e-preserved : goal.loop-e-preserved
loop-e-preserved c =
    let fits : FitsSigned w128 c.number.result = search rules in
    point_more c.args.weights.now c.args.entries.now c.loop-e.e-index c.residue.result _ c.loop-e.point c.with_value-point.result c.loop-e-test.true refl
    (rw (passed c.number.result (get_or c.args.entries.now c.loop-e.e-index none).value fits c.number.ensures) at c.residue.ensures) c.loop-e.invariant
    c.with_value-point.ensures.first c.with_value-point.ensures.second
