use Rattle.sum_basis.specs.Keys.{AreTouchedPoints}
use Rattle.sum_basis.proofs.telling.touched_points.Given as goal

abbrev pub invariant-loop-k : goal.invariant-loop-k
invariant-loop-k l =
    AreTouchedPoints l.form l.kept.weights.items l.list l.beside.list l.several.list l.k l.some.columns.items l.some.points.items
