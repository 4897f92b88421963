use Rattle.sum_basis.specs.Keys.{AreUnknownPoints}
use Rattle.sum_basis.proofs.column_keys.unknown_points.Given as goal

abbrev pub invariant-loop-column : goal.invariant-loop-column
invariant-loop-column l = AreUnknownPoints l.kept l.column l.some.columns.items l.some.points.items
