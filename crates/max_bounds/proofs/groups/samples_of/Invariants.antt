use Rattle.max_bounds.proofs.MarkedGroups.{AreSamplesBelow}
use Rattle.max_bounds.proofs.groups.samples_of.Given as goal

abbrev pub invariant-loop-number : goal.invariant-loop-number
invariant-loop-number l = AreSamplesBelow l.rows.list l.step l.number l.samples
