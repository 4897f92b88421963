use Rattle.sum_basis.specs.Keys.{AreWeights}
use Rattle.sum_basis.proofs.column_keys.weights_of.Given as goal

abbrev pub invariant-loop-column : goal.invariant-loop-column
invariant-loop-column l = AreWeights l.column l.weights.items
