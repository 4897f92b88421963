use Rattle.witness_check.proofs.SumsSoFar.{IsSumSoFar}
use Rattle.witness_check.proofs.directions.sum_over.Given as goal

abbrev pub invariant-loop-row : goal.invariant-loop-row
invariant-loop-row l = IsSumSoFar l.numbers l.rows.list l.row-iterator l.sum
