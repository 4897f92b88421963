use Rattle.witness_check.proofs.GreatestSoFar.{IsGreatestSoFar}
use Rattle.witness_check.proofs.pairs.greatest.Given as goal

abbrev pub invariant-loop-row : goal.invariant-loop-row
invariant-loop-row l = IsGreatestSoFar l.numbers l.rows.list l.row-iterator l.greatest
