use Rattle.denial_proof.proofs.GreatestSoFar.{IsGreatestSoFar}
use Rattle.denial_proof.proofs.heights.greatest_over.Given as goal

abbrev pub invariant-loop-row : goal.invariant-loop-row
invariant-loop-row l = IsGreatestSoFar l.numbers l.rows.list l.row-iterator l.greatest
