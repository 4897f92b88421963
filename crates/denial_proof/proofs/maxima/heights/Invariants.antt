use Rattle.max_bounds.specs.Maxima.{and_answer}
use Rattle.denial_proof.proofs.FirstPairs.{AreHeightsSoFar}
use Rattle.denial_proof.proofs.maxima.heights.Given as goal

abbrev pub invariant-loop-row : goal.invariant-loop-row
invariant-loop-row l = AreHeightsSoFar (and_answer l.bounds.answers l.rows.list l.answer) l.row l.list.items
