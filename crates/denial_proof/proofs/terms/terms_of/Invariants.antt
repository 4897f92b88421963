use Rattle.denial_proof.proofs.TermsSoFar.{AreTermsSoFar}
use Rattle.denial_proof.proofs.terms.terms_of.Given as goal

abbrev pub invariant-loop-k : goal.invariant-loop-k
invariant-loop-k l = AreTermsSoFar l.places l.numbers l.k l.terms.items
