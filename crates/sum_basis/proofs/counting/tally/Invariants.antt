use Rattle.sum_basis.proofs.Tallies.{IsPartlyTallied}
use Rattle.sum_basis.proofs.counting.tally.Given as goal

abbrev pub invariant-loop-e : goal.invariant-loop-e
invariant-loop-e l = IsPartlyTallied l.initial.counts l.counts l.entries l.e-index
