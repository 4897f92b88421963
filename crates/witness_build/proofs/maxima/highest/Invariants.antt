use Rattle.witness_build.proofs.HighestList.{IsHighestSoFar}
use Rattle.witness_build.proofs.maxima.highest.Given as goal

abbrev pub invariant-loop-row : goal.invariant-loop-row
invariant-loop-row l = IsHighestSoFar l.bounds.answers l.row l.list.items
