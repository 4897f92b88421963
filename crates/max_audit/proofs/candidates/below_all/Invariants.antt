use Rattle.std.proofs.Common.{take}
use Rattle.max_bounds.specs.Maxima.{answers_of}
use Rattle.max_audit.proofs.CandidateLists.{IsLeastSoFar}
use Rattle.max_audit.proofs.candidates.below_all.Given as goal

abbrev pub invariant-loop-k : goal.invariant-loop-k
invariant-loop-k l = IsLeastSoFar (answers_of l.pairs.items) (answers_of (take l.k l.pairs.items)) l.least
