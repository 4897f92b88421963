use Rattle.std.proofs.Common.{take}
use Rattle.witness_check.specs.Directions.{HasZeroSums, lists_of}
use Rattle.witness_check.proofs.directions.has_zero_sums.Given as goal

abbrev pub invariant-loop-set : goal.invariant-loop-set
invariant-loop-set l = HasZeroSums l.numbers (lists_of (take l.set-index l.sets))
