use Rattle.std.proofs.Common.{take}
use Rattle.max_bounds.specs.Maxima.{answers_of}
use Rattle.max_bounds.proofs.Lowering.{AreBounds}
use Rattle.max_bounds.proofs.upper_bounds.upper_bounds.Given as goal

abbrev pub invariant-loop-k : goal.invariant-loop-k
invariant-loop-k l = AreBounds (answers_of (take l.k l.pairs.items)) l.bounds
