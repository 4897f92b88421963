use Rattle.std.proofs.Common.{take}
use Rattle.witness_build.specs.Directions.{IsSolvedWith}
use Rattle.witness_build.proofs.sums.solve.Given as goal

abbrev pub invariant-loop-k : goal.invariant-loop-k
invariant-loop-k l = IsSolvedWith l.basis.n l.common (take l.k l.basis.rows) l.free l.direction
