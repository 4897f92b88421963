use Rattle.witness_build.proofs.Dividing.{IsPartlyTurned}
use Rattle.witness_build.proofs.sums.turn.Given as goal

abbrev pub invariant-loop-x : goal.invariant-loop-x
invariant-loop-x l = IsPartlyTurned l.initial.numbers l.numbers l.x-index
