use Rattle.std.proofs.Common.{◌+◌, ◌-◌, ◌^◌, length}
use Rattle.transcript_sim.proofs.Turns.{Turn}
use Rattle.transcript_sim.proofs.simulating.judge.Given as goal

abbrev pub invariant-loop-expected : goal.invariant-loop-expected
invariant-loop-expected g l = Turn g.P.Source g.B.Bench l.index l.initial.simulation.core.history l.fn.source l.source l.fn.bench l.bench
    l.simulation.lines l.simulation.core l.line

abbrev pub decreases-loop-expected : goal.decreases-loop-expected
decreases-loop-expected g l = 2 ^ 30 + length l.simulation.lines.pending - l.simulation.lines.taken
