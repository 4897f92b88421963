use Rattle.std.proofs.Common.{◌+◌, ◌-◌, length, cond}
use Rattle.line_wire.specs.Lines.{most_input}
use Rattle.line_wire.proofs.FromTurnToTurn.{Turn}
use Rattle.line_wire.proofs.lines.Lines.next.Given as goal

abbrev pub invariant-loop-self : goal.invariant-loop-self
invariant-loop-self g l = Turn g.P.Source.told g.P.Source.left g.P.Source.faults l.fn.self l.self l.fn.source l.source

abbrev pub decreases-loop-self : goal.decreases-loop-self
decreases-loop-self g l = (most_input + 65536 - l.self.taken) + (most_input + length l.self.pending - l.self.taken) + cond l.self.ended 0 1
