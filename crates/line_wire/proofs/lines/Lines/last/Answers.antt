use Rattle.line_wire.proofs.FromTurnToTurn.{last_gives}
use Rattle.line_wire.proofs.lines.Lines.last.Goals as goal

pub returns-in-Some-clause-gives : goal.returns-in-Some-clause-gives
returns-in-Some-clause-gives c = last_gives c.in-Some.next _ _ c.in-Some.ensures.counts
