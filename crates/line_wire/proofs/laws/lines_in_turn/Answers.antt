use Rattle.line_wire.specs.LinesInTurn.{reads_none, reads_one, reads_more}
use Rattle.line_wire.proofs.laws.lines_in_turn.Goals as goal

pub returns-clause-none : goal.returns-clause-none
returns-clause-none c = reads_none

pub returns-clause-one : goal.returns-clause-one
returns-clause-one c = reads_one

pub returns-clause-more : goal.returns-clause-more
returns-clause-more c = reads_more
