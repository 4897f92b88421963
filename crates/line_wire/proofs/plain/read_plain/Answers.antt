use Rattle.line_wire.proofs.PlainLines.{line_writes, line_within}
use Rattle.line_wire.proofs.plain.read_plain.Goals as goal

pub returns-in-Ok-clause-writes : goal.returns-in-Ok-clause-writes
returns-in-Ok-clause-writes c =
    line_writes c.args.line.now _ c.plain_question.result c.in-Ok.ensures.ok.0 c.in-Ok.ensures.ok.1 c.plain_question.ensures.plain
    c.plain_question.ensures.writes

pub returns-in-Ok-clause-short : goal.returns-in-Ok-clause-short
returns-in-Ok-clause-short c =
    line_within c.args.line.now _ c.plain_question.result c.in-Ok.ensures.ok.1 c.plain_question.ensures.plain c.plain_question.ensures.writes
