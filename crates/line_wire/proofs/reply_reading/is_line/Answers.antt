use Rattle.line_wire.proofs.ReplyParts.{same_line}
use Rattle.line_wire.proofs.reply_reading.is_line.Goals as goal

pub returns-then-end-eq10 : goal.returns-then-end-eq10
returns-then-end-eq10 c =
    same_line c.args.line.now c.args.written.now c.in-Some.bytes.now c.in-Some.end.now c.eq.result c.in-Some.ensures.cases.0 c.if-end-eq10.true c.eq.ensures
