use Rattle.line_wire.proofs.ReplyParts.{written_line}
use Rattle.line_wire.proofs.reply_reading.is_reply.Goals as goal

pub returns : goal.returns
returns c =
    let in_range = c.is_in_range.ensures.0 c.if-not-is_in_range.false in
    written_line c.args.line.now _ c.args.reply.now c.is_line.result in_range c.write_reply-count.ensures.bytes c.is_line.ensures
