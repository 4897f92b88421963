use Rattle.line_wire.proofs.FirstFeed.{first_feed}
use Rattle.line_wire.proofs.lines.feed_at.Goals as goal

pub returns : goal.returns
returns c = first_feed c.args.bytes.now c.memchr.result c.memchr.ensures
