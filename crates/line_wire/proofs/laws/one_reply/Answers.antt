use Rattle.line_wire.proofs.OneReply as replies
use Rattle.line_wire.proofs.laws.one_reply.Goals as goal

pub returns : goal.returns
returns c = replies.one_reply
