use Rattle.drill_case.proofs.ReplyLines.{lines_of_replies}
use Rattle.drill_case.proofs.laws.lines_of_replies.Goals as goal

pub returns : goal.returns
returns c = lines_of_replies
