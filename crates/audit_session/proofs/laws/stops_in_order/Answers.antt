use Rattle.question_plan.specs.InTurn.{same_replies}
use Rattle.question_plan.specs.Replies.{IsDue}
use Rattle.question_plan.specs.Session.{groups}
use Rattle.audit_session.proofs.StopsInOrder.{in_order}
use Rattle.audit_session.proofs.laws.stops_in_order.Goals as goal

pub returns : goal.returns
returns c = λ base batch history lines image sent other left one two. (
  in_order base (same_replies (IsDue base) (c.one_reply.ensures base)) batch history lines image sent other left one two,
  λ is legal. (
    c.answered_lines.ensures base history (groups batch one.count lines) one.replies is legal one.due,
    c.answered_lines.ensures base history (groups batch two.count lines) two.replies is legal two.due,
  ),
)
