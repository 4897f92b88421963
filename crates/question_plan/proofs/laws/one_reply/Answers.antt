use Rattle.question_plan.proofs.OneReply.{one_due}
use Rattle.question_plan.proofs.laws.one_reply.Goals as goal

pub returns : goal.returns
returns c = one_due c.sets_have_one_form.ensures c.one_meaning.ensures
