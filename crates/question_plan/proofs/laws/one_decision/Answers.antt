use Rattle.question_plan.proofs.OneReply.{decided_once}
use Rattle.question_plan.proofs.laws.one_decision.Goals as goal

pub returns : goal.returns
returns c = decided_once c.sets_have_one_form.ensures
