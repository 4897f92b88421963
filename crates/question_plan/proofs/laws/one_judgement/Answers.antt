use Rattle.question_plan.proofs.OneReply.{judged_once}
use Rattle.question_plan.proofs.laws.one_judgement.Goals as goal

pub returns : goal.returns
returns c = judged_once c.sets_have_one_form.ensures
