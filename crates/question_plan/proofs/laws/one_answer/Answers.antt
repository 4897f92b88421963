use Rattle.question_plan.proofs.OneReply.{told_once}
use Rattle.question_plan.proofs.laws.one_answer.Goals as goal

pub returns : goal.returns
returns c = told_once
