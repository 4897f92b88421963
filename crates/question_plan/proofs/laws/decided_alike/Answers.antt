use Rattle.question_plan.proofs.OneReply as replies
use Rattle.question_plan.proofs.laws.decided_alike.Goals as goal

pub returns-clause-alike : goal.returns-clause-alike
returns-clause-alike c = replies.decided_alike c.sets_have_one_form.ensures c.one_meaning.ensures

pub returns-clause-equal : goal.returns-clause-equal
returns-clause-equal c = replies.equal_answers
