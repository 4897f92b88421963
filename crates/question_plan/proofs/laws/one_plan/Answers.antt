use Rattle.question_plan.proofs.OnePlan as plans
use Rattle.question_plan.proofs.laws.one_plan.Goals as goal

pub returns : goal.returns
returns c = plans.one_plan c.one_meaning.ensures
