use Rattle.question_plan.proofs.OutcomesTold.{outcomes_can_be_told, some_told}
use Rattle.question_plan.proofs.laws.told_outcomes.Goals as goal

pub returns-clause-can : goal.returns-clause-can
returns-clause-can c = outcomes_can_be_told c.sizes_of_answers.ensures.sums c.sizes_of_answers.ensures.maxima

pub returns-clause-some : goal.returns-clause-some
returns-clause-some c = some_told
