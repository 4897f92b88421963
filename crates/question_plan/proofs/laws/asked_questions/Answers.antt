use Rattle.question_plan.proofs.AskedFit.{plan_fits}
use Rattle.question_plan.proofs.laws.asked_questions.Goals as goal

pub returns : goal.returns
returns c = λ columns public line take people asked valid planned. plan_fits c.secret_columns.ensures columns valid public line take people asked planned
