use Rattle.std.proofs.Common.{arith}
use Rattle.std.proofs.lemmas.Grind.{common_steps}
use Rattle.question_plan.proofs.planning.refused.Goals as goal

pub returns-in-Column : goal.returns-in-Column
returns-in-Column c = grind (arith, common_steps)
