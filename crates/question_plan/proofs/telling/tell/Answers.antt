use Rattle.std.proofs.Common.{arith}
use Rattle.std.proofs.lemmas.Grind.{common_steps}
use Rattle.question_plan.proofs.telling.tell.Goals as goal

pub returns-in-Sum-clause-tells : goal.returns-in-Sum-clause-tells
returns-in-Sum-clause-tells c = grind (arith, common_steps)

pub returns-in-Avg-clause-tells : goal.returns-in-Avg-clause-tells
returns-in-Avg-clause-tells c = grind (arith, common_steps)

pub returns-in-Denied-DeniedUnsafe-clause-tells : goal.returns-in-Denied-DeniedUnsafe-clause-tells
returns-in-Denied-DeniedUnsafe-clause-tells c = grind (arith, common_steps)

pub returns-in-Full-clause-tells : goal.returns-in-Full-clause-tells
returns-in-Full-clause-tells c = grind (arith, common_steps)
