use Rattle.std.proofs.Common.{arith}
use Rattle.std.proofs.lemmas.Grind.{common_steps}
use Rattle.drill_case.proofs.lines.ages_of_draws.Goals as goal

pub returns-clause-most : goal.returns-clause-most
returns-clause-most c = grind (arith, common_steps)
