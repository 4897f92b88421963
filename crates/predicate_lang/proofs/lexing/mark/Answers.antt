use Rattle.std.proofs.Common.{arith}
use Rattle.std.proofs.lemmas.Grind.{common_steps}
use Rattle.predicate_lang.proofs.lexing.mark.Goals as goal

pub returns-in-60-2-clause-exact : goal.returns-in-60-2-clause-exact
returns-in-60-2-clause-exact c = grind (arith, common_steps)
