use Rattle.std.proofs.Common.{arith}
use Rattle.std.proofs.lemmas.Grind.{common_steps}
use Rattle.predicate_lang.proofs.building.State.add_literal.Goals as goal

pub returns : goal.returns
returns c = grind (arith, common_steps)
