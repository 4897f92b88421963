use Rattle.std.proofs.Common.{arith}
use Rattle.std.proofs.lemmas.Grind.{elements}
use Rattle.witness_check.proofs.pairs.check_pair.Goals as goal

pub returns-then-gives_answers : goal.returns-then-gives_answers
returns-then-gives_answers c = grind (arith, elements)

pub returns-else-gives_answers : goal.returns-else-gives_answers
returns-else-gives_answers c = grind (arith, elements)
