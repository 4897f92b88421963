use Rattle.std.proofs.Common.{arith}
use Rattle.std.proofs.lemmas.Grind.{elements}
use Rattle.witness_check.proofs.directions.is_small.Goals as goal

pub returns : goal.returns
returns c = grind (arith, elements)
