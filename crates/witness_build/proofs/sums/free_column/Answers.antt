use Rattle.std.proofs.Common.{arith}
use Rattle.std.proofs.lemmas.Grind.{common_steps}
use Rattle.witness_build.proofs.sums.free_column.Goals as goal

pub returns-then-pivot-row : goal.returns-then-pivot-row
returns-then-pivot-row c = grind (arith, common_steps)
