use Rattle.std.proofs.Common.{arith}
use Rattle.std.proofs.lemmas.Grind.{common_steps}
use Rattle.table_load.proofs.columns.cells.Goals as goal

pub returns-in-Sum : goal.returns-in-Sum
returns-in-Sum c = grind (arith, common_steps)
