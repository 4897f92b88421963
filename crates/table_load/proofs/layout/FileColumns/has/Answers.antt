use Rattle.std.proofs.Common.{arith}
use Rattle.std.proofs.lemmas.Grind.{common_steps}
use Rattle.table_load.proofs.layout.FileColumns.has.Goals as goal

pub returns-in-Public : goal.returns-in-Public
returns-in-Public c = grind (arith, common_steps)
