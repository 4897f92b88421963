use Rattle.std.proofs.Common.{arith}
use Rattle.std.proofs.lemmas.Grind.{common_steps}
use Rattle.table_load.proofs.Digits.{behind_plus}
use Rattle.table_load.proofs.numerals.split_sign.Goals as goal

pub returns-in-43 : goal.returns-in-43
returns-in-43 c = grind (arith, common_steps, behind_plus)
