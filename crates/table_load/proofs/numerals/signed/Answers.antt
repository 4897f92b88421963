use Rattle.std.proofs.Common.{sym, ◌∙◌, arith}
use Rattle.std.proofs.lemmas.Grind.{common_steps}
use Rattle.table_load.proofs.Digits.{too_large}
use Rattle.table_load.proofs.numerals.signed.Goals as goal

pub returns-in-Some : goal.returns-in-Some
returns-in-Some c = λ n is. too_large c.args.minus c.in-Some.size n (sym c.in-Some.is ∙ is) (omega arith)

pub returns-in-Some-2 : goal.returns-in-Some-2
returns-in-Some-2 c = λ n is. grind (arith, common_steps)
