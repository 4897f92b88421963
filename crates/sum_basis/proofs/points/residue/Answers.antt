use Rattle.std.proofs.Common.{arith}
use Rattle.std.proofs.lemmas.Int.{ints}
use Rattle.sum_basis.proofs.LeftModulo.{left_lifted}
use Rattle.sum_basis.proofs.points.residue.Goals as goal

pub returns : goal.returns
returns c = left_lifted c.args.value 33554432 _ (omega (arith, ints))
