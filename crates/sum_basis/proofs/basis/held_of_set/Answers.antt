use Rattle.std.proofs.Common.{arith}
use Rattle.sum_basis.proofs.basis.held_of_set.Goals as goal

pub returns-then-same : goal.returns-then-same
returns-then-same c = grind arith
