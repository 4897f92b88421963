use Rattle.std.proofs.Common.{◌+◌, ◌*◌}
use Rattle.sum_basis.proofs.LeftModulo.{left_rem}
use Rattle.sum_basis.proofs.points.times_plus.Goals as goal

pub returns : goal.returns
returns c = left_rem (c.args.x * c.args.y + c.args.more)
