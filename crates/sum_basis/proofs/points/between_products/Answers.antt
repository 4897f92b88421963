use Rattle.std.proofs.Common.{◌-◌, arith}
use Rattle.sum_basis.proofs.LeftModulo.{left_negated}
use Rattle.sum_basis.proofs.points.between_products.Goals as goal

pub returns : goal.returns
returns c =
    left_negated c.args.x c.args.y c.args.less c.args.by (4294967291 - c.args.less) c.times-2.result c.times_plus.result (omega arith) c.times-2.ensures
    c.times_plus.ensures
