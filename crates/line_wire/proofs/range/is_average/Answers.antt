use Rattle.std.proofs.Common.{arith, rules, w64}
use Rattle.std.proofs.lemmas.Int.{to_z-of_z}
use mir.Val.{SFits}
use Rattle.line_wire.proofs.Averages.{is_average}
use Rattle.line_wire.proofs.range.is_average.Goals as goal

pub returns : goal.returns
returns c =
    let fits : SFits w64 c.args.num = search rules in
    is_average c.args.num c.args.den c.common_divisor.result c.unsigned_abs-size.result
    c.common_divisor.ensures
    (simp to_z-of_z at c.unsigned_abs-size.ensures.value) (omega arith) (omega arith) (omega arith)
