use Rattle.std.proofs.Common.{ℤ, sym, ap, ◌∙◌}
use Rattle.std.specs.Int.{w128}
use mir.Val.{to_z}
use Rattle.std.proofs.lemmas.Int.{to_z-of_z}
use Rattle.int_rows.specs.PrimitiveLaws.{one_times}
use Rattle.sum_basis.proofs.elimination.scale.Goals as goal
use Rattle.audit_types.specs.PrimitiveLines.{times}

pub returns-else-multiple-ne1 : goal.returns-else-multiple-ne1
returns-else-multiple-ne1 c =
    one_times c.args.row.now
    ∙ ap (λ (z : ℤ). times z c.args.row.now) (sym (ap (to_z w128) c.if-multiple-ne1.false) ∙ to_z-of_z w128 c.args.multiple c.ranges.multiple)
