use Rattle.std.proofs.Common.{ℤ, pos, get_or, ap, ◌∙◌, subst, arith, rules, length-set}
use Rattle.std.specs.Prelude.{FitsSigned, ◌*ℤ◌}
use Rattle.std.specs.Int.{w128}
use mir.Val.{to_z, of_z}
use Rattle.std.proofs.lemmas.Int.{to_z-of_z}
use Rattle.sum_basis.proofs.SetRows.{IsPartlyMultiplied, one_more_multiplied, all_multiplied}
use Rattle.sum_basis.proofs.elimination.multiply.Goals as goal

pub product-requires-clause-y : goal.product-requires-clause-y
product-requires-clause-y c =
    let fits : FitsSigned w128 (get_or c.loop-j.row c.loop-j.j (pos 0)) = search rules in
    let bit = c.requires.bits c.loop-j.j in
    rw (to_z-of_z w128 (get_or c.loop-j.row c.loop-j.j (pos 0)) fits, c.loop-j.invariant.multiplied.left c.loop-j.j (omega arith)) (omega arith)

pub loop-j-preserved : goal.loop-j-preserved
loop-j-preserved c =
    let fits : FitsSigned w128 (get_or c.loop-j.row c.loop-j.j (pos 0)) = search rules in
    let result : FitsSigned w128 c.product.result = search rules in
    record {
      multiplied = one_more_multiplied c.args.row.now c.loop-j.row (to_z w128 (of_z w128 c.args.multiple)) c.loop-j.j _
          (omega arith) c.loop-j.invariant.multiplied
          (to_z-of_z w128 c.product.result result ∙ c.product.ensures.exact
          ∙ ap (λ z. to_z w128 (of_z w128 c.args.multiple) *ℤ z) (to_z-of_z w128 (get_or c.loop-j.row c.loop-j.j (pos 0)) fits));
      length = length-set c.loop-j.row c.loop-j.j _ ∙ c.loop-j.invariant.length;
    }

pub returns : goal.returns
returns c =
    all_multiplied c.args.row.now c.loop-j.row c.args.multiple c.loop-j.j c.loop-j.invariant.length (omega arith)
    (subst (λ (m : ℤ). IsPartlyMultiplied c.args.row.now c.loop-j.row m c.loop-j.j)
    (to_z-of_z w128 c.args.multiple c.ranges.multiple) c.loop-j.invariant.multiplied)
