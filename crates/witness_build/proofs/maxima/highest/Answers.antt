use Rattle.std.proofs.Common.{rules, length, ap, ◌∙◌, arith, SFits}
use Rattle.std.specs.Int.{w128}
use Rattle.std.proofs.lemmas.Int.{to_z-of_z}
use Rattle.max_audit.specs.Witnesses.{bound_or_zero}
use Rattle.max_audit.specs.HighestLaws.{length-highest}
use Rattle.witness_build.proofs.HighestList.{highest_begins, highest_step}
use Rattle.witness_build.proofs.maxima.highest.Goals as goal

pub loop-row-init : goal.loop-row-init
loop-row-init c = rw c.new-list.ensures.items (highest_begins c.args.bounds.now.answers)

pub loop-row-preserved : goal.loop-row-preserved
loop-row-preserved c =
    let fits : SFits w128 c.or_zero.result = search rules in
    highest_step c.args.bounds.now.answers c.loop-row.row c.loop-row.list.items c.push.new.list.items c.or_zero.result c.loop-row.invariant
    (rw (to_z-of_z w128 c.or_zero.result fits) at c.in_ok-push.ensures) (c.or_zero.ensures.exact ∙ ap bound_or_zero c.upper.ensures) c.or_zero.ensures.near

pub returns-clause-one_each : goal.returns-clause-one_each
returns-clause-one_each c =
    let long = ap length c.loop-row.invariant.same ∙ length-highest c.loop-row.row c.args.bounds.now.answers in
    omega arith
