use Rattle.std.proofs.Common.{sym, ap, ◌∙◌, SFits, rules}
use Rattle.std.specs.Int.{w128}
use Rattle.std.proofs.lemmas.Int.{to_z-of_z}
use Rattle.audit_types.specs.Extremes.{least_of}
use Rattle.max_audit.specs.Witnesses.{bound_or_zero}
use Rattle.denial_proof.proofs.FirstPairs.{height_lowered, height_kept}
use Rattle.denial_proof.proofs.maxima.height.Goals as goal

pub returns-then-has : goal.returns-then-has
returns-then-has c =
    let fits : SFits w128 c.least.result = search rules in
    let least = rw (to_z-of_z w128 c.args.answer c.ranges.answer) at c.least.ensures in
    to_z-of_z w128 c.least.result fits ∙ least ∙ ap (least_of c.args.answer) c.upper-bound.ensures
    ∙ height_lowered c.args.bounds.now.answers c.args.rows.now.list c.args.answer c.args.row (sym c.has.ensures ∙ c.if-has.true)

pub returns-else-has : goal.returns-else-has
returns-else-has c =
    let fits : SFits w128 c.or_zero.result = search rules in
    to_z-of_z w128 c.or_zero.result fits ∙ c.or_zero.ensures ∙ ap bound_or_zero c.upper-bound.ensures
    ∙ height_kept c.args.bounds.now.answers c.args.rows.now.list c.args.answer c.args.row (sym c.has.ensures ∙ c.if-has.false)
