use Rattle.std.proofs.Common.{◌+◌, sym, ap, ◌∙◌, subst, arith}
use Rattle.max_bounds.specs.Groups.{step_of}
use Rattle.max_bounds.proofs.MarkedGroups.{AreSamplesBelow, no_samples, sample_more, sample_missing, samples_complete}
use Rattle.max_bounds.proofs.groups.samples_of.Goals as goal
use Rattle.max_bounds.proofs.groups.samples_of.Goals.{then-has_row, else-has_row}

pub loop-number-init : goal.loop-number-init
loop-number-init c = no_samples c.args.rows.now.list c.step_of-step.result

pub loop-number-preserved : goal.loop-number-preserved
loop-number-preserved c =
    let rows = c.args.rows.now.list in
    let step = c.step_of-step.result in
    let number = c.loop-number.number in
    elim c.if-has_row.branch [
      | then-has_row w ↦ subst (AreSamplesBelow rows step (number + 1)) (sym w.samples-is)
          (sample_more rows step number c.loop-number.samples c.loop-number-test.true c.loop-number.invariant
          (sym c.has_row.ensures ∙ w.if-has_row.true))
      | else-has_row w ↦ subst (AreSamplesBelow rows step (number + 1)) (sym w.samples-is)
          (sample_missing rows step number c.loop-number.samples c.loop-number.invariant (sym c.has_row.ensures ∙ w.if-has_row.false))
    ]

pub returns : goal.returns
returns c =
    samples_complete c.args.rows.now.n c.args.rows.now.list c.step_of-step.result c.loop-number.number c.loop-number.samples
    (c.step_of-step.ensures.exact ∙ ap step_of c.n.ensures.n) (omega (arith, c.loop-number-test.false)) c.loop-number.invariant
