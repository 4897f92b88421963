use Rattle.std.proofs.Common.{◌*◌, ap, ◌∙◌, arith}
use Rattle.drill_case.specs.Draws.{state_after}
use Rattle.drill_case.proofs.draws.Draws.skip_fours.Goals as goal

pub loop-four-preserved : goal.loop-four-preserved
loop-four-preserved c = λ number at.
    let next = c.four.ensures number (4 * c.loop-four._four) (c.loop-four.invariant number at) in
    next.0 ∙ ap (state_after number) (omega arith)
