use Rattle.std.proofs.Common.{◌≤◌, arith, sym, ap, ◌∙◌, take, take_all, get_or, min}
use Rattle.std.proofs.lemmas.List.{take_more}
use Rattle.max_bounds.specs.Kept.{fewest_of}
use Rattle.max_bounds.proofs.FallingCounts.{fewest_of-push}
use Rattle.max_bounds.proofs.counts.fewest.Goals as goal

pub loop-count-preserved : goal.loop-count-preserved
loop-count-preserved c =
    let i = c.loop-count.count-index in
    let counts = c.args.counts.now in
    let small : get_or counts i 0 ≤ 65535 = omega (arith, c.type_inv.counts i) in
    c.min-fewest.ensures ∙ ap (λ f. min f (get_or counts i 0)) c.loop-count.invariant
    ∙ sym (ap fewest_of (take_more counts i 0 c.loop-count-test.true) ∙ fewest_of-push (take i counts) (get_or counts i 0) small)

pub returns : goal.returns
returns c = c.loop-count.invariant ∙ ap fewest_of (take_all c.loop-count.count-index c.args.counts.now (omega arith))
