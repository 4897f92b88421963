use Rattle.std.proofs.Common.{pos, get_or, rules, to_z}
use Rattle.std.specs.Prelude.{FitsSigned}
use Rattle.std.specs.Int.{w128}
use Rattle.witness_check.proofs.SumsSoFar.{sum_begins, sum_step, sum_fits, next_is}
use Rattle.witness_check.proofs.directions.sum_over.Goals as goal

pub loop-row-init : goal.loop-row-init
loop-row-init c =
    rw (c.into_iter-row-iterator.ensures.into_iter_gives, c.iter-row-items.ensures)
    (sum_begins c.args.numbers.now c.args.rows.now.n c.args.rows.now.list c.n.ensures.are_rows c.n.ensures.at_most c.requires.within)

pub loop-row-preserved : goal.loop-row-preserved
loop-row-preserved c =
    let so_far = rw c.in-Some.ensures.steps at c.loop-row.invariant in
    let number = get_or c.args.numbers.now c.in-Some.row (pos 0) in
    let fits : FitsSigned w128 number = search rules in
    rw
    (next_is (to_z w128 c.loop-row.sum-bits) number fits (sum_fits c.args.numbers.now c.args.rows.now.list c.in-Some.row c.next.new.self
    (to_z w128 c.loop-row.sum-bits) c.requires.small so_far))
    (sum_step c.args.numbers.now c.args.rows.now.list c.in-Some.row c.next.new.self (to_z w128 c.loop-row.sum-bits) c.requires.small so_far)
