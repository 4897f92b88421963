use Rattle.std.proofs.Common.{◌≡◌, None, get_or, rules, ◌∙◌, SFits, to_z, of_z}
use Rattle.std.specs.Int.{w128}
use Rattle.std.proofs.lemmas.Int.{to_z-of_z}
use Rattle.audit_types.specs.Extremes.{least_of}
use Rattle.max_bounds.proofs.Lowering.{lowering_begins, lowering_step, lowering_ends}
use Rattle.max_bounds.proofs.upper_bounds.lower.Goals as goal

pub loop-row-init : goal.loop-row-init
loop-row-init c =
    rw (c.into_iter-row-iterator.ensures.into_iter_gives, c.iter-row-items.ensures)
    (lowering_begins _ c.args.rows.now.n c.args.rows.now.list c.args.bounds.now c.told-bounds c.n.ensures.are_rows c.n.ensures.at_most)

pub loop-row-preserved : goal.loop-row-preserved
loop-row-preserved c =
    let fits : SFits w128 c.least.result = search rules in
    let read : to_z w128 (of_z w128 c.least.result) ≡ least_of (to_z w128 (of_z w128 c.args.answer)) (get_or c.loop-row.bounds c.in-Some.row None) =
    to_z-of_z w128 c.least.result fits ∙ c.least.ensures in
    rw read
    (lowering_step _ c.args.rows.now.list c.args.bounds.now c.in-Some.row c.next.new.self c.loop-row.bounds
    (rw c.in-Some.ensures.steps at c.loop-row.invariant))

pub returns : goal.returns
returns c =
    let same : to_z w128 (of_z w128 c.args.answer) ≡ c.args.answer = to_z-of_z w128 c.args.answer c.ranges.answer in
    record {
      lowered = rw same at (lowering_ends _ c.args.rows.now.list c.args.bounds.now c.loop-row.bounds
          (rw c.in-None.ensures.steps.0 at c.loop-row.invariant));
    }
