use Rattle.std.proofs.Common.{◌≡◌, arith, ap, ◌∙◌, to_z, of_z, cond, Some}
use Rattle.std.specs.Int.{w64}
use Rattle.std.proofs.lemmas.Int.{to_z-of_z}
use Rattle.audit_types.specs.Rows.{has_row}
use Rattle.audit_types.specs.RowLaws.{walk_row, walk_more}
use Rattle.max_bounds.specs.Reaching.{bound_at}
use Rattle.max_bounds.proofs.Walks.{walk_ends}
use Rattle.max_bounds.proofs.ReachedRows.{settled_step}
use Rattle.max_bounds.proofs.reach.settle.Goals as goal

pub bounds-upper-row : goal.bounds-upper-row
bounds-upper-row c =
    let below = walk_row c.args.affected.now.extremes.n c.loop-row.yielded c.loop-row.row-iterator c.next.new.self c.args.affected.now.extremes.list
    c.in-Some.row
    c.n.ensures.are_rows c.loop-row.invariant.together c.in-Some.ensures.steps in
    omega (arith, c.loop-row.auto.upper)

pub loop-row-preserved : goal.loop-row-preserved
loop-row-preserved c =
    let below = walk_row c.args.affected.now.extremes.n c.loop-row.yielded c.loop-row.row-iterator c.next.new.self c.args.affected.now.extremes.list
    c.in-Some.row
    c.n.ensures.are_rows c.loop-row.invariant.together c.in-Some.ensures.steps in
    record {
      together =
          walk_more c.loop-row.yielded c.loop-row.row-iterator c.next.new.self c.args.affected.now.extremes.list c.in-Some.row c.loop-row.invariant.together
          c.in-Some.ensures.steps;
      settled =
          settled_step (to_z w64 (of_z w64 c.args.answer)) c.loop-row.yielded c.args.upper.now c.loop-row.upper c.in-Some.row
          (omega (arith, c.loop-row.auto.upper)) c.loop-row.invariant.settled;
    }

pub returns : goal.returns
returns c =
    let same : to_z w64 (of_z w64 c.args.answer) ≡ c.args.answer = to_z-of_z w64 c.args.answer c.ranges.answer in
    let all = walk_ends c.loop-row.yielded c.loop-row.row-iterator c.args.affected.now.extremes.list c.loop-row.invariant.together c.in-None.ensures.steps.0 in
    record {
      settled = λ r. c.loop-row.invariant.settled r ∙ ap (λ l. cond (has_row l r) (Some (to_z w64 (of_z w64 c.args.answer))) (bound_at c.args.upper.now r)) all
          ∙ ap (λ a. cond (has_row c.args.affected.now.extremes.list r) (Some a) (bound_at c.args.upper.now r)) same;
    }
