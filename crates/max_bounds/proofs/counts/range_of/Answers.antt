use Rattle.std.proofs.Common.{arith, subst}
use Rattle.audit_types.specs.RowLaws.{walk_row, walk_more}
use Rattle.max_bounds.specs.Reaching.{bound_at}
use Rattle.max_bounds.specs.Kept.{IsRange}
use Rattle.max_bounds.proofs.Walks.{walk_ends}
use Rattle.max_bounds.proofs.Ranges.{range_more}
use Rattle.max_bounds.proofs.counts.range_of.Goals as goal

pub bounds-upper-row : goal.bounds-upper-row
bounds-upper-row c =
    let below = walk_row c.args.falling.now.n c.loop-row.yielded c.loop-row.row-iterator c.next.new.self c.args.falling.now.list c.in-Some.row
    c.n.ensures.are_rows c.loop-row.invariant.together c.in-Some.ensures.steps in
    omega arith

pub loop-row-preserved : goal.loop-row-preserved
loop-row-preserved c = record {
  together =
      walk_more c.loop-row.yielded c.loop-row.row-iterator c.next.new.self c.args.falling.now.list c.in-Some.row c.loop-row.invariant.together
      c.in-Some.ensures.steps;
  holds =
      range_more (bound_at c.args.upper.now) c.loop-row.yielded c.in-Some.row c.loop-row.range c.widen-range.result c.loop-row.invariant.holds
      c.widen-range.ensures;
}

pub returns : goal.returns
returns c =
    let all = walk_ends c.loop-row.yielded c.loop-row.row-iterator c.args.falling.now.list c.loop-row.invariant.together c.in-None.ensures.steps.0 in
    subst (λ l. IsRange (bound_at c.args.upper.now) l c.loop-row.range) all c.loop-row.invariant.holds
