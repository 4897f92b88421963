use Rattle.std.proofs.Common.{subst, ◌∙◌}
use Rattle.audit_types.specs.RowLaws.{walk_more}
use Rattle.max_bounds.specs.Groups.{IsInGroup, AreGroups}
use Rattle.max_bounds.proofs.MarkedGroups.{no_groups, groups_more, groups_complete}
use Rattle.max_bounds.proofs.Walks.{walk_ends}
use Rattle.max_bounds.proofs.groups.groups_of.Goals as goal

pub loop-row-init : goal.loop-row-init
loop-row-init c = record { together = c.into_iter-row-iterator.ensures.into_iter_gives ∙ c.iter-row-items.ensures; groups = no_groups }

pub loop-row-preserved : goal.loop-row-preserved
loop-row-preserved c = record {
  together = walk_more c.loop-row.yielded c.loop-row.row-iterator c.next.new.self c.args.rows.now.list c.in-Some.row c.loop-row.invariant.together
      c.in-Some.ensures.steps;
  groups = groups_more c.loop-row.yielded c.loop-row.groups c.in-Some.row c.loop-row.invariant.groups;
}

pub returns-then-groups : goal.returns-then-groups
returns-then-groups c =
    groups_complete c.loop-row.yielded c.loop-row.row-iterator c.next.new.self c.args.rows.now.list c.in-Some.row _ c.loop-row.invariant.together
    c.in-Some.ensures.steps (groups_more c.loop-row.yielded c.loop-row.groups c.in-Some.row c.loop-row.invariant.groups) c.if-groups.true

pub returns : goal.returns
returns c =
    subst (λ l. AreGroups IsInGroup l c.loop-row.groups)
    (walk_ends c.loop-row.yielded c.loop-row.row-iterator c.args.rows.now.list c.loop-row.invariant.together c.in-None.ensures.steps.0)
    c.loop-row.invariant.groups
