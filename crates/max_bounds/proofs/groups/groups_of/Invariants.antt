use Rattle.std.proofs.Common.{◌≡◌, ◌++◌}
use Rattle.max_bounds.specs.Groups.{IsInGroup, AreGroups}
use Rattle.max_bounds.proofs.groups.groups_of.Given as goal

abbrev pub invariant-loop-row : goal.invariant-loop-row
invariant-loop-row l = record {
  together : l.yielded ++ l.row-iterator ≡ l.rows.list;
  groups : AreGroups IsInGroup l.yielded l.groups;
}
