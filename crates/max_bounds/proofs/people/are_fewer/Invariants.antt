use Rattle.std.proofs.Common.{◌≡◌, ◌+◌, ◌-◌, ◌++◌}
use Rattle.audit_types.specs.Headcount.{people_behind}
use Rattle.max_bounds.proofs.people.are_fewer.Given as goal

abbrev pub invariant-loop-row : goal.invariant-loop-row
invariant-loop-row l = record {
  together : l.yielded ++ l.row-iterator ≡ l.rows.list;
  missing : l.missing ≡ (l.people.people.fewest + l.people.people.own) - people_behind l.people.people.counts l.yielded;
}
