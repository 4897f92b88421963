use Rattle.std.proofs.Common.{◌≡◌, ◌+◌, ◌<◌, ◌++◌}
use Rattle.audit_types.specs.Headcount.{people_behind}
use Rattle.audit_types.specs.Extremes.{upper_bound}
use Rattle.max_bounds.specs.Kept.{rows_at_least}
use Rattle.denial_proof.proofs.reaching.few_reaching.Given as goal

abbrev pub invariant-loop-row : goal.invariant-loop-row
invariant-loop-row l = record {
  together : l.yielded ++ l.row-iterator ≡ l.rows.list;
  same_n : l.few.n ≡ l.rows.n;
  so_far : l.few.list ≡ rows_at_least (upper_bound l.bounds.answers) l.value l.yielded;
  room : l.left + people_behind l.people.people.counts l.few.list ≡ l.people.people.fewest + l.people.people.own;
  some : 0 < l.left;
}
