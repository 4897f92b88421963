use Rattle.std.proofs.Common.{◌≡◌, ◌+◌, ◌++◌, ◌*◌, ◌^◌, ◌≤◌, length, map}
use Rattle.std.specs.Prelude.{unsigned_abs}
use Rattle.audit_types.specs.Headcount.{people_behind}
use Rattle.set_index.proofs.people.people_by.Given as goal

abbrev pub invariant-loop-row : goal.invariant-loop-row
invariant-loop-row l = record {
  together : l.yielded ++ l.row-iterator ≡ l.rows.list;
  total : l.people + people_behind (map unsigned_abs l.counts) l.row-iterator ≡ people_behind (map unsigned_abs l.counts) l.rows.list;
  some : length l.yielded ≤ l.people;
  small : l.people ≤ 10 ^ 12 * length l.yielded;
}
