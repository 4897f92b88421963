-- The rows of the list so far are added.
use Rattle.std.proofs.Common.{◌≡◌, take}
use Rattle.audit_types.specs.Rows.{union}
use Rattle.set_index.proofs.sorted.add_rows.Given as goal

abbrev pub invariant-loop-row : goal.invariant-loop-row
invariant-loop-row l = record {
  n : l.rows.n ≡ l.initial.rows.n;
  added : l.rows.list ≡ union l.initial.rows.n l.initial.rows.list (take l.row-index l.list);
}
