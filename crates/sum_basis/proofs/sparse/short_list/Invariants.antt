use Rattle.std.proofs.Common.{◌≡◌, ◌≤◌, take}
use Rattle.std.specs.Vec.{vec_capacity}
use Rattle.sum_basis.proofs.sparse.short_list.Given as goal

abbrev pub invariant-loop-entry : goal.invariant-loop-entry
invariant-loop-entry l = record {
  items : l.list.items ≡ take l.entry-index l.entries;
  room : l.columns ≤ vec_capacity l.list;
}
