use Rattle.std.proofs.Common.{ℕ, ◌≤◌}
use Rattle.std.specs.Prelude.{unsigned_abs}
use Rattle.std.specs.Vec.{vec_capacity}
use Rattle.sum_basis.specs.Sparse.{entry_at, IsListed}
use Rattle.sum_basis.proofs.Edits.{IsTaken}
use Rattle.sum_basis.proofs.editing.take_entries.Given as goal

abbrev pub invariant-loop-e : goal.invariant-loop-e
invariant-loop-e l = record {
  listed : IsListed 0 l.columns l.entries.items;
  taken : IsTaken l.initial.entries.items l.entries.items l.fn.times l.taken l.e-index;
  bounded : (j : ℕ) → unsigned_abs (entry_at l.entries.items j) ≤ l.bound;
  most : l.fn.most ≤ l.bound;
  room : l.columns ≤ vec_capacity l.entries;
}
