use Rattle.std.proofs.Common.{ℕ, ◌≤◌, ◌+◌, ◌*◌, length}
use Rattle.std.specs.Prelude.{unsigned_abs}
use Rattle.audit_types.specs.Truth.{number_at}
use Rattle.sum_basis.specs.Limits.{most_short}
use Rattle.sum_basis.specs.Sparse.{rows_of}
use Rattle.sum_basis.proofs.Reducing.{IsPartRemainder}
use Rattle.sum_basis.proofs.short_rows.reduce_short.Given as goal

abbrev pub invariant-loop-other : goal.invariant-loop-other
invariant-loop-other l = record {
  part : IsPartRemainder (rows_of (length l.initial.row) l.form) l.initial.row l.row l.other-index;
  near : (j : ℕ) → unsigned_abs (number_at l.row j) ≤ 1 + l.other-index * most_short;
}
