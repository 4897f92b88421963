use Rattle.std.proofs.Common.{◌≡◌, ◌++◌, ℕ, cond, pos}
use Rattle.audit_types.specs.Rows.{has_row}
use Rattle.audit_types.specs.Truth.{number_at}
use Rattle.sum_basis.proofs.short_rows.write_ones.Given as goal

abbrev pub invariant-loop-j : goal.invariant-loop-j
invariant-loop-j l = record {
  together : l.yielded ++ l.j-iterator ≡ l.set.list;
  done : (k : ℕ) → number_at l.row k ≡ cond (has_row l.yielded k) (pos 1) (pos 0);
}
