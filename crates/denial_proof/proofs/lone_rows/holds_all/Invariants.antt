use Rattle.std.proofs.Common.{◌≡◌, ◌++◌, ℕ, true}
use Rattle.audit_types.specs.Rows.{has_row}
use Rattle.denial_proof.proofs.lone_rows.holds_all.Given as goal

abbrev pub invariant-loop-row : goal.invariant-loop-row
invariant-loop-row l = record {
  together : l.yielded ++ l.row-iterator ≡ l.rows.list;
  so_far : (r : ℕ) → has_row l.yielded r ≡ true → has_row l.set.list r ≡ true;
}
