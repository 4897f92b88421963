use Rattle.std.proofs.Common.{◌≡◌, ℕ, ◌<◌}
use Rattle.std.specs.Prelude.{false}
use Rattle.audit_types.specs.Rows.{has_row}
use Rattle.sum_basis.specs.Keys.{MayHaveKey}
use Rattle.sum_basis.proofs.column_keys.without_key.Given as goal

abbrev pub invariant-loop-column : goal.invariant-loop-column
invariant-loop-column l = record {
  n : l.keyless.n ≡ l.kept.unknown.n;
  others : (q : ℕ) → q < l.column → has_row l.keyless.list q ≡ false → MayHaveKey l.kept q;
}
