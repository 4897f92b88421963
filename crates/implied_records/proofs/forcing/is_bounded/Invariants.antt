use Rattle.std.proofs.Common.{◌≡◌, ◌++◌, ℕ, true}
use Rattle.audit_types.specs.Rows.{has_row}
use Rattle.audit_types.specs.Extremes.{upper_bound}
use Rattle.implied_records.specs.Kept.{IsAtMost}
use Rattle.implied_records.proofs.forcing.is_bounded.Given as goal

abbrev pub invariant-loop-row : goal.invariant-loop-row
invariant-loop-row l = record {
  together : l.yielded ++ l.row-iterator ≡ l.rows.list;
  bounded : (r : ℕ) → has_row l.yielded r ≡ true → IsAtMost (upper_bound l.bounds.answers r) l.answer;
}
