use Rattle.std.proofs.Common.{◌≡◌, ◌≢◌, ℕ, ◌<◌, true, pos}
use Rattle.audit_types.specs.Rows.{has_row}
use Rattle.audit_types.specs.Truth.{number_at}
use Rattle.witness_check.proofs.directions.moved_rows.Given as goal

abbrev pub invariant-loop-row : goal.invariant-loop-row
invariant-loop-row l = (l.moved.n ≡ l.n) × ((r : ℕ) → r < l.row → number_at l.numbers r ≢ pos 0 → has_row l.moved.list r ≡ true)
