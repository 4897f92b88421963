use Rattle.std.proofs.Common.{◌≡◌, ℕ, ◌<◌, true, false}
use Rattle.audit_types.specs.Rows.{has_row}
use Rattle.denial_proof.specs.Weights.{own_rows}
use Rattle.denial_proof.proofs.totals.has_other.Given as goal

abbrev pub invariant-loop-row : goal.invariant-loop-row
invariant-loop-row l = (r : ℕ) → r < l.row → ¬ ((has_row l.group.list r ≡ true) × (has_row (own_rows l.own) r ≡ false))
