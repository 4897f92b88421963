use Rattle.std.proofs.Common.{◌≡◌, ℕ, ◌<◌, false, get_or}
use Rattle.audit_types.specs.Rows.{has_row}
use Rattle.sum_basis.proofs.reach.are_columns_near.Given as goal

abbrev pub invariant-loop-j : goal.invariant-loop-j
invariant-loop-j l = (i : ℕ) → i < l.j → has_row l.shared.list i ≡ false → get_or l.counts i 0 < l.reach
