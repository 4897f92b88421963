use Rattle.std.proofs.Common.{◌≡◌, ℕ, ◌<◌}
use Rattle.std.specs.Prelude.{false}
use Rattle.audit_types.specs.Rows.{has_row}
use Rattle.sum_basis.specs.Points.{Matters}
use Rattle.sum_basis.proofs.telling.are_all_known.Given as goal

abbrev pub invariant-loop-column : goal.invariant-loop-column
invariant-loop-column l = (q : ℕ) → q < l.column → Matters l.beside.list l.several.list q → has_row l.unknown.list q ≡ false
