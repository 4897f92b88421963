use Rattle.std.proofs.Common.{◌≡◌, ℕ, ◌<◌, [], false, get_or}
use Rattle.audit_types.specs.Form.{InSpan, pivot}
use Rattle.audit_types.specs.Rows.{has_row}
use Rattle.sum_basis.specs.Basis.{unit_row}
use Rattle.sum_basis.proofs.basis.Basis.unshared_unit_row.Given as goal

-- the unit row at no pivot so far that isn't shared lies in the span
abbrev pub invariant-loop-k : goal.invariant-loop-k
invariant-loop-k l = (j : ℕ) → j < l.k → has_row l.shared.list (pivot (get_or l.self.rows j [])) ≡ false → ¬
    (InSpan l.self.rows (unit_row l.self.n (pivot (get_or l.self.rows j []))))
