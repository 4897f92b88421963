use Rattle.std.proofs.Common.{◌≡◌, ℕ, ◌<◌, [], false, get_or}
use Rattle.audit_types.specs.Form.{pivot}
use Rattle.audit_types.specs.Rows.{has_row}
use Rattle.sum_basis.specs.Basis.{unit_row}
use Rattle.sum_basis.specs.Growth.{SpansAfter}
use Rattle.sum_basis.proofs.guarding.spans_own_after.Given as goal

-- the unit row at no pivot so far that isn't shared does
abbrev pub invariant-loop-k : goal.invariant-loop-k
invariant-loop-k l = (j : ℕ) → j < l.k → has_row l.shared.list (pivot (get_or l.form.rows j [])) ≡ false →
    ¬ (SpansAfter l.form l.left (unit_row l.form.n (pivot (get_or l.form.rows j []))))
