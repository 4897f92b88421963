use Rattle.std.proofs.Common.{◌≡◌, ℕ, ◌<◌, [], false, get_or}
use Rattle.audit_types.specs.Form.{InSpan, pivot}
use Rattle.audit_types.specs.Rows.{has_row}
use Rattle.sum_basis.specs.Basis.{unit_row}
use Rattle.sum_basis.specs.Growth.{SpansAfter}
use Rattle.sum_basis.proofs.beside.spans_new_after.Given as goal

-- the unit row at no pivot so far that isn't in the set is new in the span with what was left
abbrev pub invariant-loop-k : goal.invariant-loop-k
invariant-loop-k l = (j : ℕ) → j < l.k → has_row l.but.list (pivot (get_or l.form.rows j [])) ≡ false →
    SpansAfter l.form l.left (unit_row l.form.n (pivot (get_or l.form.rows j []))) →
    InSpan l.form.rows (unit_row l.form.n (pivot (get_or l.form.rows j [])))
