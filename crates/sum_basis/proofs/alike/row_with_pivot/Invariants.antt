use Rattle.std.proofs.Common.{◌≢◌, ℕ, ℤ, ◌<◌, List, get_or}
use Rattle.audit_types.specs.Form.{pivot}
use Rattle.sum_basis.proofs.alike.row_with_pivot.Given as goal

abbrev pub invariant-loop-k : goal.invariant-loop-k
invariant-loop-k l = (j : ℕ) → j < l.k → (d : List ℤ) → pivot (get_or l.form.rows j d) ≢ l.column
