use Rattle.std.proofs.Common.{◌≡◌, ◌+◌, drop}
use Rattle.audit_types.specs.Form.{pivot}
use Rattle.sum_basis.proofs.elimination.pivot_of.Given as goal

abbrev pub invariant-loop-place : goal.invariant-loop-place
invariant-loop-place l = pivot l.row ≡ l.place + pivot (drop l.place l.row)
