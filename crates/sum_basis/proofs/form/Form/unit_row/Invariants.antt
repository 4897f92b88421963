use Rattle.sum_basis.proofs.UnitRowsInSpan.{NoneLone}
use Rattle.sum_basis.proofs.form.Form.unit_row.Given as goal

abbrev pub invariant-loop-row : goal.invariant-loop-row
invariant-loop-row l = NoneLone l.self.rows l.row-index
