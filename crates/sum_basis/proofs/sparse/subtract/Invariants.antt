use Rattle.sum_basis.proofs.SparseRows.{IsPartlyTaken}
use Rattle.sum_basis.proofs.sparse.subtract.Given as goal

abbrev pub invariant-loop-e : goal.invariant-loop-e
invariant-loop-e l = IsPartlyTaken l.initial.row l.row l.fn.times l.entries l.e-index
