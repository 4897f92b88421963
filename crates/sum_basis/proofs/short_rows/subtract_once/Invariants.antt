use Rattle.std.proofs.Common.{pos}
use Rattle.sum_basis.proofs.SparseRows.{IsPartlyTaken}
use Rattle.sum_basis.proofs.short_rows.subtract_once.Given as goal

abbrev pub invariant-loop-e : goal.invariant-loop-e
invariant-loop-e l = IsPartlyTaken l.initial.row l.row (pos 1) l.entries l.e-index
