use Rattle.std.proofs.Common.{length}
use Rattle.sum_basis.specs.Sparse.{rows_of}
use Rattle.sum_basis.proofs.Reducing.{IsPartRemainder}
use Rattle.sum_basis.proofs.sparse.reduce.Given as goal

abbrev pub invariant-loop-other : goal.invariant-loop-other
invariant-loop-other l = IsPartRemainder (rows_of (length l.initial.row) l.form) l.initial.row l.row l.other-index
