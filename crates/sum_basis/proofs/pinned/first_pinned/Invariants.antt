use Rattle.std.proofs.Common.{◌++◌, [], ◌∷◌}
use Rattle.sum_basis.specs.Sparse.{row_of}
use Rattle.sum_basis.proofs.PinnedRows.{NoneBefore}
use Rattle.sum_basis.proofs.pinned.first_pinned.Given as goal

-- the unit row at none of the pivots so far that isn't shared lies in the span
abbrev pub invariant-loop-k : goal.invariant-loop-k
invariant-loop-k l = NoneBefore l.form.n l.form.rows l.shared.list (l.form.rows ++ row_of l.form.n l.new ∷ []) l.k
