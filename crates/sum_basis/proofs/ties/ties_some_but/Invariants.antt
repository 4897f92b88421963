use Rattle.std.proofs.Common.{take}
use Rattle.sum_basis.specs.Sparse.{rows_of}
use Rattle.sum_basis.specs.Ties.{ShowsTieBut}
use Rattle.sum_basis.proofs.ties.ties_some_but.Given as goal

abbrev pub invariant-loop-k : goal.invariant-loop-k
invariant-loop-k l = ShowsTieBut l.beside.list l.several.list (rows_of l.several.n (take l.k l.rows)) → ⊥
