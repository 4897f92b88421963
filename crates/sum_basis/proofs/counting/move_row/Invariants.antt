use Rattle.sum_basis.specs.Sparse.{entry_at}
use Rattle.sum_basis.proofs.Moving.{IsPartlyMoved}
use Rattle.sum_basis.proofs.counting.move_row.Given as goal

abbrev pub invariant-loop-e : goal.invariant-loop-e
invariant-loop-e l = IsPartlyMoved l.initial.counts l.counts l.new (entry_at l.free) l.e-index
