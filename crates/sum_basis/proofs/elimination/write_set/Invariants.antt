use Rattle.sum_basis.proofs.SetRows.{IsPartlyWritten}
use Rattle.sum_basis.proofs.elimination.write_set.Given as goal

abbrev pub invariant-loop-j : goal.invariant-loop-j
invariant-loop-j l = IsPartlyWritten l.set.n l.set.list l.row l.j
