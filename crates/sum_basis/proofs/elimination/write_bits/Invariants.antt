use Rattle.sum_basis.proofs.SetRows.{ArePartlyWritten}
use Rattle.sum_basis.proofs.elimination.write_bits.Given as goal

abbrev pub invariant-loop-j : goal.invariant-loop-j
invariant-loop-j l = ArePartlyWritten l.bits l.row l.j
