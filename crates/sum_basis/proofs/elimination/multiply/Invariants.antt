use Rattle.std.proofs.Common.{◌≡◌, length}
use Rattle.sum_basis.proofs.SetRows.{IsPartlyMultiplied}
use Rattle.sum_basis.proofs.elimination.multiply.Given as goal

abbrev pub invariant-loop-j : goal.invariant-loop-j
invariant-loop-j l = record { multiplied : IsPartlyMultiplied l.initial.row l.row l.fn.multiple l.j; length : length l.row ≡ length l.initial.row }
