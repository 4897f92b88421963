use Rattle.std.proofs.Common.{◌+◌}
use Rattle.audit_types.specs.Truth.{number_at}
use Rattle.denial_proof.specs.Numbers.{AreReadSoFar}
use Rattle.denial_proof.proofs.numbers.read_row.Given as goal

abbrev pub invariant-loop-mark : goal.invariant-loop-mark
invariant-loop-mark l = AreReadSoFar (number_at l.row l.pivot) (λ k. number_at l.row (l.n + k)) l.mark l.numbers.items
