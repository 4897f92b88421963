use Rattle.std.proofs.Common.{◌+◌}
use Rattle.audit_types.specs.Form.{combined}
use Rattle.denial_proof.specs.Numbers.{AreReadSoFar}
use Rattle.denial_proof.proofs.numbers.read_marks.Given as goal

abbrev pub invariant-loop-mark : goal.invariant-loop-mark
invariant-loop-mark l = AreReadSoFar l.common (λ k. combined l.taken l.form.rows (l.n + k)) l.mark l.numbers.items
