use Rattle.std.proofs.Common.{ℕ, ◌<◌, Some}
use Rattle.denial_proof.specs.declared.proof_parts.Target.TheVariants.{Row}
use Rattle.denial_proof.specs.Canonical.{Tells}
use Rattle.denial_proof.proofs.targets.first_pair.Given as goal

abbrev pub invariant-loop-row : goal.invariant-loop-row
invariant-loop-row l = (k : ℕ) → k < l.row → (p : ℕ) → ¬ (Tells l.n l.protected l.column l.basis.rows (Some p) (Row k))
