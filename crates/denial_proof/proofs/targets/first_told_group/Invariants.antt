use Rattle.std.proofs.Common.{ℕ, ◌<◌, Some}
use Rattle.denial_proof.specs.declared.proof_parts.Target.TheVariants.{Group}
use Rattle.denial_proof.specs.Canonical.{Tells}
use Rattle.denial_proof.proofs.targets.first_told_group.Given as goal

abbrev pub invariant-loop-place : goal.invariant-loop-place
invariant-loop-place l = (k : ℕ) → k < l.place → (p : ℕ) → ¬ (Tells l.n l.protected l.column l.basis.rows (Some p) (Group k))
