use Rattle.std.proofs.Common.{ℕ, ◌<◌, None}
use Rattle.denial_proof.specs.declared.proof_parts.Target.TheVariants.{Group}
use Rattle.denial_proof.specs.Canonical.{Tells}
use Rattle.denial_proof.proofs.targets.first_group.Given as goal

abbrev pub invariant-loop-place : goal.invariant-loop-place
invariant-loop-place l = (q : ℕ) → q < l.place → ¬ (Tells l.n l.protected l.column l.basis.rows None (Group q))
