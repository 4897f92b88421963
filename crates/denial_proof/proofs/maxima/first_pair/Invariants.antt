use Rattle.std.proofs.Common.{ℕ, ◌<◌}
use Rattle.denial_proof.specs.Canonical.{IsFewAt}
use Rattle.denial_proof.proofs.maxima.first_pair.Given as goal

abbrev pub invariant-loop-place : goal.invariant-loop-place
invariant-loop-place l = (q : ℕ) → q < l.place → ¬ (IsFewAt l.history l.asked l.answer l.few.list q)
