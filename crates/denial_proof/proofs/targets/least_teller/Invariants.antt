use Rattle.std.proofs.Common.{ℕ, ◌<◌}
use Rattle.denial_proof.specs.Tellers.{IsTeller}
use Rattle.denial_proof.proofs.targets.least_teller.Given as goal

abbrev pub invariant-loop-own : goal.invariant-loop-own
invariant-loop-own l = (q : ℕ) → q < l.own → ¬ (IsTeller l.basis l.several.list l.set.list q)
