use Rattle.std.proofs.Common.{◌≡◌, ℤ, take, ◌∷◌}
use Rattle.std.specs.List.{All}
use Rattle.max_bounds.specs.Maxima.{answers_of}
use Rattle.max_audit.specs.Candidates.{IsBelowAll, IsNearRange}
use Rattle.max_audit.proofs.CandidateLists.{around}
use Rattle.max_audit.proofs.candidates.candidates_of.Given as goal

abbrev pub invariant-loop-k : goal.invariant-loop-k
invariant-loop-k l = record {
  gathered : (lowest : ℤ) × IsBelowAll (answers_of l.pairs.items) lowest × (l.candidates.items ≡ lowest ∷ around (answers_of (take l.k l.pairs.items)));
  near : All IsNearRange l.candidates.items;
}
