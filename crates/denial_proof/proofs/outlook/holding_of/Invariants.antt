use Rattle.std.proofs.Common.{◌≡◌, ℕ, List, take}
use Rattle.audit_types.specs.Rows.{complement}
use Rattle.max_bounds.specs.Maxima.{answers_of}
use Rattle.denial_proof.specs.Outlook.{IsHolding}
use Rattle.denial_proof.proofs.outlook.holding_of.Given as goal

abbrev pub invariant-loop-k : goal.invariant-loop-k
invariant-loop-k l = (asked : List ℕ) → l.others.list ≡ complement l.others.n asked →
    IsHolding l.bounds.answers l.people.people asked (answers_of (take l.k l.pairs.items)) l.holding
