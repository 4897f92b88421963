use Rattle.std.proofs.Common.{take}
use Rattle.max_bounds.specs.Maxima.{and_answer, answers_of}
use Rattle.denial_proof.specs.FewRows.{IsLeastFewFound}
use Rattle.denial_proof.proofs.maxima.least_few.Given as goal

abbrev pub invariant-loop-k : goal.invariant-loop-k
invariant-loop-k l = IsLeastFewFound l.bounds.n l.people.people (and_answer l.bounds.answers l.rows.list l.answer)
    (answers_of (take l.k l.pairs.items)) l.first
