use Rattle.std.proofs.Common.{ℕ, ◌<◌, pos, []}
use Rattle.std.specs.Prelude.{slice_index_or}
use Rattle.audit_types.specs.Column.{known_max, guarding}
use Rattle.max_audit.specs.Laws.{LeavesFewPeople}
use Rattle.denial_proof.proofs.maxima.first_answer.Given as goal

abbrev pub invariant-loop-answer : goal.invariant-loop-answer
invariant-loop-answer l = (k : ℕ) → k < l.answer-index → ¬
    (LeavesFewPeople (guarding (known_max l.bounds.n l.bounds.answers) l.people.people []) l.rows.list (slice_index_or l.candidates k (pos 0)))
