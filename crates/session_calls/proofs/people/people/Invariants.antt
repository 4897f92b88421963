use Rattle.std.proofs.Common.{◌≡◌}
use Rattle.session_calls.proofs.people.people.Given as goal

abbrev pub invariant-loop-row : goal.invariant-loop-row
invariant-loop-row l = l.rows.n ≡ 6
