use Rattle.std.proofs.Common.{◌≡◌, ◌∷◌, ◌++◌}
use Rattle.max_bounds.specs.Reaching.{bound_at}
use Rattle.max_bounds.proofs.HighestPeople.{IsCounted}
use Rattle.max_bounds.proofs.highest.few_highest.Given as goal

abbrev pub invariant-loop-row : goal.invariant-loop-row
invariant-loop-row l = record {
  together : (l.first ∷ l.yielded) ++ l.row-iterator ≡ l.rows.list;
  counted : IsCounted l.people.people (bound_at l.upper) (l.first ∷ l.yielded) l.highest l.missing;
}
