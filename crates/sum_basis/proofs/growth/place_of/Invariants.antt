use Rattle.std.proofs.Common.{◌≤◌, take}
use Rattle.std.specs.List.{AllByRecursion}
use Rattle.sum_basis.proofs.growth.place_of.Given as goal

abbrev pub invariant-loop-k : goal.invariant-loop-k
invariant-loop-k l = AllByRecursion (λ r. r.pivot ≤ l.pivot) (take l.k l.rows)
