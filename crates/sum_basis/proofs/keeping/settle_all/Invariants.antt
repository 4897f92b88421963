use Rattle.std.proofs.Common.{◌≡◌, map}
use Rattle.std.specs.List.{AllByRecursion}
use Rattle.sum_basis.specs.Holding.{IsKeptOf}
use Rattle.sum_basis.specs.declared.keeping.KeptSet.{KeptSet}
use Rattle.sum_basis.proofs.keeping.settle_all.Given as goal

-- they are the same sets
abbrev pub invariant-loop-k : goal.invariant-loop-k
invariant-loop-k l = record {
  kept : AllByRecursion (IsKeptOf l.form) l.kept.items;
  are : map (λ (s : KeptSet). s.rows) l.kept.items ≡ map (λ (s : KeptSet). s.rows) l.initial.kept.items;
}
