use Rattle.std.proofs.Common.{◌≡◌, length}
use Rattle.std.specs.List.{AllByRecursion, AllWithin}
use Rattle.sum_basis.specs.Holding.{IsKeptOf, IsKeptWithout}
use Rattle.sum_basis.proofs.keeping.forget_all.Given as goal

-- the sets so far have nothing left at the place
abbrev pub invariant-loop-k : goal.invariant-loop-k
invariant-loop-k l = record {
  kept : AllByRecursion (IsKeptOf l.form) l.kept.items;
  without : AllWithin (IsKeptWithout l.place) l.kept.items 0 l.k;
  long : length l.kept.items ≡ length l.initial.kept.items;
}
