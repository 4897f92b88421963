use Rattle.std.proofs.Common.{ℕ, ◌≤◌, take}
use Rattle.std.specs.Prelude.{unsigned_abs}
use Rattle.std.specs.List.{AllByRecursion}
use Rattle.sum_basis.specs.declared.sparse.FreeEntry.{FreeEntry}
use Rattle.sum_basis.proofs.within_limit.greatest.Given as goal

abbrev pub invariant-loop-e : goal.invariant-loop-e
invariant-loop-e l = record {
  values : AllByRecursion (λ (e : FreeEntry). unsigned_abs e.value ≤ l.most) (take l.e-index l.entries);
  least : (m : ℕ) → AllByRecursion (λ (e : FreeEntry). unsigned_abs e.value ≤ m) (take l.e-index l.entries) → l.most ≤ m;
}
