use Rattle.std.proofs.Common.{◌≡◌, map, take}
use Rattle.std.specs.Prelude.{All}
use Rattle.std.specs.List.{AllByRecursion}
use Rattle.audit_types.specs.Rows.{Rows}
use Rattle.sum_basis.specs.Basis.{Echelon}
use Rattle.sum_basis.specs.Holding.{IsKeptOf}
use Rattle.sum_basis.specs.declared.keeping.KeptSet.{KeptSet}
use Rattle.sum_basis.proofs.keeping.keep_all.Given as goal

-- the sets so far are kept
abbrev pub invariant-loop-set : goal.invariant-loop-set
invariant-loop-set l = record {
  kept : (form : Echelon) → All (λ (s : Rows). s.n ≡ form.n) l.sets → AllByRecursion (IsKeptOf form) l.kept.items;
  are : map (λ (s : KeptSet). s.rows) l.kept.items ≡ take l.set-index l.sets;
}
