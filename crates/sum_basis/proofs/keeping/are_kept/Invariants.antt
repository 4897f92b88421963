use Rattle.std.proofs.Common.{◌≡◌, map, take}
use Rattle.sum_basis.specs.declared.keeping.KeptSet.{KeptSet}
use Rattle.sum_basis.proofs.keeping.are_kept.Given as goal

-- the sets so far are the kept ones
abbrev pub invariant-loop-k : goal.invariant-loop-k
invariant-loop-k l = take l.k (map (λ (s : KeptSet). s.rows) l.kept) ≡ take l.k l.sets
