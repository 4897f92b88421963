use Rattle.std.proofs.Common.{◌≡◌, take}
use Rattle.sum_basis.proofs.alike.same_wide_list.Given as goal

-- the entries so far are the same
abbrev pub invariant-loop-k : goal.invariant-loop-k
invariant-loop-k l = take l.k l.list ≡ take l.k l.other
