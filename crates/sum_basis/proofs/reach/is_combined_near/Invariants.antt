use Rattle.std.proofs.Common.{ℕ, ◌<◌, ◌≤◌, get_or}
use Rattle.sum_basis.proofs.ListContents.{none}
use Rattle.sum_basis.proofs.reach.is_combined_near.Given as goal

-- no entry so far is near
abbrev pub invariant-loop-e : goal.invariant-loop-e
invariant-loop-e l = (k : ℕ) → k < l.e-index → l.reach ≤ get_or l.counts (get_or l.entries k none).place 0
