use Rattle.std.proofs.Common.{ℕ, ◌<◌, ◌≤◌, get_or}
use Rattle.sum_basis.proofs.counting.greatest_count.Given as goal

-- no count so far is greater
abbrev pub invariant-loop-count : goal.invariant-loop-count
invariant-loop-count l = (j : ℕ) → j < l.count-index → get_or l.counts j 0 ≤ l.most
