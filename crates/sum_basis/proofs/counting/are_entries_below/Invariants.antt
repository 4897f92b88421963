use Rattle.std.proofs.Common.{ℕ, ◌+◌, ◌<◌, get_or}
use Rattle.sum_basis.proofs.ListContents.{none}
use Rattle.sum_basis.proofs.counting.are_entries_below.Given as goal

-- each entry so far is below the reach
abbrev pub invariant-loop-e : goal.invariant-loop-e
invariant-loop-e l = (k : ℕ) → k < l.e-index → get_or l.counts (get_or l.entries k none).place 0 + l.more < l.reach
