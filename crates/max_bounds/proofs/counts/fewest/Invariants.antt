use Rattle.std.proofs.Common.{◌≡◌, take}
use Rattle.max_bounds.specs.Kept.{fewest_of}
use Rattle.max_bounds.proofs.counts.fewest.Given as goal

abbrev pub invariant-loop-count : goal.invariant-loop-count
invariant-loop-count l = l.fewest ≡ fewest_of (take l.count-index l.counts)
