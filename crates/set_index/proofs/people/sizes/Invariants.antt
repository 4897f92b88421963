use Rattle.std.proofs.Common.{◌≡◌, map, take}
use Rattle.std.specs.Prelude.{unsigned_abs}
use Rattle.set_index.proofs.people.sizes.Given as goal

-- the counts so far are there
abbrev pub invariant-loop-count : goal.invariant-loop-count
invariant-loop-count l = l.sizes.items ≡ map unsigned_abs (take l.count-index l.counts)
