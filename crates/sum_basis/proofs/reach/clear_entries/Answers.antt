use Rattle.std.specs.Int.{w128}
use Rattle.std.proofs.lemmas.Int.{to_z-of_z}
use Rattle.sum_basis.proofs.SmallEntries.{times_small}
use Rattle.sum_basis.proofs.reach.clear_entries.Goals as goal

pub combine_into-requires-clause-times : goal.combine_into-requires-clause-times
combine_into-requires-clause-times c =
    rw (to_z-of_z w128 c.args.times c.ranges.times, c.requires.times) (times_small c.args.columns c.args.new.now c.args.free.now c.requires.free)
