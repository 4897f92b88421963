use Rattle.std.proofs.Common.{arith}
use Rattle.std.proofs.lemmas.List.Sums.{count_by-le-length}
use Rattle.drill_case.specs.Tallies.{is_released, is_unsafe, is_wide, is_other}
use Rattle.drill_case.proofs.tallies.Tally.count.Goals as goal

pub overflow_add-self : goal.overflow_add-self
overflow_add-self c = let room = c.requires.room in omega (arith, room.1.asked, room.2)

pub overflow_add-self-in-Released : goal.overflow_add-self-in-Released
overflow_add-self-in-Released c = let room = c.requires.room in omega (arith, room.1.released, count_by-le-length is_released room.0, room.2)

pub overflow_add-self-in-DeniedUnsafe : goal.overflow_add-self-in-DeniedUnsafe
overflow_add-self-in-DeniedUnsafe c = let room = c.requires.room in omega (arith, room.1.denied_unsafe, count_by-le-length is_unsafe room.0, room.2)

pub overflow_add-self-in-DeniedWide : goal.overflow_add-self-in-DeniedWide
overflow_add-self-in-DeniedWide c = let room = c.requires.room in omega (arith, room.1.denied_wide, count_by-le-length is_wide room.0, room.2)

pub overflow_add-self-in-Other : goal.overflow_add-self-in-Other
overflow_add-self-in-Other c = let room = c.requires.room in omega (arith, room.1.refused, count_by-le-length is_other room.0, room.2)
