use Rattle.std.proofs.Common.{◌≡◌, arith, rules, length}
use Rattle.std.specs.Prelude.{vec_len}
use Rattle.max_bounds.proofs.PairedSets.{length-paired}
use Rattle.max_bounds.proofs.answered_maxima.AnsweredMaxima.reserve.Goals as goal

pub returns-clause-room : goal.returns-clause-room
returns-clause-room c =
    let long : vec_len c.reserve-2.new.self ≡ length c.reserve-2.new.self.items = search rules in
    let answers = c.in_ok-reserve-2.ensures.items in
    let sets = c.in_ok-reserve.ensures.same in
    let same : length c.reserve-2.new.self.items ≡ length c.reserve.new.self.list = rw (answers, sets) c.self.invariant in
    omega (arith, c.in_ok-reserve.ensures.room, c.in_ok-reserve-2.ensures.ok, long, same, length-paired c.reserve-2.new.self.items c.reserve.new.self.list same)
