use Rattle.std.proofs.Common.{◌≡◌, ◌+◌, ◌≤◌, rules, arith, length}
use Rattle.std.specs.Prelude.{vec_len, vec_capacity}
use Rattle.audit_types.specs.Words.{words_over}
use Rattle.audit_types.proofs.PackedSets.{room_for}
use Rattle.audit_types.proofs.row_sets.RowSets.reserve.Goals as goal

pub returns-clause-room : goal.returns-clause-room
returns-clause-room c =
    let a = c.self.inside in
    let long : vec_len c.reserve.new.self ≡ length a.words.items = search rules in
    let enough : vec_len c.reserve.new.self + words_over a.n ≤ vec_capacity c.reserve.new.self = rw (← c.words_over.ensures) c.in_ok-reserve.ensures.ok in
    room_for a.n a.len c.reserve.new.self.items (vec_len c.reserve.new.self) (vec_capacity c.reserve.new.self) c.self.invariant.some
    (omega (arith, long, c.self.invariant.long)) enough
