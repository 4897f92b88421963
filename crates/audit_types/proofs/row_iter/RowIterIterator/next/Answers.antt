use Rattle.std.proofs.Common.{◌<◌, ◌^◌, refl, sym, ◌∙◌, rules, arith}
use Rattle.audit_types.specs.Limits.{most_words}
use Rattle.audit_types.proofs.Walk.{first_row, fewer_left}
use Rattle.audit_types.proofs.row_iter.RowIterIterator.next.Goals as goal

pub returns-clause-steps : goal.returns-clause-steps
returns-clause-steps c =
    let found = c.in_ok-spot.ensures.some in
    let within : c.in_ok-spot.spot.place < most_words = omega (arith, found.0, c.self.invariant.at_most) in
    let fits : c.in_ok-spot.spot.word < 2 ^ 64 = search rules in
    sym c.self.view_is ∙ sym found.2 ∙ first_row c.self.inside.words.now c.in_ok-spot.spot _ within fits found.1 refl refl

pub returns-clause-goes : goal.returns-clause-goes
returns-clause-goes c = fewer_left (returns-clause-steps c)
