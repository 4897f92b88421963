use Rattle.std.proofs.Common.{◌<◌, refl, arith, length}
use Rattle.audit_types.proofs.Walk.{nothing_left, same_left}
use Rattle.audit_types.proofs.row_iter.next_spot.Goals as goal

pub returns-then-place-words-clause-none : goal.returns-then-place-words-clause-none
returns-then-place-words-clause-none c =
    nothing_left c.args.words.now c.args.spot c.first_word-place.result c.if-spot-ne0.false c.first_word-place.ensures.none (omega arith) (omega arith)

pub returns-clause-some : goal.returns-clause-some
returns-clause-some c =
    let below : c.first_word-place.result < length c.args.words.now = omega arith in (
      below,
      c.first_word-place.ensures.some below,
      same_left c.args.words.now c.args.spot c.first_word-place.result c.if-spot-ne0.false c.first_word-place.ensures.none _ refl (omega arith) refl,
    )
