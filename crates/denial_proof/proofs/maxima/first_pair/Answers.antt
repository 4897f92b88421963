use Rattle.std.proofs.Common.{◌≡◌, below_more, Some, List, length, refl, sym, ap, ◌∙◌, subst, arith}
use Rattle.std.specs.Prelude.{slice_get}
use Rattle.std.specs.Int.{w128}
use Rattle.std.proofs.lemmas.Bool.{true≢false}
use Rattle.std.proofs.lemmas.Int.{to_z-of_z}
use Rattle.std.proofs.lemmas.Option.{slice_get_read, slice_get_within}
use Rattle.audit_types.specs.Rows.{complement}
use Rattle.audit_types.specs.Column.{Answer, IsOneOf}
use Rattle.audit_types.specs.Extremes.{extremes}
use Rattle.audit_types.specs.History.{answer_in}
use Rattle.max_bounds.specs.Maxima.{and_answer}
use Rattle.denial_proof.proofs.HeldBelow.{own_is_one}
use Rattle.denial_proof.proofs.FirstPairs.{not_few_at}
use Rattle.denial_proof.proofs.maxima.first_pair.Goals as goal

pub has_left-requires-clause-one : goal.has_left-requires-clause-one
has_left-requires-clause-one c = λ own.
    let history = c.args.history.now in
    let r = c.index-history-place.result in
    subst (IsOneOf (answer_in r)) (sym c.requires.answers)
    (own_is_one history c.loop-place.place c.args.asked.now.column r c.loop-place-test.true c.index-history-place.is own)

pub loop-place-preserved : goal.loop-place-preserved
loop-place-preserved c =
    let history = c.args.history.now in
    let rows = c.args.asked.now.rows in
    let r = c.index-history-place.result in
    let answer = to_z-of_z w128 c.args.answer c.ranges.answer in
    let there : slice_get history c.loop-place.place ≡ Some r = slice_get_read history
    (length history) c.loop-place.place r refl c.loop-place-test.true c.index-history-place.is in
    let flipped = c.flip.ensures.others ∙ ap (λ k. complement k rows.list) (sym c.flip.ensures.n) in
    let told = (rw answer at c.has_left.ensures) rows.list flipped in
    rw answer
    (below_more _ _ (rw answer at c.loop-place.invariant)
    (not_few_at history c.args.asked.now c.args.answer c.args.few.now.list c.loop-place.place r there
    (λ both. true≢false
    (sym (told.1 (
      both.0,
      subst (λ (b : List Answer). extremes (and_answer b rows.list c.args.answer) (answer_in r) ≡ c.args.few.now.list)
          (sym c.requires.answers) both.1,
    ))
    ∙ c.if-has_left.false))))

pub returns-then-has_left : goal.returns-then-has_left
returns-then-has_left c =
    let history = c.args.history.now in
    let rows = c.args.asked.now.rows in
    let r = c.index-history-place.result in
    let answer = to_z-of_z w128 c.args.answer c.ranges.answer in
    let there : slice_get history c.loop-place.place ≡ Some r = slice_get_read history
    (length history) c.loop-place.place r refl c.loop-place-test.true c.index-history-place.is in
    let flipped = c.flip.ensures.others ∙ ap (λ k. complement k rows.list) (sym c.flip.ensures.n) in
    let both = ((rw answer at c.has_left.ensures) rows.list flipped).0 c.if-has_left.true in (
      (
        r,
        record { there = there; own = both.0 },
        subst (λ (b : List Answer). extremes (and_answer b rows.list c.args.answer) (answer_in r) ≡ c.args.few.now.list) c.requires.answers both.1,
      ),
      rw answer at c.loop-place.invariant,
    )

pub returns : goal.returns
returns c = λ q found.
    let below = slice_get_within c.args.history.now q found.0 found.1.there in
    let answer = to_z-of_z w128 c.args.answer c.ranges.answer in
    (rw answer at c.loop-place.invariant) q (omega arith) found
