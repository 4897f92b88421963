use Rattle.std.proofs.Common.{◌≡◌, ◌<◌, rules, refl, SFits, to_z, of_z, sym, ap, ◌∙◌, take, take_all, arith, length}
use Rattle.std.specs.Int.{w64, int_min}
use Rattle.std.proofs.lemmas.Int.{to_z-of_z}
use Rattle.std.proofs.lemmas.List.{map_more}
use Rattle.max_bounds.specs.Maxima.{answer_of, answers_of, pair_at}
use Rattle.max_audit.proofs.CandidateLists.{least_step, least_ends, one_below}
use Rattle.max_audit.proofs.candidates.below_all.Goals as goal
use Rattle.max_bounds.specs.AnswerLaws.{one_here, read_is}

pub loop-k-init : goal.loop-k-init
loop-k-init c =
    let pairs = c.args.pairs.now.items in
    let fits : SFits w64 c.answer-least.result = search rules in
    let within : 0 < length pairs = omega arith in
    rw (to_z-of_z w64 c.answer-least.result fits)
    (record {
      one = (
        answer_of (pair_at pairs 0),
        one_here pairs 0 (pair_at pairs 0) within (read_is pairs 0 (pair_at pairs 0) within refl),
        sym c.answer-least.ensures,
      );
      low = tt;
    })

pub loop-k-preserved : goal.loop-k-preserved
loop-k-preserved c =
    let pairs = c.args.pairs.now.items in
    let k = c.loop-k.k in
    let x = pair_at pairs k in
    let within : k < length pairs = omega arith in
    let is = read_is pairs k x within refl in
    let more = map_more answer_of pairs k x within in
    let a = c.answer.result in
    let fits : SFits w64 a = search rules in
    let fits_least : SFits w64 c.min-least.result = search rules in
    let value : to_z w64 (of_z w64 c.min-least.result) ≡ int_min (to_z w64 c.loop-k.least-bits) x.answer =
    to_z-of_z w64 c.min-least.result fits_least ∙ c.min-least.ensures.value
    ∙ ap (int_min (to_z w64 c.loop-k.least-bits)) (to_z-of_z w64 a fits ∙ c.answer.ensures) in
    rw (more, ← is, value)
    (least_step (answers_of pairs) _ (to_z w64 c.loop-k.least-bits) (answer_of x) (one_here pairs k x within is) c.loop-k.invariant)

pub returns-clause-exact : goal.returns-clause-exact
returns-clause-exact c =
    let pairs = c.args.pairs.now.items in
    let fits : SFits w64 (to_z w64 c.loop-k.least-bits) = search rules in
    let whole : take c.loop-k.k pairs ≡ pairs = take_all c.loop-k.k pairs (omega arith) in
    rw (one_below (to_z w64 c.loop-k.least-bits) fits)
    (least_ends (answers_of pairs) (to_z w64 c.loop-k.least-bits) (rw whole at c.loop-k.invariant))
