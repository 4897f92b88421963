use Rattle.std.proofs.Common.{arith, length, ◌<◌, ◌≡◌, ◌∙◌, ◌++◌, ◌∷◌, [], take, ◌+◌, sym, ap, subst, rules, SFits}
use Rattle.std.specs.Int.{w64}
use Rattle.std.proofs.lemmas.Int.{to_z-of_z}
use Rattle.std.proofs.lemmas.List.{map_more}
use Rattle.audit_types.specs.Headcount.{AreFew}
use Rattle.audit_types.specs.Column.{IsOneOf}
use Rattle.max_bounds.specs.Maxima.{answer_of, answers_of}
use Rattle.max_bounds.specs.AnswerLaws.{one_here, read_is}
use Rattle.denial_proof.specs.Outlook.{IsHolding}
use Rattle.denial_proof.proofs.OutlookWalks.{holding_step}
use Rattle.denial_proof.proofs.outlook.holding_of.Goals as goal

pub loop-k-preserved : goal.loop-k-preserved
loop-k-preserved c = λ asked flipped.
    let items = c.pairs-pairs.result.now.items in
    let i = c.loop-k.k in
    let pair = c.get-pair.result in
    let within : i < length items = omega arith in
    let is = read_is items i pair within c.get-pair.ensures in
    let x = answer_of pair in
    let answers = c.args.bounds.now.answers in
    let seen = answers_of (take i items) in
    let fits : SFits w64 pair.answer = search rules in
    let same = to_z-of_z w64 pair.answer fits in
    let more : answers_of (take (i + 1) items) ≡ seen ++ x ∷ [] =
    map_more answer_of items i pair within ∙ ap (λ y. seen ++ answer_of y ∷ []) (sym is) in
    let fewest = c.n.ensures.counted.fewest in
    let few_none : AreFew c.args.people.now.people [] [] = omega (arith, fewest) in
    let one = subst (λ list. IsOneOf x list) c.pairs-pairs.ensures.answers (one_here items i pair within is) in
    subst (λ list. IsHolding answers c.args.people.now.people asked list c.and-holding.result) (sym more)
    (holding_step answers c.args.people.now.people asked seen x c.left_outside-left.result c.loop-k.holding c.and-holding.result few_none one
    (c.left_outside-left.ensures asked flipped one)
    (rw same at c.and-holding.ensures) (c.loop-k.invariant asked flipped))
