use Rattle.std.proofs.Common.{arith, length, ◌<◌, ◌≡◌, ◌∙◌, ◌++◌, ◌∷◌, [], take, ◌+◌, sym, ap, subst, rules, SFits}
use Rattle.std.specs.Int.{w64, w128}
use Rattle.std.proofs.lemmas.Int.{to_z-of_z}
use Rattle.std.proofs.lemmas.List.{map_more, take_all}
use Rattle.audit_types.specs.Column.{Answer, IsOneOf}
use Rattle.max_bounds.specs.AnswerLaws.{one_here, read_is}
use Rattle.max_bounds.specs.Maxima.{answer_of, answers_of, and_answer}
use Rattle.denial_proof.specs.FewRows.{AreFoundFew, IsLeastFewFound}
use Rattle.denial_proof.proofs.FewLeft.{asked_left}
use Rattle.denial_proof.proofs.LeastFew.{found_more}
use Rattle.denial_proof.proofs.maxima.least_few.Goals as goal

pub loop-k-preserved : goal.loop-k-preserved
loop-k-preserved c =
    let n = c.args.bounds.now.n in
    let people = c.args.people.now.people in
    let rows = c.args.rows.now.list in
    let items = c.pairs-pairs.result.now.items in
    let i = c.loop-k.k in
    let pair = c.get-pair.result in
    let within : i < length items = omega arith in
    let is = read_is items i pair within c.get-pair.ensures in
    let x = answer_of pair in
    let answer = to_z-of_z w128 c.args.answer c.ranges.answer in
    let after = and_answer c.args.bounds.now.answers rows c.args.answer in
    let seen = answers_of (take i items) in
    let fits : SFits w64 pair.answer = search rules in
    let value = to_z-of_z w64 pair.answer fits in
    let wide : SFits w128 pair.answer = search rules in
    let more : answers_of (take (i + 1) items) ≡ seen ++ x ∷ [] =
    map_more answer_of items i pair within ∙ ap (λ y. seen ++ answer_of y ∷ []) (sym is) in
    let one = subst (λ list. IsOneOf x list) c.pairs-pairs.ensures.answers (one_here items i pair within is) in
    let left = (rw (value, to_z-of_z w128 pair.answer wide, answer) at c.few_left-left.ensures) rows c.requires.complement one in
    rw answer
    (subst (λ list. IsLeastFewFound n people after list c.first_with-first.result) (sym more)
    (found_more n people after seen x c.loop-k.first c.few_left-left.result c.first_with-first.result (rw answer at c.loop-k.invariant) left
    c.first_with-first.ensures))

pub returns : goal.returns
returns c =
    let n = c.args.bounds.now.n in
    let people = c.args.people.now.people in
    let rows = c.args.rows.now.list in
    let answers = c.args.bounds.now.answers in
    let answer = to_z-of_z w128 c.args.answer c.ranges.answer in
    let after = and_answer answers rows c.args.answer in
    let last : Answer = record { rows = rows; value = c.args.answer } in
    let all = ap answers_of (take_all c.loop-k.k c.pairs-pairs.result.now.items (omega arith)) ∙ c.pairs-pairs.ensures.answers in
    let before = subst (λ list. IsLeastFewFound n people after list c.loop-k.first) all (rw answer at c.loop-k.invariant) in
    let left = subst (λ list. AreFoundFew n people list c.few_reaching.result) (sym (asked_left n answers rows c.args.answer))
    (rw answer at c.few_reaching.ensures) in
    found_more n people after answers last c.loop-k.first c.few_reaching.result c.first_with.result before left c.first_with.ensures
