use Rattle.std.proofs.Common.{◌≡◌, refl, rules, sym, ◌∙◌}
use Rattle.audit_types.specs.Rows.{AreRows, intersection}
use Rattle.audit_types.specs.ListLaws.{all-get_or}
use Rattle.max_bounds.specs.Maxima.{no_pair, pair_at}
use Rattle.max_bounds.specs.Outside.{outside}
use Rattle.max_bounds.specs.declared.answered.AnsweredMax.{AnsweredMax}
use Rattle.max_bounds.proofs.LoweredSets.{left_is}
use Rattle.max_bounds.proofs.within.is_within.Goals as goal

pub returns-then-answer : goal.returns-then-answer
returns-then-answer c = λ rows flipped.
    let pair = pair_at c.args.least.now.items c.args.k in
    let n = c.args.least.now.n in
    let are = all-get_or (λ (p : AnsweredMax). AreRows n p.rows.list) c.args.least.now.items c.args.k no_pair c.n.ensures.are_rows c.requires.place in
    let left : intersection n pair.rows.list c.args.others.now.list ≡ outside rows pair.rows.list =
    left_is n c.args.others.now.n rows pair.rows.list c.args.others.now.list _ c.requires.same_n are flipped refl in
    let same : pair.answer ≡ c.args.answer = search rules in
    ((λ yes. record { same = same; none_left = sym left ∙ c.is_apart.ensures.0 yes }), (λ held. c.is_apart.ensures.1 (left ∙ held.none_left)))
