use Rattle.std.proofs.Common.{◌∙◌, ℕ, [], sym, ap, subst, SFits, rules}
use Rattle.std.specs.Int.{w64, w128}
use Rattle.std.proofs.lemmas.Bool.{true≢false}
use Rattle.std.proofs.lemmas.Int.{to_z-of_z}
use Rattle.audit_types.specs.Rows.{Rows, AreRows, intersection, complement}
use Rattle.audit_types.specs.Extremes.{upper_bound}
use Rattle.audit_types.specs.Headcount.{AreFew}
use Rattle.max_bounds.specs.Kept.{rows_at_least}
use Rattle.max_bounds.specs.Maxima.{answer_of}
use Rattle.denial_proof.proofs.FewLeft.{outside_reach}
use Rattle.denial_proof.proofs.outlook.left_outside.Goals as goal

pub returns-in-None : goal.returns-in-None
returns-in-None c = λ asked flipped one.
    let n = c.args.bounds.now.n in
    let answers = c.args.bounds.now.answers in
    let pair = c.args.pair.now in
    let are : AreRows n pair.rows.list = subst (λ (k : ℕ). AreRows k pair.rows.list) c.requires.pair c.n.ensures.are_rows in
    let list = c.and_with.ensures.both ∙ ap (λ k. intersection k pair.rows.list c.args.others.now.list) c.requires.pair
    ∙ ap (intersection n pair.rows.list) (flipped ∙ ap (λ k. complement k asked) c.requires.others) in
    let rows = ap (rows_at_least (upper_bound answers) pair.answer) list ∙ sym (outside_reach n answers asked (answer_of pair) one are) in
    let fits : SFits w64 pair.answer = search rules in
    let value = to_z-of_z w64 pair.answer fits in
    let wide : SFits w128 pair.answer = search rules in
    let told = rw (value, to_z-of_z w128 pair.answer wide) at c.in-None.ensures in
    subst (λ list. ¬ (AreFew c.args.people.now.people [] list)) rows told

pub returns-then-is_empty : goal.returns-then-is_empty
returns-then-is_empty c = λ asked flipped one.
    let n = c.args.bounds.now.n in
    let answers = c.args.bounds.now.answers in
    let pair = c.args.pair.now in
    let are : AreRows n pair.rows.list = subst (λ (k : ℕ). AreRows k pair.rows.list) c.requires.pair c.n.ensures.are_rows in
    let list = c.and_with.ensures.both ∙ ap (λ k. intersection k pair.rows.list c.args.others.now.list) c.requires.pair
    ∙ ap (intersection n pair.rows.list) (flipped ∙ ap (λ k. complement k asked) c.requires.others) in
    let rows = ap (rows_at_least (upper_bound answers) pair.answer) list ∙ sym (outside_reach n answers asked (answer_of pair) one are) in
    let fits : SFits w64 pair.answer = search rules in
    let value = to_z-of_z w64 pair.answer fits in
    let wide : SFits w128 pair.answer = search rules in
    let told = rw (value, to_z-of_z w128 pair.answer wide) at c.in-Some.ensures in
    sym rows ∙ sym (ap (λ (s : Rows). s.list) told.0) ∙ c.is_empty.ensures.0 c.if-is_empty.true

pub returns-else-is_empty : goal.returns-else-is_empty
returns-else-is_empty c = λ asked flipped one none.
    let n = c.args.bounds.now.n in
    let answers = c.args.bounds.now.answers in
    let pair = c.args.pair.now in
    let are : AreRows n pair.rows.list = subst (λ (k : ℕ). AreRows k pair.rows.list) c.requires.pair c.n.ensures.are_rows in
    let list = c.and_with.ensures.both ∙ ap (λ k. intersection k pair.rows.list c.args.others.now.list) c.requires.pair
    ∙ ap (intersection n pair.rows.list) (flipped ∙ ap (λ k. complement k asked) c.requires.others) in
    let rows = ap (rows_at_least (upper_bound answers) pair.answer) list ∙ sym (outside_reach n answers asked (answer_of pair) one are) in
    let fits : SFits w64 pair.answer = search rules in
    let value = to_z-of_z w64 pair.answer fits in
    let wide : SFits w128 pair.answer = search rules in
    let told = rw (value, to_z-of_z w128 pair.answer wide) at c.in-Some.ensures in
    true≢false (sym (c.is_empty.ensures.1 (ap (λ (s : Rows). s.list) told.0 ∙ rows ∙ none)) ∙ c.if-is_empty.false)
