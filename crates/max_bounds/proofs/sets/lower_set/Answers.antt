use Rattle.std.proofs.Common.{◌≡◌, refl, rules, SFits, sym, ap, ◌∙◌, get_or}
use Rattle.std.specs.Int.{w64}
use Rattle.std.proofs.lemmas.Int.{to_z-of_z}
use Rattle.std.proofs.lemmas.List.{get_or-set_same}
use Rattle.audit_types.specs.Rows.{AreRows, intersection}
use Rattle.audit_types.specs.ListLaws.{all-get_or}
use Rattle.max_bounds.specs.Maxima.{no_pair, pair_at, answer_of}
use Rattle.max_bounds.specs.declared.answered.AnsweredMax.{AnsweredMax}
use Rattle.max_bounds.proofs.LoweredSets.{lowered, left_is}
use Rattle.max_bounds.proofs.MarkedSets.{same_set}
use Rattle.max_bounds.proofs.sets.lower_set.Goals as goal
use Rattle.max_bounds.proofs.sets.lower_set.Goals.{After-and_with}

-- the set at the place after the call
after : (c : After-and_with) → pair_at c.and_with.new.self.items c.args.k ≡ record {
  answer = (pair_at c.args.least.now.items c.args.k).answer;
  rows = record { n = c.args.least.now.n; list = intersection c.args.least.now.n (pair_at c.args.least.now.items c.args.k).rows.list c.args.others.now.list };
}
after c = ap (λ l. get_or l c.args.k no_pair) c.and_with.ensures.both ∙ get_or-set_same c.args.least.now.items c.args.k _ no_pair c.requires.place

pub returns-then-answer-clause-outside : goal.returns-then-answer-clause-outside
returns-then-answer-clause-outside c = λ rows flipped yes.
    let pair = pair_at c.args.least.now.items c.args.k in
    let n = c.args.least.now.n in
    let same = all-get_or (λ (p : AnsweredMax). p.rows.n ≡ n) c.args.least.now.items c.args.k no_pair c.n.ensures.same_n c.requires.place in
    let are = all-get_or (λ (p : AnsweredMax). AreRows n p.rows.list) c.args.least.now.items c.args.k no_pair c.n.ensures.are_rows c.requires.place in
    ap (λ (p : AnsweredMax). p.rows) (after c)
    ∙ same_set _ pair.rows.n _ (sym same)
    (left_is n c.args.others.now.n rows pair.rows.list c.args.others.now.list _ c.requires.same_n are flipped refl)

pub returns-then-answer-clause-lowered : goal.returns-then-answer-clause-lowered
returns-then-answer-clause-lowered c = λ rows flipped.
    let pair = pair_at c.args.least.now.items c.args.k in
    let n = c.args.least.now.n in
    let are = all-get_or (λ (p : AnsweredMax). AreRows n p.rows.list) c.args.least.now.items c.args.k no_pair c.n.ensures.are_rows c.requires.place in
    let fits : SFits w64 c.answer.result = search rules in
    ap answer_of (after c)
    ∙ lowered n c.args.others.now.n c.args.answer pair.answer rows pair.rows.list c.args.others.now.list _ c.requires.same_n are flipped
    refl
    (rw (to_z-of_z w64 c.args.answer c.ranges.answer, to_z-of_z w64 c.answer.result fits, c.answer.ensures) at c.if-answer.true)
