use Rattle.std.proofs.Common.{◌≡◌, inl, inr, rules, SFits, ◌+◌, arith, sym, ap, ◌∙◌, length, length-append}
use Rattle.std.specs.Int.{w64}
use Rattle.std.proofs.lemmas.Int.{ints, to_z-of_z}
use Rattle.audit_types.specs.RowLaws.{walk_row, walk_more, length-rows}
use Rattle.max_bounds.specs.Maxima.{answer_of, pair_at}
use Rattle.max_bounds.specs.Reaching.{bound_at}
use Rattle.max_bounds.specs.Kept.{falls_of}
use Rattle.max_bounds.proofs.Walks.{walk_ends, counted-push, counted-same, filter-shorter}
use Rattle.max_bounds.proofs.Ranges.{falls-outside}
use Rattle.max_bounds.proofs.counts.falls.Goals as goal
use Rattle.max_bounds.proofs.counts.falls.Goals.{then-answer-range-via-then-answer-range, then-answer-range-via-else-answer-range+then-answer-range-2}

pub bounds-upper-row : goal.bounds-upper-row
bounds-upper-row c =
    let below = walk_row c.args.falling.now.n c.loop-row.yielded c.loop-row.row-iterator c.next.new.self c.args.falling.now.list c.in-Some.row
    c.n.ensures.are_rows c.loop-row.invariant.together c.in-Some.ensures.steps in
    omega arith

pub is_extreme-requires : goal.is_extreme-requires
is_extreme-requires c =
    let below = walk_row c.args.falling.now.n c.loop-row.yielded c.loop-row.row-iterator c.next.new.self c.args.falling.now.list c.in-Some.row
    c.n.ensures.are_rows c.loop-row.invariant.together c.in-Some.ensures.steps in
    record { place = c.requires.place; row = omega (arith, c.requires.same_n) }

pub overflow_add-count : goal.overflow_add-count
overflow_add-count c =
    let most = length-rows c.args.falling.now.n c.args.falling.now.list c.n.ensures.are_rows in
    let few : length c.loop-row.yielded + length c.loop-row.row-iterator ≡ length c.args.falling.now.list =
    sym (length-append c.loop-row.yielded c.loop-row.row-iterator) ∙ ap length c.loop-row.invariant.together in
    let counted = filter-shorter _ c.loop-row.yielded c.loop-row.count c.loop-row.invariant.counted in
    omega arith

pub loop-row-preserved-then-is_extreme : goal.loop-row-preserved-then-is_extreme
loop-row-preserved-then-is_extreme c = record {
  together =
      walk_more c.loop-row.yielded c.loop-row.row-iterator c.next.new.self c.args.falling.now.list c.in-Some.row c.loop-row.invariant.together
      c.in-Some.ensures.steps;
  counted = counted-push _ c.loop-row.yielded c.in-Some.row c.loop-row.count c.loop-row.invariant.counted (sym c.is_extreme.ensures ∙ c.if-is_extreme.true);
}

pub loop-row-preserved : goal.loop-row-preserved
loop-row-preserved c = record {
  together =
      walk_more c.loop-row.yielded c.loop-row.row-iterator c.next.new.self c.args.falling.now.list c.in-Some.row c.loop-row.invariant.together
      c.in-Some.ensures.steps;
  counted = counted-same _ c.loop-row.yielded c.in-Some.row c.loop-row.count c.loop-row.invariant.counted (sym c.is_extreme.ensures ∙ c.if-is_extreme.false);
}

pub returns : goal.returns
returns c =
    let all = walk_ends c.loop-row.yielded c.loop-row.row-iterator c.args.falling.now.list c.loop-row.invariant.together c.in-None.ensures.steps.0 in
    c.loop-row.invariant.counted ∙ ap (λ l. length (falls_of (bound_at c.args.upper.now) l (answer_of (pair_at c.args.pairs.now.items c.args.k)))) all

pub returns-then-answer-range : goal.returns-then-answer-range
returns-then-answer-range c =
    let pair = pair_at c.args.pairs.now.items c.args.k in
    let fits : SFits w64 c.answer-answer.result = search rules in
    let low_fits : SFits w64 c.args.range.low = search rules in
    let high_fits : SFits w64 c.args.range.high = search rules in
    let same = to_z-of_z w64 c.answer-answer.result fits in
    let low = to_z-of_z w64 c.args.range.low low_fits in
    let high = to_z-of_z w64 c.args.range.high high_fits in
    let read = c.answer-answer.ensures in
    sym (ap length (falls-outside (bound_at c.args.upper.now) c.args.falling.now.list c.args.range (answer_of pair) c.requires.holds
    (elim c.then-answer-range.branch [
      | then-answer-range-via-then-answer-range w ↦ inl (omega (arith, ints))
      | then-answer-range-via-else-answer-range+then-answer-range-2 w ↦ inr (omega (arith, ints))
    ])))
