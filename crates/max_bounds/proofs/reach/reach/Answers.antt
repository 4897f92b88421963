use Rattle.std.proofs.Common.{◌≡◌, arith, sym, subst, ◌∙◌, to_z, of_z}
use Rattle.std.proofs.lemmas.Bool.{true≢false}
use Rattle.std.specs.Int.{w64}
use Rattle.std.proofs.lemmas.Int.{to_z-of_z}
use Rattle.audit_types.specs.RowLaws.{walk_row, walk_more}
use Rattle.max_bounds.specs.Reaching.{bound_at}
use Rattle.max_bounds.specs.Kept.{is_at_least, is_above, AreSettled}
use Rattle.max_bounds.proofs.Walks.{joined, walk_ends}
use Rattle.max_bounds.proofs.ReachedRows.{all_reach, none_above}
use Rattle.max_bounds.proofs.reach.reach.Goals as goal

pub bounds-upper-row : goal.bounds-upper-row
bounds-upper-row c =
    let below = walk_row c.args.rows.now.n c.loop-row.yielded c.loop-row.row-iterator c.next.new.self c.args.rows.now.list c.in-Some.row
    c.n-n.ensures.are_rows c.loop-row.invariant.together c.in-Some.ensures.steps in
    omega arith

pub add_if-requires : goal.add_if-requires
add_if-requires c =
    let below = walk_row c.args.rows.now.n c.loop-row.yielded c.loop-row.row-iterator c.next.new.self c.args.rows.now.list c.in-Some.row
    c.n-n.ensures.are_rows c.loop-row.invariant.together c.in-Some.ensures.steps in
    omega (arith, c.loop-row.invariant.extremes_n)

pub add_if-requires-in-loop-row : goal.add_if-requires-in-loop-row
add_if-requires-in-loop-row c =
    let below = walk_row c.args.rows.now.n c.loop-row.yielded c.loop-row.row-iterator c.next.new.self c.args.rows.now.list c.in-Some.row
    c.n-n.ensures.are_rows c.loop-row.invariant.together c.in-Some.ensures.steps in
    omega (arith, c.loop-row.invariant.falling_n)

pub loop-row-preserved : goal.loop-row-preserved
loop-row-preserved c =
    let n = c.args.rows.now.n in
    let rows = c.args.rows.now.list in
    let answer = to_z w64 (of_z w64 c.args.answer) in
    let bound = bound_at c.args.upper.now in
    let more = walk_more c.loop-row.yielded c.loop-row.row-iterator c.next.new.self rows c.in-Some.row c.loop-row.invariant.together c.in-Some.ensures.steps in
    record {
      together = more;
      extremes_n = c.add_if.ensures.n ∙ c.loop-row.invariant.extremes_n;
      falling_n = c.add_if-in-loop-row.ensures.n ∙ c.loop-row.invariant.falling_n;
      extremes =
          joined n c.loop-row.extremes.n
          (λ r. is_at_least answer (bound r)) c.loop-row.yielded c.next.new.self rows c.loop-row.extremes.list _ c.in-Some.row c.is_at_least.result
          c.n-n.ensures.are_rows more c.loop-row.invariant.extremes_n c.loop-row.invariant.extremes c.is_at_least.ensures c.add_if.ensures.added;
      falling =
          joined n c.loop-row.falling.n
          (λ r. is_above answer (bound r)) c.loop-row.yielded c.next.new.self rows c.loop-row.falling.list _ c.in-Some.row c.is_above.result
          c.n-n.ensures.are_rows more c.loop-row.invariant.falling_n c.loop-row.invariant.falling c.is_above.ensures c.add_if-in-loop-row.ensures.added;
    }

pub returns : goal.returns
returns c =
    let same : to_z w64 (of_z w64 c.args.answer) ≡ c.args.answer = to_z-of_z w64 c.args.answer c.ranges.answer in
    let all = walk_ends c.loop-row.yielded c.loop-row.row-iterator c.args.rows.now.list c.loop-row.invariant.together c.in-None.ensures.steps.0 in
    record {
      extremes_n = c.loop-row.invariant.extremes_n;
      falling_n = c.loop-row.invariant.falling_n;
      extremes = rw (all, same) at c.loop-row.invariant.extremes;
      falling = rw (all, same) at c.loop-row.invariant.falling;
      settled = λ yes. absurd (true≢false (sym yes));
    }

pub returns-then-are_settled-clause-extremes : goal.returns-then-are_settled-clause-extremes
returns-then-are_settled-clause-extremes c =
    let same : to_z w64 (of_z w64 c.args.answer) ≡ c.args.answer = to_z-of_z w64 c.args.answer c.ranges.answer in
    all_reach (bound_at c.args.upper.now) c.args.answer c.args.rows.now.list
    (subst (λ a. AreSettled (bound_at c.args.upper.now) a c.args.rows.now.list) same (c.are_settled.ensures c.if-are_settled.true))

pub returns-then-are_settled-clause-falling : goal.returns-then-are_settled-clause-falling
returns-then-are_settled-clause-falling c =
    let same : to_z w64 (of_z w64 c.args.answer) ≡ c.args.answer = to_z-of_z w64 c.args.answer c.ranges.answer in
    c.new.ensures.empty
    ∙ none_above (bound_at c.args.upper.now) c.args.answer c.args.rows.now.list
    (subst (λ a. AreSettled (bound_at c.args.upper.now) a c.args.rows.now.list) same (c.are_settled.ensures c.if-are_settled.true))

pub returns-then-are_settled-clause-settled : goal.returns-then-are_settled-clause-settled
returns-then-are_settled-clause-settled c = λ yes.
    subst (λ a. AreSettled (bound_at c.args.upper.now) a c.args.rows.now.list) (to_z-of_z w64 c.args.answer c.ranges.answer)
    (c.are_settled.ensures c.if-are_settled.true)

pub loop-row-init : goal.loop-row-init
loop-row-init c = record {
  together = c.into_iter-row-iterator.ensures.into_iter_gives ∙ c.iter-row-items.ensures;
  extremes_n = c.new-extremes.ensures.n ∙ c.n-n.ensures.n;
  falling_n = c.new-falling.ensures.n ∙ c.n-n.ensures.n;
  extremes = c.new-extremes.ensures.empty;
  falling = c.new-falling.ensures.empty;
}
