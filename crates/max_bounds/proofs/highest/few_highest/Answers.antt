use Rattle.std.proofs.Common.{◌-◌, ◌+◌, ◌∷◌, ◌++◌, arith, sym, ap, ◌∙◌, subst, List, ℕ, []}
use Rattle.std.proofs.lemmas.Grind.{common_steps}
use Rattle.std.proofs.lemmas.Bool.{true≢false}
use Rattle.std.proofs.lemmas.Bool.Decides.{Decides-ltb}
use Rattle.audit_types.specs.Headcount.{count_at}
use Rattle.audit_types.specs.RowLaws.{walk_row, walk_more}
use Rattle.max_bounds.specs.Reaching.{bound_at}
use Rattle.max_bounds.proofs.Walks.{walk_ends, equal_bounds, other_bounds, without_bound}
use Rattle.max_bounds.proofs.HighestPeople.{IsCounted, count_begins, count_equal, count_above, count_below, count_ends, enough_free}
use Rattle.max_bounds.proofs.highest.few_highest.Goals as goal

pub loop-row-init : goal.loop-row-init
loop-row-init c =
    let bound = bound_at c.args.upper.now in
    let missing = c.less_row-missing.ensures ∙ ap (λ enough. enough - count_at c.counts-counts.result.now c.in-Some.first) c.enough-enough.ensures
    ∙ ap (λ counts. (c.args.people.now.people.fewest + c.args.people.now.people.own) - count_at counts c.in-Some.first) c.counts-counts.ensures in
    record {
      together = grind (arith, common_steps);
      counted = subst (IsCounted c.args.people.now.people bound (c.in-Some.first ∷ []) (bound c.in-Some.first)) (sym missing)
          (count_begins c.args.people.now.people bound c.in-Some.first);
    }

pub bounds-upper-first : goal.bounds-upper-first
bounds-upper-first c =
    let below = walk_row c.args.rows.now.n [] c.iter-left.result c.next.new.self c.args.rows.now.list c.in-Some.first
    c.n.ensures.are_rows c.iter-left.ensures c.in-Some.ensures.steps in
    omega arith

pub bounds-upper-row : goal.bounds-upper-row
bounds-upper-row c =
    let below = walk_row c.args.rows.now.n (c.in-Some.first ∷
    c.loop-row.yielded) c.loop-row.row-iterator c.next-in-loop-row.new.self c.args.rows.now.list c.in-Some-row.row
    c.n.ensures.are_rows c.loop-row.invariant.together c.in-Some-row.ensures.steps in
    omega arith

pub returns-then-missing-eq0 : goal.returns-then-missing-eq0
returns-then-missing-eq0 c =
    let people = c.args.people.now.people in
    let bound = bound_at c.args.upper.now in
    let seen : List ℕ = c.in-Some.first ∷ c.loop-row.yielded in
    let free = without_bound _ c.is_none.result c.is_none.ensures c.if-is_none.true in
    let counted = subst (λ o. IsCounted people bound seen o c.loop-row.missing) free c.loop-row.invariant.counted in (
      (λ yes. absurd (true≢false (sym yes))),
      (λ few. absurd (enough_free people bound seen c.loop-row.row-iterator c.args.rows.now.list c.loop-row.missing counted c.if-missing-eq0.true
          c.loop-row.invariant.together few)),
    )

pub loop-row-preserved-then-eq : goal.loop-row-preserved-then-eq
loop-row-preserved-then-eq c =
    let people = c.args.people.now.people in
    let bound = bound_at c.args.upper.now in
    let seen : List ℕ = c.in-Some.first ∷ c.loop-row.yielded in
    let missing = c.less_row-missing-then-eq.ensures ∙ ap (λ counts. c.loop-row.missing - count_at counts c.in-Some-row.row) c.counts-counts.ensures in
    record {
      together =
          walk_more seen c.loop-row.row-iterator c.next-in-loop-row.new.self c.args.rows.now.list c.in-Some-row.row c.loop-row.invariant.together
          c.in-Some-row.ensures.steps;
      counted = subst (IsCounted people bound (seen ++ c.in-Some-row.row ∷ []) c.loop-row.highest) (sym missing)
          (count_equal people bound seen c.loop-row.highest c.loop-row.missing c.in-Some-row.row c.loop-row.invariant.counted
          (equal_bounds _ _ (sym c.eq.ensures ∙ c.if-eq.true)));
    }

pub loop-row-preserved-then-is_higher : goal.loop-row-preserved-then-is_higher
loop-row-preserved-then-is_higher c =
    let people = c.args.people.now.people in
    let bound = bound_at c.args.upper.now in
    let seen : List ℕ = c.in-Some.first ∷ c.loop-row.yielded in
    let missing = c.less_row-missing-then-is_higher.ensures
    ∙ ap (λ enough. enough - count_at c.counts-counts.result.now c.in-Some-row.row) c.enough-enough.ensures
    ∙ ap (λ counts. (people.fewest + people.own) - count_at counts c.in-Some-row.row) c.counts-counts.ensures in
    record {
      together =
          walk_more seen c.loop-row.row-iterator c.next-in-loop-row.new.self c.args.rows.now.list c.in-Some-row.row c.loop-row.invariant.together
          c.in-Some-row.ensures.steps;
      counted = subst (IsCounted people bound (seen ++ c.in-Some-row.row ∷ []) (bound c.in-Some-row.row)) (sym missing)
          (count_above people bound seen c.loop-row.highest c.loop-row.missing c.in-Some-row.row c.loop-row.invariant.counted
          (c.is_higher.ensures.0 c.if-is_higher.true));
    }

pub loop-row-preserved : goal.loop-row-preserved
loop-row-preserved c =
    let people = c.args.people.now.people in
    let seen : List ℕ = c.in-Some.first ∷ c.loop-row.yielded in
    record {
      together =
          walk_more seen c.loop-row.row-iterator c.next-in-loop-row.new.self c.args.rows.now.list c.in-Some-row.row c.loop-row.invariant.together
          c.in-Some-row.ensures.steps;
      counted =
          count_below people (bound_at c.args.upper.now) seen c.loop-row.highest c.loop-row.missing c.in-Some-row.row c.loop-row.invariant.counted
          (other_bounds _ _ (sym c.eq.ensures ∙ c.if-eq.false))
          (λ above. true≢false (sym (c.is_higher.ensures.1 above) ∙ c.if-is_higher.false));
    }

pub returns : goal.returns
returns c =
    let people = c.args.people.now.people in
    let seen : List ℕ = c.in-Some.first ∷ c.loop-row.yielded in
    let all = walk_ends seen c.loop-row.row-iterator c.args.rows.now.list c.loop-row.invariant.together c.in-None.ensures.steps.0 in
    let ends = count_ends people (bound_at c.args.upper.now) c.args.rows.now.list c.loop-row.highest c.loop-row.missing
    (subst (λ l. IsCounted people (bound_at c.args.upper.now) l c.loop-row.highest c.loop-row.missing) all c.loop-row.invariant.counted) in
    ((λ yes. ends.0 ((Decides-ltb 0 c.loop-row.missing).0 yes)), (λ few. (Decides-ltb 0 c.loop-row.missing).1 (ends.1 few)))
