use Rattle.std.proofs.Common.{◌-◌, ap, sym, ◌∙◌, arith, ◌∷◌, ◌++◌, []}
use Rattle.std.proofs.lemmas.Bool.{true≢false}
use Rattle.std.proofs.lemmas.Bool.Decides.{Decides-ltb}
use Rattle.audit_types.specs.Headcount.{count_at, people_behind}
use Rattle.audit_types.specs.RowLaws.{walk_more}
use Rattle.max_bounds.proofs.MissingPeople.{missing_more, nobody_missing}
use Rattle.max_bounds.proofs.Walks.{walk_ends}
use Rattle.max_bounds.proofs.people.are_fewer.Goals as goal

pub loop-row-init : goal.loop-row-init
loop-row-init c = record { together = c.into_iter-row-iterator.ensures.into_iter_gives ∙ c.iter-row-items.ensures; missing = omega (arith, c.requires) }

pub loop-row-preserved : goal.loop-row-preserved
loop-row-preserved c = record {
  together =
      walk_more c.loop-row.yielded c.loop-row.row-iterator c.next.new.self c.args.rows.now.list c.in-Some.row c.loop-row.invariant.together
      c.in-Some.ensures.steps;
  missing = missing_more _ c.args.people.now.people.counts c.loop-row.yielded c.in-Some.row c.loop-row.missing c.less_row-missing.result
      c.loop-row.invariant.missing
      (c.less_row-missing.ensures ∙ ap (λ counts. c.loop-row.missing - count_at counts c.in-Some.row) c.counts-counts.ensures);
}

pub returns-then-missing-eq0 : goal.returns-then-missing-eq0
returns-then-missing-eq0 c =
    let less = missing_more _ c.args.people.now.people.counts c.loop-row.yielded c.in-Some.row c.loop-row.missing c.less_row-missing.result
    c.loop-row.invariant.missing
    (c.less_row-missing.ensures ∙ ap (λ counts. c.loop-row.missing - count_at counts c.in-Some.row) c.counts-counts.ensures) in
    let together = walk_more c.loop-row.yielded c.loop-row.row-iterator c.next.new.self c.args.rows.now.list c.in-Some.row c.loop-row.invariant.together
    c.in-Some.ensures.steps in (
      (λ yes. absurd (true≢false (sym yes))),
      (λ few. absurd (nobody_missing c.args.people.now.people (c.loop-row.yielded ++ c.in-Some.row ∷ []) c.next.new.self c.args.rows.now.list
          (sym less ∙ c.if-missing-eq0.true) together few)),
    )

pub returns : goal.returns
returns c =
    let all = walk_ends c.loop-row.yielded c.loop-row.row-iterator c.args.rows.now.list c.loop-row.invariant.together c.in-None.ensures.steps.0 in
    let same = ap (people_behind c.args.people.now.people.counts) all in
    let missing = c.loop-row.invariant.missing in (
      (λ yes. let some = (Decides-ltb 0 c.loop-row.missing).0 yes in omega (arith, same, missing, some)),
      (λ few. (Decides-ltb 0 c.loop-row.missing).1 (omega (arith, same, missing, few))),
    )
