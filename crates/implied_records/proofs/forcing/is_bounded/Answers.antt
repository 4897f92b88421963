use Rattle.std.proofs.Common.{◌≡◌, ◌<◌, sym, ◌∙◌, subst, to_z, of_z}
use Rattle.std.specs.Int.{w64}
use Rattle.std.proofs.lemmas.Bool.{true≢false}
use Rattle.std.proofs.lemmas.Int.{to_z-of_z}
use Rattle.audit_types.specs.RowLaws.{walk_row, walk_more}
use Rattle.implied_records.specs.Kept.{IsAtMost}
use Rattle.audit_types.specs.WalkLaws.{next_of_walk}
use Rattle.implied_records.proofs.RowByRow.{bounded_more}
use Rattle.implied_records.proofs.forcing.is_bounded.Goals as goal

pub upper-requires : goal.upper-requires
upper-requires c =
    let below = walk_row c.args.rows.now.n c.loop-row.yielded c.loop-row.row-iterator c.next.new.self c.args.rows.now.list c.in-Some.row
    c.n.ensures.are_rows c.loop-row.invariant.together c.in-Some.ensures.steps in
    let same = c.requires in
    subst (λ n. c.in-Some.row < n) same below

pub returns-then-not-is_within : goal.returns-then-not-is_within
returns-then-not-is_within c =
    let same : to_z w64 (of_z w64 c.args.answer) ≡ c.args.answer = to_z-of_z w64 c.args.answer c.ranges.answer in
    let there = next_of_walk c.loop-row.yielded c.loop-row.row-iterator c.next.new.self c.args.rows.now.list c.in-Some.row c.loop-row.invariant.together
    c.in-Some.ensures.steps in (
      λ no. absurd (true≢false (sym no)),
      λ all.
          let here = subst (λ o. IsAtMost o c.args.answer) (sym c.upper.ensures) (all c.in-Some.row there) in
          absurd (true≢false (sym (c.is_within.ensures.1 (subst (IsAtMost c.upper.result) (sym same) here)) ∙ c.if-not-is_within.true)),
    )

pub loop-row-preserved : goal.loop-row-preserved
loop-row-preserved c = record {
  together =
      walk_more c.loop-row.yielded c.loop-row.row-iterator c.next.new.self c.args.rows.now.list c.in-Some.row c.loop-row.invariant.together
      c.in-Some.ensures.steps;
  bounded =
      bounded_more c.args.bounds.now.answers c.loop-row.yielded (to_z w64 (of_z w64 c.args.answer)) c.in-Some.row c.loop-row.invariant.bounded
      (subst (λ o. IsAtMost o (to_z w64 (of_z w64 c.args.answer))) c.upper.ensures (c.is_within.ensures.0 c.if-not-is_within.false));
}
