use Rattle.std.proofs.Common.{◌≡◌, arith, sym, ap, ◌∙◌, to_z, of_z}
use Rattle.std.specs.Int.{w64}
use Rattle.std.proofs.lemmas.Bool.{true≢false}
use Rattle.std.proofs.lemmas.Int.{to_z-of_z}
use Rattle.audit_types.specs.RowLaws.{walk_row, walk_more}
use Rattle.max_bounds.specs.Kept.{is_at_least}
use Rattle.max_bounds.specs.Reaching.{bound_at}
use Rattle.audit_types.specs.WalkLaws.{has-last}
use Rattle.max_bounds.proofs.Walks.{seen_before}
use Rattle.max_bounds.proofs.high_rows.has_at_least.Goals as goal

pub bounds-upper-row : goal.bounds-upper-row
bounds-upper-row c =
    let below = walk_row c.args.rows.now.n c.loop-row.yielded c.loop-row.row-iterator c.next.new.self c.args.rows.now.list c.in-Some.row
    c.n.ensures.are_rows c.loop-row.invariant.together c.in-Some.ensures.steps in
    omega arith

pub loop-row-preserved : goal.loop-row-preserved
loop-row-preserved c = record {
  together =
      walk_more c.loop-row.yielded c.loop-row.row-iterator c.next.new.self c.args.rows.now.list c.in-Some.row c.loop-row.invariant.together
      c.in-Some.ensures.steps;
}

pub returns-then-is_at_least : goal.returns-then-is_at_least
returns-then-is_at_least c = λ yes.
    let same : to_z w64 (of_z w64 c.args.cut) ≡ c.args.cut = to_z-of_z w64 c.args.cut c.ranges.cut in (
      c.in-Some.row,
      seen_before c.loop-row.yielded c.loop-row.row-iterator c.next.new.self c.args.rows.now.list c.in-Some.row c.in-Some.row c.loop-row.invariant.together
          c.in-Some.ensures.steps
          (has-last c.loop-row.yielded c.in-Some.row),
      ap (λ x. is_at_least x (bound_at c.args.upper.now c.in-Some.row)) (sym same) ∙ sym c.is_at_least.ensures ∙ c.if-is_at_least.true,
    )

pub returns : goal.returns
returns c = λ yes. absurd (true≢false (sym yes))
