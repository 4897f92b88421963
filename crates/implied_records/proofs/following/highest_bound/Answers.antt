use Rattle.std.proofs.Common.{rules, ◌<◌, ◌++◌, [], ◌∷◌, SFits, ap, subst, sym, ◌∙◌}
use Rattle.std.specs.Int.{w64}
use Rattle.std.proofs.lemmas.Int.{to_z-of_z}
use Rattle.audit_types.specs.RowLaws.{walk_row, walk_more}
use Rattle.implied_records.specs.Follows.{IsHighestBound, higher_of}
use Rattle.audit_types.specs.WalkLaws.{next_of_walk}
use Rattle.implied_records.proofs.HighestBounds.{highest_more, none_highest}
use Rattle.implied_records.proofs.following.highest_bound.Goals as goal

pub upper-requires : goal.upper-requires
upper-requires c =
    let below = walk_row c.args.rows.now.n c.loop-row.yielded c.loop-row.row-iterator c.next.new.self c.args.rows.now.list c.in-Some.row
    c.n.ensures.are_rows c.loop-row.invariant.together c.in-Some.ensures.steps in
    let same = c.requires in
    subst (λ n. c.in-Some.row < n) same below

pub returns-in_default : goal.returns-in_default
returns-in_default c = λ value highest.
    let there = next_of_walk c.loop-row.yielded c.loop-row.row-iterator c.next.new.self c.args.rows.now.list c.in-Some.row c.loop-row.invariant.together
    c.in-Some.ensures.steps in
    none_highest c.args.bounds.now.answers c.args.rows.now.list c.in-Some.row value there (sym c.upper.ensures ∙ c.in_default.is) highest

pub loop-row-preserved : goal.loop-row-preserved
loop-row-preserved c = record {
  together =
      walk_more c.loop-row.yielded c.loop-row.row-iterator c.next.new.self c.args.rows.now.list c.in-Some.row c.loop-row.invariant.together
      c.in-Some.ensures.steps;
  so_far =
      let more = highest_more c.args.bounds.now.answers c.loop-row.yielded c.loop-row.highest c.in-Some.row c.in-Some-upper.bound c.loop-row.invariant.so_far
      (sym c.upper.ensures ∙ c.in-Some-upper.is) in
      let fits : SFits w64 c.higher.result = search rules in
      let also : SFits w64 c.in-Some-upper.bound = search rules in
      let same = to_z-of_z w64 c.higher.result fits ∙ c.higher.ensures ∙ ap (higher_of c.loop-row.highest) (to_z-of_z w64 c.in-Some-upper.bound also) in
      subst (IsHighestBound c.args.bounds.now.answers (c.loop-row.yielded ++ c.in-Some.row ∷ [])) (sym same) more;
}
