use Rattle.std.proofs.Common.{◌∙◌, ℤ, ap, subst, arith, rules, SFits}
use Rattle.std.specs.Int.{w128}
use Rattle.std.proofs.lemmas.Int.{to_z-of_z}
use Rattle.audit_types.specs.RowLaws.{walk_row, walk_more}
use Rattle.denial_proof.specs.Outlook.{reach_of, ReachesAfter}
use Rattle.denial_proof.proofs.OutlookWalks.{top_after, reached_after, many_after}
use Rattle.denial_proof.proofs.outlook.reach_in.Goals as goal

pub upper-requires : goal.upper-requires
upper-requires c =
    let below = walk_row c.args.rows.now.n c.loop-row.yielded c.loop-row.row-iterator c.next.new.self c.args.rows.now.list c.in-Some.row
    c.n.ensures.are_rows c.loop-row.invariant.together c.in-Some.ensures.steps in
    let same = c.requires.same_n in
    omega (arith, below, same)

pub loop-row-preserved : goal.loop-row-preserved
loop-row-preserved c =
    let answers = c.args.bounds.now.answers in
    let people = c.args.people.now.people in
    let rows = c.args.rows.now.list in
    let high = c.reach_of-height.result in
    let fits : SFits w128 high = search rules in
    let same = to_z-of_z w128 high fits in
    let after = rw same at c.and-reach.ensures in
    let height = c.reach_of-height.ensures ∙ ap reach_of c.upper.ensures in record {
      together = walk_more c.loop-row.yielded c.loop-row.row-iterator c.next.new.self rows c.in-Some.row c.loop-row.invariant.together
          c.in-Some.ensures.steps;
      top = top_after answers c.loop-row.yielded c.in-Some.row c.loop-row.reach c.and-reach.result c.are_many-many.result c.loop-row.invariant.top
          (subst (λ (h : ℤ). ReachesAfter c.loop-row.reach h c.are_many-many.result c.and-reach.result) height after);
      reached = reached_after answers c.loop-row.yielded c.in-Some.row c.loop-row.reach c.and-reach.result c.are_many-many.result
          c.loop-row.invariant.reached (subst (λ (h : ℤ). ReachesAfter c.loop-row.reach h c.are_many-many.result c.and-reach.result) height after);
      many = many_after answers people rows high c.loop-row.reach c.and-reach.result c.are_many-many.result c.loop-row.invariant.many
          (rw same at c.are_many-many.ensures) after;
    }
