use Rattle.std.proofs.Common.{◌∙◌, arith}
use Rattle.audit_types.specs.RowLaws.{walk_row, walk_more}
use Rattle.sum_basis.proofs.ShortRows.{one_more_one, all_ones}
use Rattle.sum_basis.proofs.short_rows.write_ones.Goals as goal

pub slice_set_of-row : goal.slice_set_of-row
slice_set_of-row c =
    let below = walk_row c.args.set.now.n c.loop-j.yielded c.loop-j.j-iterator c.next.new.self c.args.set.now.list c.in-Some.j c.n.ensures.are_rows
    c.loop-j.invariant.together c.in-Some.ensures.steps in
    let long = c.loop-j.auto.row ∙ c.requires.length in
    omega arith

pub loop-j-init : goal.loop-j-init
loop-j-init c = record { together = c.into_iter-j-iterator.ensures.into_iter_gives ∙ c.iter-j-items.ensures; done = c.requires.zeros }

pub loop-j-preserved : goal.loop-j-preserved
loop-j-preserved c =
    let below = walk_row c.args.set.now.n c.loop-j.yielded c.loop-j.j-iterator c.next.new.self c.args.set.now.list c.in-Some.j c.n.ensures.are_rows
    c.loop-j.invariant.together c.in-Some.ensures.steps in
    let long = c.loop-j.auto.row ∙ c.requires.length in
    record {
      together =
          walk_more c.loop-j.yielded c.loop-j.j-iterator c.next.new.self c.args.set.now.list c.in-Some.j c.loop-j.invariant.together c.in-Some.ensures.steps;
      done = one_more_one c.loop-j.row c.loop-j.yielded c.in-Some.j (omega arith) c.loop-j.invariant.done;
    }

pub returns : goal.returns
returns c =
    all_ones c.args.set.now.n c.loop-j.yielded c.loop-j.j-iterator c.args.set.now.list c.loop-j.row (c.loop-j.auto.row ∙ c.requires.length)
    c.loop-j.invariant.together c.in-None.ensures.steps.0 c.loop-j.invariant.done
