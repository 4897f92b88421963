use Rattle.std.proofs.Common.{◌≤◌, [], ◌∷◌, length, length-append, map, ap, arith}
use Rattle.std.specs.Prelude.{unsigned_abs}
use Rattle.std.proofs.lemmas.Int.{ints}
use Rattle.audit_types.specs.Limits.{most_rows}
use Rattle.audit_types.specs.Headcount.{people_behind}
use Rattle.audit_types.specs.RowLaws.{walk_row, walk_more, length-rows}
use Rattle.audit_types.specs.Truth.{number_at}
use Rattle.set_index.proofs.PeopleCounts.{count_is, count_read, count_there}
use Rattle.set_index.proofs.people.people_by.Goals as goal

pub bounds-counts-row : goal.bounds-counts-row
bounds-counts-row c =
    let row = walk_row c.args.rows.now.n c.loop-row.yielded c.loop-row.row-iterator c.next.new.self c.args.rows.now.list c.in-Some.row
    c.n-n.ensures.are_rows c.loop-row.invariant.together c.in-Some.ensures.steps in
    omega (arith, c.requires.numbers.one_each, row)

pub overflow_add-people : goal.overflow_add-people
overflow_add-people c =
    let row = walk_row c.args.rows.now.n c.loop-row.yielded c.loop-row.row-iterator c.next.new.self c.args.rows.now.list c.in-Some.row
    c.n-n.ensures.are_rows c.loop-row.invariant.together c.in-Some.ensures.steps in
    let count = count_there c.args.rows.now.n c.args.counts.now c.in-Some.row c.requires.numbers c.requires.above row in
    let read = count_read (number_at c.args.counts.now c.in-Some.row) count in
    let few : length c.loop-row.yielded ≤ most_rows =
    omega (
      arith,
      length-rows c.args.rows.now.n c.args.rows.now.list c.n-n.ensures.are_rows,
      ap length c.loop-row.invariant.together,
      length-append c.loop-row.yielded c.loop-row.row-iterator,
    ) in
    omega (arith, read, few, count.at_most, c.loop-row.invariant.small)

pub loop-row-preserved : goal.loop-row-preserved
loop-row-preserved c =
    let row = walk_row c.args.rows.now.n c.loop-row.yielded c.loop-row.row-iterator c.next.new.self c.args.rows.now.list c.in-Some.row
    c.n-n.ensures.are_rows c.loop-row.invariant.together c.in-Some.ensures.steps in
    let count = count_there c.args.rows.now.n c.args.counts.now c.in-Some.row c.requires.numbers c.requires.above row in
    let read = count_read (number_at c.args.counts.now c.in-Some.row) count in
    let counts = map unsigned_abs c.args.counts.now in
    let is = count_is c.args.counts.now c.in-Some.row (omega (arith, c.requires.numbers.one_each, row)) in
    let first = ap (people_behind counts) c.in-Some.ensures.steps in
    let longer = length-append c.loop-row.yielded (c.in-Some.row ∷ []) in
    let above : 1 ≤ unsigned_abs (number_at c.args.counts.now c.in-Some.row) = omega (arith, ints, count.above) in
    record {
      together =
          walk_more c.loop-row.yielded c.loop-row.row-iterator c.next.new.self c.args.rows.now.list c.in-Some.row c.loop-row.invariant.together
          c.in-Some.ensures.steps;
      total = omega (arith, read, is, first, c.loop-row.invariant.total);
      some = omega (arith, read, above, longer, c.loop-row.invariant.some);
      small = omega (arith, read, longer, count.at_most, c.loop-row.invariant.small);
    }

pub returns-clause-at_most : goal.returns-clause-at_most
returns-clause-at_most c =
    let few : length c.loop-row.yielded ≤ most_rows =
    omega (
      arith,
      length-rows c.args.rows.now.n c.args.rows.now.list c.n-n.ensures.are_rows,
      ap length c.loop-row.invariant.together,
      length-append c.loop-row.yielded c.loop-row.row-iterator,
    ) in
    omega (arith, few, c.loop-row.invariant.small)
