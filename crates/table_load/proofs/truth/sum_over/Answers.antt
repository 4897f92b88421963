use Rattle.std.proofs.Common.{◌≤◌, ◌^◌, arith, ap, length, length-append, ◌∷◌, []}
use Rattle.std.specs.Prelude.{unsigned_abs}
use Rattle.std.proofs.lemmas.Int.{ints}
use Rattle.audit_types.specs.Limits.{most_rows}
use Rattle.audit_types.specs.Truth.{number_at, sum_over}
use Rattle.audit_types.specs.RowLaws.{walk_row, walk_more, length-rows}
use Rattle.table_load.proofs.SetSums.{number_small}
use Rattle.table_load.proofs.truth.sum_over.Goals as goal

pub bounds-list-row : goal.bounds-list-row
bounds-list-row c =
    let row = walk_row c.args.rows.now.n c.loop-row.yielded c.loop-row.row-iterator c.next.new.self c.args.rows.now.list c.in-Some.row
    c.n-n.ensures.are_rows c.loop-row.invariant.together c.in-Some.ensures.steps in
    omega arith

pub overflow_add-sum : goal.overflow_add-sum
overflow_add-sum c =
    let row = walk_row c.args.rows.now.n c.loop-row.yielded c.loop-row.row-iterator c.next.new.self c.args.rows.now.list c.in-Some.row
    c.n-n.ensures.are_rows c.loop-row.invariant.together c.in-Some.ensures.steps in
    let number : unsigned_abs (number_at c.args.list.now c.in-Some.row) ≤ 10 ^ 12 =
    number_small c.args.rows.now.n c.args.list.now c.in-Some.row c.requires row in
    let few : length c.loop-row.yielded ≤ most_rows =
    omega (
      arith,
      length-rows c.args.rows.now.n c.args.rows.now.list c.n-n.ensures.are_rows,
      ap length c.loop-row.invariant.together,
      length-append c.loop-row.yielded c.loop-row.row-iterator,
    ) in
    omega (arith, ints)

pub loop-row-preserved : goal.loop-row-preserved
loop-row-preserved c =
    let row = walk_row c.args.rows.now.n c.loop-row.yielded c.loop-row.row-iterator c.next.new.self c.args.rows.now.list c.in-Some.row
    c.n-n.ensures.are_rows c.loop-row.invariant.together c.in-Some.ensures.steps in
    let number : unsigned_abs (number_at c.args.list.now c.in-Some.row) ≤ 10 ^ 12 =
    number_small c.args.rows.now.n c.args.list.now c.in-Some.row c.requires row in
    let few : length c.loop-row.yielded ≤ most_rows =
    omega (
      arith,
      length-rows c.args.rows.now.n c.args.rows.now.list c.n-n.ensures.are_rows,
      ap length c.loop-row.invariant.together,
      length-append c.loop-row.yielded c.loop-row.row-iterator,
    ) in
    let first = ap (sum_over c.args.list.now) c.in-Some.ensures.steps in
    record {
      together =
          walk_more c.loop-row.yielded c.loop-row.row-iterator c.next.new.self c.args.rows.now.list c.in-Some.row c.loop-row.invariant.together
          c.in-Some.ensures.steps;
      total = omega (arith, ints, first, c.loop-row.invariant.total);
      small = omega (arith, ints, length-append c.loop-row.yielded (c.in-Some.row ∷ []));
    }
