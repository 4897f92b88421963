use Rattle.std.proofs.Common.{◌≡◌, ◌≤◌, ◌+◌, ◌*◌, ◌^◌, [], ◌∷◌, ◌++◌, arith, ap, sym, ◌∙◌, length, length-append, get_or, pos, ◌+ℤ◌, to_z, of_z, w64}
use Rattle.std.proofs.lemmas.Int.{ints}
use Rattle.audit_types.specs.Limits.{most_rows}
use Rattle.audit_types.specs.Truth.{sum_over, number_at}
use Rattle.audit_types.specs.RowLaws.{walk_row, walk_more, length-rows}
use Rattle.oracles.proofs.Sums.{within, size_within, number_small}
use Rattle.oracles.proofs.truths.sum_over.Goals as goal

pub bounds-numbers-row : goal.bounds-numbers-row
bounds-numbers-row c =
    let row = walk_row c.args.rows.now.n c.loop-row.yielded c.loop-row.row-iterator c.next.new.self c.args.rows.now.list c.in-Some.row
    c.n.ensures.are_rows c.loop-row.invariant.together c.in-Some.ensures.steps in
    omega arith

pub overflow_add-sum : goal.overflow_add-sum
overflow_add-sum c =
    let most = length-rows c.args.rows.now.n c.args.rows.now.list c.n.ensures.are_rows in
    let few : length c.loop-row.yielded + length c.loop-row.row-iterator ≡ length c.args.rows.now.list =
    sym (length-append c.loop-row.yielded c.loop-row.row-iterator) ∙ ap length c.loop-row.invariant.together in
    let at_most : length c.loop-row.yielded ≤ most_rows = omega arith in
    let sum = within (to_z w64 c.loop-row.sum-bits) (10 ^ 12 * length c.loop-row.yielded) c.loop-row.invariant.small in
    let number = within (number_at c.args.numbers.now c.in-Some.row) (10 ^ 12) (number_small c.args.numbers.now c.in-Some.row c.requires.in_range) in
    omega (arith, ints)

pub loop-row-preserved : goal.loop-row-preserved
loop-row-preserved c =
    let most = length-rows c.args.rows.now.n c.args.rows.now.list c.n.ensures.are_rows in
    let few : length c.loop-row.yielded + length c.loop-row.row-iterator ≡ length c.args.rows.now.list =
    sym (length-append c.loop-row.yielded c.loop-row.row-iterator) ∙ ap length c.loop-row.invariant.together in
    let at_most : length c.loop-row.yielded ≤ most_rows = omega arith in
    let one_more = length-append c.loop-row.yielded (c.in-Some.row ∷ []) in
    let sum = within (to_z w64 c.loop-row.sum-bits) (10 ^ 12 * length c.loop-row.yielded) c.loop-row.invariant.small in
    let number = within (number_at c.args.numbers.now c.in-Some.row) (10 ^ 12) (number_small c.args.numbers.now c.in-Some.row c.requires.in_range) in
    record {
      together =
          walk_more c.loop-row.yielded c.loop-row.row-iterator c.next.new.self c.args.rows.now.list c.in-Some.row c.loop-row.invariant.together
          c.in-Some.ensures.steps;
      sum = omega (arith, ints, c.loop-row.invariant.sum, ap (sum_over c.args.numbers.now) c.in-Some.ensures.steps);
      small = size_within (to_z w64 (of_z w64 (to_z w64 c.loop-row.sum-bits +ℤ to_z w64 (of_z w64 (get_or c.args.numbers.now c.in-Some.row (pos 0))))))
          (10 ^ 12 * length (c.loop-row.yielded ++ c.in-Some.row ∷ [])) (omega (arith, ints)) (omega (arith, ints));
    }
