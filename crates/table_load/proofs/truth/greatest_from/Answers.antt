use Rattle.std.proofs.Common.{◌≡◌, ◌≤◌, ◌^◌, map, sym, ap, ◌∙◌, arith, to_z, of_z, w64}
use Rattle.std.specs.Prelude.{unsigned_abs}
use Rattle.std.specs.List.{fold}
use Rattle.std.specs.Int.{int_max}
use Rattle.std.proofs.lemmas.Int.{ints}
use Rattle.audit_types.specs.Truth.{number_at}
use Rattle.table_load.proofs.SetSums.{number_small}
use Rattle.audit_types.specs.RowLaws.{walk_row, walk_more}
use Rattle.table_load.proofs.truth.greatest_from.Goals as goal

pub bounds-list-row : goal.bounds-list-row
bounds-list-row c =
    let row = walk_row c.args.rows.now.n c.loop-row.yielded c.loop-row.row-iterator c.next.new.self c.args.rows.now.list c.in-Some.row
    c.n-n.ensures.are_rows c.loop-row.invariant.together c.in-Some.ensures.steps in
    omega arith

pub loop-row-preserved : goal.loop-row-preserved
loop-row-preserved c =
    let row = walk_row c.args.rows.now.n c.loop-row.yielded c.loop-row.row-iterator c.next.new.self c.args.rows.now.list c.in-Some.row
    c.n-n.ensures.are_rows c.loop-row.invariant.together c.in-Some.ensures.steps in
    let small : unsigned_abs (number_at c.args.list.now c.in-Some.row) ≤ 10 ^ 12 =
    number_small c.args.rows.now.n c.args.list.now c.in-Some.row c.requires row in
    let number : to_z w64 (of_z w64 (number_at c.args.list.now c.in-Some.row)) ≡ number_at c.args.list.now c.in-Some.row = omega (arith, ints) in
    let fits : to_z w64 (of_z w64 c.max-greatest.result) ≡ c.max-greatest.result = omega (arith, ints) in
    let most : c.max-greatest.result ≡ int_max (to_z w64 c.loop-row.greatest-bits) (number_at c.args.list.now c.in-Some.row) =
    c.max-greatest.ensures.value ∙ ap (int_max (to_z w64 c.loop-row.greatest-bits)) number in
    record {
      together =
          walk_more c.loop-row.yielded c.loop-row.row-iterator c.next.new.self c.args.rows.now.list c.in-Some.row c.loop-row.invariant.together
          c.in-Some.ensures.steps;
      greatest = ap (λ z. fold int_max z (map (number_at c.args.list.now) c.next.new.self)) (fits ∙ most)
          ∙ sym (ap (λ rows. fold int_max (to_z w64 c.loop-row.greatest-bits) (map (number_at c.args.list.now) rows)) c.in-Some.ensures.steps)
          ∙ c.loop-row.invariant.greatest;
    }
