use Rattle.std.proofs.Common.{◌≤◌, ◌∷◌, length, ap, ◌∙◌, arith, rules, subst, sym}
use Rattle.std.specs.Prelude.{FitsSigned, unsigned_abs, ◌^◌}
use Rattle.std.specs.Int.{w128}
use Rattle.std.specs.List.{AllByRecursion}
use Rattle.std.proofs.lemmas.Int.{to_z-of_z}
use Rattle.sum_basis.specs.declared.sparse.FreeEntry.{FreeEntry}
use Rattle.sum_basis.proofs.SparseRows.{small_values, listed_length}
use Rattle.sum_basis.proofs.ClearedLists.{result_of_bits}
use Rattle.sum_basis.proofs.cleared_list.clear_into.Goals as goal

pub combine_at_pivot-head-requires-clause-room : goal.combine_at_pivot-head-requires-clause-room
combine_at_pivot-head-requires-clause-room c = let same = c.clear.ensures.capacity in let room = c.requires.combined_room in omega arith

pub combine_at_pivot-head-requires-clause-times : goal.combine_at_pivot-head-requires-clause-times
combine_at_pivot-head-requires-clause-times c = to_z-of_z w128 c.args.times c.ranges.times ∙ c.requires.times

pub combine_at_pivot-head-requires-clause-some : goal.combine_at_pivot-head-requires-clause-some
combine_at_pivot-head-requires-clause-some c = rw (to_z-of_z w128 c.args.times c.ranges.times) c.requires.some

pub write_over_content-requires-clause-head : goal.write_over_content-requires-clause-head
write_over_content-requires-clause-head c =
    let head : FitsSigned w128 c.combine_at_pivot-head.result = search rules in
    rw (to_z-of_z w128 c.combine_at_pivot-head.result head) c.combine_at_pivot-head.ensures.leading

pub write_over_content-requires-clause-empty : goal.write_over_content-requires-clause-empty
write_over_content-requires-clause-empty c = c.clear-2.ensures.items

pub write_over_content-requires-clause-room : goal.write_over_content-requires-clause-room
write_over_content-requires-clause-room c =
    let all = listed_length 0 c.args.columns c.combine_at_pivot-head.new.out.items (omega arith) c.combine_at_pivot-head.ensures.listed in
    let list = ap length c.deref.ensures.value in
    let same = c.clear-2.ensures.capacity in
    let once = c.clear_at_once.ensures.capacity in
    let room = c.requires.room in
    omega arith

pub write_over_content-requires-clause-entries : goal.write_over_content-requires-clause-entries
write_over_content-requires-clause-entries c =
    subst (AllByRecursion (λ (e : FreeEntry). unsigned_abs e.value ≤ 2 ^ 126)) (sym c.deref.ensures.value) c.combine_at_pivot-head.ensures.sizes

pub write_over_content-requires-clause-small : goal.write_over_content-requires-clause-small
write_over_content-requires-clause-small c = λ over made is.
    let head : FitsSigned w128 c.combine_at_pivot-head.result = search rules in
    let combined = c.combine_at_pivot-head.ensures in
    let r = result_of_bits c.args.columns c.args.row.now c.args.new.now c.combine_at_pivot-head.new.out.items c.deref.result.now made c.args.times
    c.combine_at_pivot-head.result over c.ranges.times head c.requires.kept c.requires.primitive c.requires.new c.requires.before
    c.requires.times combined.listed combined.combined combined.head c.deref.ensures.value is in
    (small_values c.args.columns (record { place = c.args.row.now.pivot; value = over } ∷ made) r.listed (c.requires.narrow _ r.cleared)).1

pub returns-clause-listed : goal.returns-clause-listed
returns-clause-listed c =
    let head : FitsSigned w128 c.combine_at_pivot-head.result = search rules in
    let over : FitsSigned w128 c.write_over_content.result = search rules in
    let combined = c.combine_at_pivot-head.ensures in
    rw (to_z-of_z w128 c.write_over_content.result over)
    (result_of_bits c.args.columns c.args.row.now c.args.new.now c.combine_at_pivot-head.new.out.items c.deref.result.now c.write_over_content.new.out.items
    c.args.times c.combine_at_pivot-head.result c.write_over_content.result c.ranges.times head c.requires.kept c.requires.primitive c.requires.new
    c.requires.before c.requires.times combined.listed combined.combined combined.head c.deref.ensures.value c.write_over_content.ensures.over).listed

pub returns-clause-leading : goal.returns-clause-leading
returns-clause-leading c =
    let head : FitsSigned w128 c.combine_at_pivot-head.result = search rules in
    let over : FitsSigned w128 c.write_over_content.result = search rules in
    let combined = c.combine_at_pivot-head.ensures in
    rw (to_z-of_z w128 c.write_over_content.result over)
    (result_of_bits c.args.columns c.args.row.now c.args.new.now c.combine_at_pivot-head.new.out.items c.deref.result.now c.write_over_content.new.out.items
    c.args.times c.combine_at_pivot-head.result c.write_over_content.result c.ranges.times head c.requires.kept c.requires.primitive c.requires.new
    c.requires.before c.requires.times combined.listed combined.combined combined.head c.deref.ensures.value c.write_over_content.ensures.over).leading

pub returns-clause-cleared : goal.returns-clause-cleared
returns-clause-cleared c =
    let head : FitsSigned w128 c.combine_at_pivot-head.result = search rules in
    let over : FitsSigned w128 c.write_over_content.result = search rules in
    let combined = c.combine_at_pivot-head.ensures in
    rw (to_z-of_z w128 c.write_over_content.result over)
    (result_of_bits c.args.columns c.args.row.now c.args.new.now c.combine_at_pivot-head.new.out.items c.deref.result.now c.write_over_content.new.out.items
    c.args.times c.combine_at_pivot-head.result c.write_over_content.result c.ranges.times head c.requires.kept c.requires.primitive c.requires.new
    c.requires.before c.requires.times combined.listed combined.combined combined.head c.deref.ensures.value c.write_over_content.ensures.over).cleared

pub returns-clause-combined_room : goal.returns-clause-combined_room
returns-clause-combined_room c =
    let kept = c.combine_at_pivot-head.ensures.capacity in let same = c.clear.ensures.capacity in let room = c.requires.combined_room in omega arith
