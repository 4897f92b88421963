use Rattle.std.proofs.Common.{◌≤◌, ◌∷◌, ℤ, ap, ◌∙◌, subst, arith, rules}
use Rattle.std.specs.Prelude.{FitsSigned, unsigned_abs}
use Rattle.std.specs.Int.{w128}
use mir.Val.{to_z, of_z}
use Rattle.std.proofs.lemmas.Int.{to_z-of_z}
use Rattle.sum_basis.proofs.EditedRows.{kept_row}
use Rattle.sum_basis.proofs.SparseRows.{listed_length}
use Rattle.sum_basis.proofs.growth.clear_anew.Goals as goal

pub returns-clause-kept : goal.returns-clause-kept
returns-clause-kept c =
    let head : FitsSigned w128 c.clear_into-row.result = search rules in
    let same = to_z-of_z w128 c.clear_into-row.result head in
    let made = c.take_list.ensures.items in
    kept_row c.args.columns _ c.clear_into-row.result c.clear_into-row.new.out.items c.deref.result.now c.clear_into-row.ensures.listed
    c.clear_into-row.ensures.leading
    (subst (λ (z : ℤ). unsigned_abs z ≤ c.bound_of-row.result) (ap (λ z. to_z w128 (of_z w128 z)) same ∙ same) c.bound_of-row.ensures.head)
    (c.deref.ensures.value ∙ made) c.bound_of-row.ensures.values same made
    c.take_list.ensures.room

pub take_list-requires-clause-length : goal.take_list-requires-clause-length
take_list-requires-clause-length c =
    let all = listed_length 0 c.args.columns (record { place = c.args.row.now.pivot; value = c.clear_into-row.result } ∷ c.clear_into-row.new.out.items)
    (omega arith)
    c.clear_into-row.ensures.listed in
    omega arith

pub take_list-requires-clause-made_room : goal.take_list-requires-clause-made_room
take_list-requires-clause-made_room c =
    let kept = c.clear_into-row.ensures.capacity in let cleared = c.clear.ensures.capacity in let room = c.requires.room in omega arith

pub take_list-requires-clause-room : goal.take_list-requires-clause-room
take_list-requires-clause-room c = c.requires.kept.room

pub clear_into-row-requires-clause-room : goal.clear_into-row-requires-clause-room
clear_into-row-requires-clause-room c = let same = c.clear.ensures.capacity in let room = c.requires.room in omega arith

pub clear_into-row-requires-clause-times : goal.clear_into-row-requires-clause-times
clear_into-row-requires-clause-times c = to_z-of_z w128 c.args.times c.ranges.times ∙ c.requires.times

pub clear_into-row-requires-clause-some : goal.clear_into-row-requires-clause-some
clear_into-row-requires-clause-some c = rw (to_z-of_z w128 c.args.times c.ranges.times) c.requires.some

pub returns-clause-cleared : goal.returns-clause-cleared
returns-clause-cleared c =
    let head : FitsSigned w128 c.clear_into-row.result = search rules in
    rw (to_z-of_z w128 c.clear_into-row.result head, c.take_list.ensures.items) c.clear_into-row.ensures.cleared

pub returns-clause-room : goal.returns-clause-room
returns-clause-room c = c.take_list.ensures.made_room

pub clear_into-row-requires-clause-before : goal.clear_into-row-requires-clause-before
clear_into-row-requires-clause-before c = c.requires.before

pub clear_into-row-requires-clause-empty : goal.clear_into-row-requires-clause-empty
clear_into-row-requires-clause-empty c = c.clear.ensures.items
