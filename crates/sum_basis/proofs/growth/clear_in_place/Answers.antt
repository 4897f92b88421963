use Rattle.std.proofs.Common.{◌≡◌, ◌+◌, ℕ, ℤ, List, refl, ap, ◌∙◌, arith}
use Rattle.std.specs.Prelude.{FitsSigned, ◌-ℤ◌, ◌*ℤ◌}
use Rattle.std.specs.Int.{w128}
use mir.Val.{to_z, of_z}
use Rattle.std.proofs.lemmas.Int.{to_z-of_z}
use Rattle.sum_basis.specs.declared.sparse.FreeEntry.{FreeEntry}
use Rattle.sum_basis.specs.Sparse.{entry_at, entries_of}
use Rattle.sum_basis.proofs.SparseRows.{listed_from, small_values}
use Rattle.sum_basis.proofs.ClearedLists.{entry_small}
use Rattle.sum_basis.proofs.EditedRows.{edited_listed, edited_cleared, edited_small, kept_row}
use Rattle.sum_basis.proofs.growth.clear_in_place.Goals as goal

pub take_entries-row-requires-clause-listed : goal.take_entries-row-requires-clause-listed
take_entries-row-requires-clause-listed c =
    listed_from (c.args.row.now.pivot + 1) 0 c.args.columns c.args.row.now.free.items (omega arith) c.requires.kept.listed.3

pub take_entries-row-requires-clause-small : goal.take_entries-row-requires-clause-small
take_entries-row-requires-clause-small c = (small_values c.args.columns (entries_of c.args.row.now) c.requires.kept.listed c.requires.small).1

pub take_entries-row-requires-clause-times : goal.take_entries-row-requires-clause-times
take_entries-row-requires-clause-times c =
    rw (to_z-of_z w128 c.args.times c.ranges.times) (rw c.requires.times (entry_small c.args.columns c.args.row.now _ c.requires.kept c.requires.small))

pub take_entries-row-requires-clause-taken_small : goal.take_entries-row-requires-clause-taken_small
take_entries-row-requires-clause-taken_small c = small_values c.args.columns c.args.new.now c.requires.new.listed c.requires.new.small

pub take_entries-row-requires-clause-narrow : goal.take_entries-row-requires-clause-narrow
take_entries-row-requires-clause-narrow c = λ j.
    rw (to_z-of_z w128 c.args.times c.ranges.times)
    (edited_small c.args.columns c.args.row.now c.args.new.now c.requires.kept c.requires.primitive c.requires.new c.requires.before c.args.times
    c.requires.times c.requires.ones.0 c.requires.ones.1 c.requires.narrow j)

-- what was taken, of the number as it is
taken_is : (old out new : List FreeEntry) (times : ℤ) → FitsSigned w128 times →
    ((j : ℕ) → entry_at out j ≡ entry_at old j -ℤ to_z w128 (of_z w128 times) *ℤ entry_at new j) → (j : ℕ) →
    entry_at out j ≡ entry_at old j -ℤ times *ℤ entry_at new j
taken_is old out new times fits is j = is j ∙ ap (λ z. entry_at old j -ℤ z *ℤ entry_at new j) (to_z-of_z w128 times fits)

pub returns-clause-kept : goal.returns-clause-kept
returns-clause-kept c =
    let r = c.args.row.now in
    let out = c.take_entries-row.new.entries in
    let listed = edited_listed c.args.columns r c.args.new.now c.requires.kept c.requires.primitive c.requires.new c.requires.before c.args.times
    c.requires.times c.requires.ones.0 c.requires.ones.1 out.items c.take_entries-row.ensures.listed
    (taken_is r.free.items out.items c.args.new.now c.args.times c.ranges.times c.take_entries-row.ensures.taken) in
    let head = c.requires.kept.bounded.0 in
    let most = c.take_entries-row.ensures.most in
    kept_row c.args.columns _ r.head out.items out.items listed c.requires.kept.leading
    (omega arith) refl c.take_entries-row.ensures.bounded refl refl c.take_entries-row.ensures.room

pub returns-clause-cleared : goal.returns-clause-cleared
returns-clause-cleared c =
    let r = c.args.row.now in
    let out = c.take_entries-row.new.entries in
    edited_cleared c.args.columns r c.args.new.now c.requires.kept c.requires.primitive c.requires.new c.requires.before c.args.times c.requires.times
    c.requires.ones.0 c.requires.ones.1 out.items c.take_entries-row.ensures.listed
    (taken_is r.free.items out.items c.args.new.now c.args.times c.ranges.times c.take_entries-row.ensures.taken)
