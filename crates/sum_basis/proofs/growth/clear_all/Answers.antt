use Rattle.std.proofs.Common.{◌≡◌, ◌<◌, ℕ, pos, List, get_or, length, refl, ◌∙◌, arith}
use Rattle.audit_types.specs.Truth.{number_at}
use Rattle.audit_types.specs.Form.{IsPrimitive, pivot}
use Rattle.sum_basis.specs.declared.sparse.FreeEntry.{FreeEntry}
use Rattle.sum_basis.specs.declared.sparse.SparseRow.{SparseRow}
use Rattle.sum_basis.specs.Elimination.{IsSmall, StaysSmall}
use Rattle.sum_basis.specs.Sparse.{row_of, IsKept}
use Rattle.sum_basis.proofs.KeptRows.{of_row, of_whole_row, nothing_at}
use Rattle.sum_basis.proofs.AllCleared.{IsPartlyCleared, none_cleared, one_more_done, in_the_end}
use Rattle.sum_basis.proofs.growth.clear_all.Goals as goal

-- row k is still the old one
still : (n : ℕ) (new : List FreeEntry) (old rows : List SparseRow) (k : ℕ) (r : SparseRow) → IsPartlyCleared n new old rows k → r ≡ get_or rows k r →
    r ≡ get_or old k r
still n new old rows k r part is = is ∙ part.left k r (omega arith)

inside : (n : ℕ) (new : List FreeEntry) (old rows : List SparseRow) (k : ℕ) → IsPartlyCleared n new old rows k → k < length rows → k < length old
inside n new old rows k part h = let same = part.same_length in omega arith

pub loop-k-init : goal.loop-k-init
loop-k-init c = record {
  cleared = none_cleared c.args.columns c.args.new.now c.args.rows.now.items;
  capacity = refl;
  room = c.requires.room;
  combined_room = c.requires.combined_room;
}

pub clear-requires-clause-primitive : goal.clear-requires-clause-primitive
clear-requires-clause-primitive c =
    of_whole_row (IsPrimitive c.args.columns) c.args.columns c.args.rows.now.items c.loop-k.k c.index_mut.result.now
    (inside _ _ _ _ _ c.loop-k.invariant.cleared (omega arith))
    (still _ _ _ _ _ _ c.loop-k.invariant.cleared c.index_mut.ensures.value) c.requires.form.primitive

pub clear-requires-clause-small : goal.clear-requires-clause-small
clear-requires-clause-small c =
    of_whole_row IsSmall c.args.columns c.args.rows.now.items c.loop-k.k c.index_mut.result.now (inside _ _ _ _ _ c.loop-k.invariant.cleared (omega arith))
    (still _ _ _ _ _ _ c.loop-k.invariant.cleared c.index_mut.ensures.value) c.requires.form.entries

pub clear-requires-clause-narrow : goal.clear-requires-clause-narrow
clear-requires-clause-narrow c =
    of_whole_row (StaysSmall c.args.columns (row_of c.args.columns c.args.new.now)) c.args.columns c.args.rows.now.items c.loop-k.k c.index_mut.result.now
    (inside _ _ _ _ _ c.loop-k.invariant.cleared (omega arith)) (still _ _ _ _ _ _ c.loop-k.invariant.cleared c.index_mut.ensures.value) c.requires.narrow

pub clear-requires-clause-zero : goal.clear-requires-clause-zero
clear-requires-clause-zero c =
    let is = still _ _ _ _ _ _ c.loop-k.invariant.cleared c.index_mut.ensures.value in
    let h = inside _ _ _ _ _ c.loop-k.invariant.cleared (omega arith) in
    nothing_at c.args.columns c.index_mut.result.now c.args.new.now
    (of_row (IsKept c.args.columns) c.args.rows.now.items c.loop-k.k c.index_mut.result.now h is c.requires.kept) c.requires.new
    (of_whole_row (λ other. number_at (row_of c.args.columns c.args.new.now)
    (pivot other) ≡ pos 0) c.args.columns c.args.rows.now.items c.loop-k.k c.index_mut.result.now h is c.requires.zero)

pub loop-k-preserved : goal.loop-k-preserved
loop-k-preserved c = record {
  cleared =
      one_more_done c.args.columns c.args.new.now c.args.rows.now.items c.loop-k.rows.items c.loop-k.k c.index_mut.result.now c.clear.new.row
      (omega arith) c.index_mut.ensures.value c.loop-k.invariant.cleared (record { kept = c.clear.ensures.kept; cleared = c.clear.ensures.cleared });
  capacity = c.loop-k.invariant.capacity;
  room = c.clear.ensures.room;
  combined_room = c.clear.ensures.combined_room;
}

pub returns-clause-kept : goal.returns-clause-kept
returns-clause-kept c =
    (in_the_end c.args.columns c.args.new.now c.args.rows.now.items c.loop-k.rows.items c.loop-k.k
    (let same = c.loop-k.invariant.cleared.same_length in let len = c.loop-k.rows.ok.0 in omega arith) c.loop-k.invariant.cleared).0

pub returns-clause-cleared : goal.returns-clause-cleared
returns-clause-cleared c =
    (in_the_end c.args.columns c.args.new.now c.args.rows.now.items c.loop-k.rows.items c.loop-k.k
    (let same = c.loop-k.invariant.cleared.same_length in let len = c.loop-k.rows.ok.0 in omega arith) c.loop-k.invariant.cleared).1

pub index_mut-requires : goal.index_mut-requires
index_mut-requires c = let same = c.loop-k.invariant.cleared.same_length in let len = c.loop-k.rows.ok.0 in omega arith

pub clear-requires-clause-kept : goal.clear-requires-clause-kept
clear-requires-clause-kept c =
    of_row (IsKept c.args.columns) c.args.rows.now.items c.loop-k.k c.index_mut.result.now (inside _ _ _ _ _ c.loop-k.invariant.cleared (omega arith))
    (still _ _ _ _ _ _ c.loop-k.invariant.cleared c.index_mut.ensures.value) c.requires.kept

pub returns-clause-len : goal.returns-clause-len
returns-clause-len c =
    let same = c.loop-k.invariant.cleared.same_length in
    let len = c.loop-k.rows.ok.0 in
    let before = c.args.rows.now.ok.0 in
    omega arith
