use Rattle.std.proofs.Common.{◌≡◌, pos, List, sym, ap, ◌∙◌, subst}
use Rattle.audit_types.specs.Truth.{number_at}
use Rattle.audit_types.specs.Form.{IsPrimitive, pivot}
use Rattle.sum_basis.specs.Elimination.{IsCleared, IsSmall, StaysSmall}
use Rattle.sum_basis.specs.RowsWith.{IsRowAt}
use Rattle.sum_basis.specs.Sparse.{entry_at, row_of, rows_of, entries_of, IsKept}
use Rattle.sum_basis.specs.declared.sparse.FreeEntry.{FreeEntry}
use Rattle.sum_basis.specs.declared.sparse.SparseRow.{SparseRow}
use Rattle.sum_basis.proofs.KeptRows.{of_row, of_whole_row, nothing_at, cleared_at, row_within}
use Rattle.sum_basis.proofs.RowsWith.{new_among, made_among}
use Rattle.sum_basis.proofs.SparseMultiples.{kept_pivot}
use Rattle.sum_basis.proofs.SpansWithOneMore.{first_place}
use Rattle.sum_basis.proofs.row_with.row_with_list.Goals as goal

pub returns-then-index-pivot : goal.returns-then-index-pivot
returns-then-index-pivot c = λ grown reduced.
    let n = c.args.columns in
    let list = c.args.new.items in
    let form = c.requires.form in
    let first = first_place n list c.index.result.now c.requires.new.some c.requires.new.listed ∙ ap (λ (e : FreeEntry). e.place) (sym c.index.ensures) in
    subst (IsRowAt grown c.args.pivot) (sym c.whole_row.ensures) (record {
      among = new_among n (row_of n list) c.requires.new.primitive (rows_of n c.args.rows.now) grown form.primitive form.echelon c.requires.zero reduced;
      at_place = first ∙ c.if-index-pivot.true;
    })

pub cleared_entries-requires-clause-primitive : goal.cleared_entries-requires-clause-primitive
cleared_entries-requires-clause-primitive c =
    let told = rw c.in-Some.is at c.place_at.ensures in
    of_whole_row (IsPrimitive c.args.columns) c.args.columns c.args.rows.now c.in-Some.k c.index-rows-k.result told.0 c.index-rows-k.is
    c.requires.form.primitive

pub cleared_entries-requires-clause-small : goal.cleared_entries-requires-clause-small
cleared_entries-requires-clause-small c =
    let told = rw c.in-Some.is at c.place_at.ensures in
    of_whole_row IsSmall c.args.columns c.args.rows.now c.in-Some.k c.index-rows-k.result told.0 c.index-rows-k.is c.requires.form.entries

pub cleared_entries-requires-clause-zero : goal.cleared_entries-requires-clause-zero
cleared_entries-requires-clause-zero c =
    let n = c.args.columns in
    let rows = c.args.rows.now in
    let told = rw c.in-Some.is at c.place_at.ensures in
    let kept = of_row (IsKept n) rows c.in-Some.k c.index-rows-k.result told.0 c.index-rows-k.is c.requires.kept in
    subst (λ (l : List FreeEntry). entry_at l c.index-rows-k.result.pivot ≡ pos 0) (sym c.deref.ensures.value)
    (nothing_at n c.index-rows-k.result c.args.new.items kept c.requires.new
    (of_whole_row (λ other. number_at (row_of n c.args.new.items)
    (pivot other) ≡ pos 0) n rows c.in-Some.k c.index-rows-k.result told.0 c.index-rows-k.is c.requires.zero))

pub cleared_entries-requires-clause-narrow : goal.cleared_entries-requires-clause-narrow
cleared_entries-requires-clause-narrow c =
    let n = c.args.columns in
    let told = rw c.in-Some.is at c.place_at.ensures in
    subst (λ (l : List FreeEntry). StaysSmall n (row_of n l) (row_of n (entries_of c.index-rows-k.result))) (sym c.deref.ensures.value)
    (of_whole_row (StaysSmall n (row_of n c.args.new.items)) n c.args.rows.now c.in-Some.k c.index-rows-k.result told.0 c.index-rows-k.is c.requires.narrow)

pub returns : goal.returns
returns c = λ grown reduced.
    let n = c.args.columns in
    let rows = c.args.rows.now in
    let new = row_of n c.args.new.items in
    let form = c.requires.form in
    let k = c.in-Some.k in
    let r = c.index-rows-k.result in
    let told = rw c.in-Some.is at c.place_at.ensures in
    let kept = of_row (IsKept n) rows k r told.0 c.index-rows-k.is c.requires.kept in
    let made = row_of n c.in_ok-entries.entries.items in
    let cleared : IsCleared n new (row_of n (entries_of r)) made = subst (λ (l : List FreeEntry). IsCleared n (row_of n l) (row_of n (entries_of r)) made)
    c.deref.ensures.value c.in_ok-entries.ensures.cleared in
    let is = cleared_at n new rows k r made told.0 c.index-rows-k.is cleared in
    subst (IsRowAt grown c.args.pivot) (sym c.whole_row-2.ensures) (record {
      among = made_among n new c.requires.new.primitive (rows_of n rows) grown form.primitive form.echelon c.requires.zero reduced k made
          (row_within n rows k told.0) is;
      at_place = cleared.same_pivot ∙ kept_pivot n r kept ∙ ap (λ (x : SparseRow). x.pivot) c.index-rows-k.is ∙ told.1 r;
    })
