use Rattle.std.proofs.Common.{◌≤◌, ◌^◌, ℤ, List, pos, subst, length, sym, ap, ◌∙◌}
use Rattle.std.specs.List.{AllByRecursion}
use Rattle.std.specs.Prelude.{IfOk}
use Rattle.std.proofs.lemmas.List.{length-map}
use Rattle.std.proofs.lemmas.Result.{IfOk-weaker}
use Rattle.sum_basis.specs.Basis.{Echelon}
use Rattle.sum_basis.specs.Elimination.{IsSmallForm, IsZeroAtPivots, StaysSmall}
use Rattle.sum_basis.specs.Growth.{Foresees}
use Rattle.sum_basis.specs.RowsWith.{IsRowGrown, IsRowWith}
use Rattle.sum_basis.specs.Sparse.{row_of, rows_of, IsKept, IsNew}
use Rattle.sum_basis.specs.declared.Prospect.{Prospect}
use Rattle.sum_basis.specs.declared.row_with.RowWith.TheVariants.{Wide}
use Rattle.sum_basis.specs.declared.sparse.SparseRow.{SparseRow}
use Rattle.sum_basis.proofs.RowsWith.{row_of_form, wide_row}
use Rattle.sum_basis.proofs.Joining.{not_wide}
use Rattle.sum_basis.proofs.StayingSmall.{small_if_grown}
use Rattle.sum_basis.proofs.SetRows.{bits_small}
use Rattle.sum_basis.proofs.Sizes.{small_form}
use Rattle.sum_basis.proofs.form.Form.row_with.Goals as goal

pub weigh-requires-clause-bits : goal.weigh-requires-clause-bits
weigh-requires-clause-bits c = bits_small c.args.row.now c.write_bits.new.row c.write_bits.ensures c.requires.bits

pub write_bits-requires : goal.write_bits-requires
write_bits-requires c = ap length c.as_mut_slice-whole.ensures.value ∙ c.in_ok-room.ensures ∙ sym c.requires.length

pub weigh-requires-clause-length : goal.weigh-requires-clause-length
weigh-requires-clause-length c = ap length c.write_bits.ensures ∙ length-map c.args.row.now pos ∙ c.requires.length

pub row_with_list-requires-clause-kept : goal.row_with_list-requires-clause-kept
row_with_list-requires-clause-kept c = subst (AllByRecursion (IsKept c.self.inside.columns)) (sym c.deref.ensures.value) c.self.invariant.kept

pub row_with_list-requires-clause-form : goal.row_with_list-requires-clause-form
row_with_list-requires-clause-form c =
    subst (λ (l : List SparseRow). IsSmallForm c.self.inside.columns (rows_of c.self.inside.columns l)) (sym c.deref.ensures.value)
    (small_form c.self.inside.width c.self.inside.columns _ c.self.invariant.width_fits.1 c.self.invariant.form)

pub row_with_list-requires-clause-new : goal.row_with_list-requires-clause-new
row_with_list-requires-clause-new c =
    let left = rw c.in-Some.is at c.in_ok-prospect.ensures.left in
    subst (λ n. IsNew n c.in-Some.new.items) (sym (ap (λ (e : Echelon). e.n) c.self.view_is)) left.0

pub row_with_list-requires-clause-zero : goal.row_with_list-requires-clause-zero
row_with_list-requires-clause-zero c =
    let left = rw c.in-Some.is at c.in_ok-prospect.ensures.left in
    subst (λ (l : List SparseRow). IsZeroAtPivots (rows_of c.self.inside.columns l) (row_of c.self.inside.columns c.in-Some.new.items))
    (sym c.deref.ensures.value)
    (subst (λ (e : Echelon). IsZeroAtPivots e.rows (row_of e.n c.in-Some.new.items)) (sym c.self.view_is) left.1.zeros)

pub row_with_list-requires-clause-narrow : goal.row_with_list-requires-clause-narrow
row_with_list-requires-clause-narrow c =
    let old = c.args.self.now in
    let left = rw c.in-Some.is at c.in_ok-prospect.ensures.left in
    let grown = not_wide old c.write_bits.new.row c.in_ok-prospect.field-0.prospect c.in_ok-prospect.ensures.foresees c.in_default.not-Wide in
    subst (λ (l : List SparseRow). AllByRecursion (StaysSmall c.self.inside.columns (row_of c.self.inside.columns c.in-Some.new.items))
    (rows_of c.self.inside.columns l)) (sym c.deref.ensures.value)
    (subst (λ (e : Echelon). AllByRecursion (StaysSmall e.n (row_of e.n c.in-Some.new.items)) e.rows) (sym c.self.view_is)
    (small_if_grown old grown.0 c.write_bits.new.row (row_of old.n c.in-Some.new.items) c.in_ok-prospect.ensures.form
    (subst (λ (e : Echelon). e.width ≤ 2 ^ 56) c.self.view_is c.self.invariant.width_fits.1) left.1 grown.1))

pub returns-in-Wide : goal.returns-in-Wide
returns-in-Wide c =
    subst (λ (v : List ℤ). IsRowWith c.args.self.now v c.args.pivot Wide) c.write_bits.ensures
    (wide_row c.args.self.now c.write_bits.new.row c.args.pivot
    (subst (λ (p : Prospect). Foresees c.args.self.now c.write_bits.new.row p) c.in-Wide.is c.in_ok-prospect.ensures.foresees))

pub returns : goal.returns
returns c =
    let old = c.args.self.now in
    let list = c.in-Some.new.items in
    let left = rw c.in-Some.is at c.in_ok-prospect.ensures.left in
    subst (λ (v : List ℤ). IfOk c.row_with_list.result (IsRowWith old v c.args.pivot)) c.write_bits.ensures
    (IfOk-weaker c.row_with_list.result (IsRowGrown old.n old.rows (row_of old.n list) c.args.pivot) (IsRowWith old c.write_bits.new.row c.args.pivot)
    (λ told is. row_of_form old c.write_bits.new.row list c.in_ok-prospect.field-0.prospect c.args.pivot told c.in_ok-prospect.ensures.foresees
    c.in_default.not-Wide left.1 is)
    (subst (λ (e : Echelon). IfOk c.row_with_list.result (IsRowGrown e.n e.rows (row_of e.n list) c.args.pivot)) c.self.view_is
    (subst (λ (l : List SparseRow). IfOk c.row_with_list.result
    (IsRowGrown c.self.inside.columns (rows_of c.self.inside.columns l) (row_of c.self.inside.columns list) c.args.pivot)) c.deref.ensures.value
    c.row_with_list.ensures)))
