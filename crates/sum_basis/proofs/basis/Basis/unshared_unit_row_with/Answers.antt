use Rattle.std.proofs.Common.{◌≡◌, ◌++◌, ◌∷◌, [], ℕ, ℤ, List, None, length, sym, ap, ◌∙◌, subst}
use Rattle.audit_types.specs.Form.{set_row, IsReducedForm}
use Rattle.audit_types.specs.Rows.{IsLeast}
use Rattle.audit_types.specs.RowNumbers.{length-set_row}
use Rattle.sum_basis.specs.Basis.{Echelon, IsLeastOwnUnit}
use Rattle.sum_basis.specs.Elimination.{IsSmallForm}
use Rattle.sum_basis.specs.Growth.{IsLeftOver}
use Rattle.sum_basis.specs.RowsWith.{IsPinned, IsLeastOwnUnitWith}
use Rattle.sum_basis.specs.Sparse.{row_of}
use Rattle.sum_basis.specs.declared.sparse.FreeEntry.{FreeEntry}
use Rattle.sum_basis.proofs.PinnedSets.{with_list, with_nothing, with_large}
use Rattle.sum_basis.proofs.SetRows.{set_bits}
use Rattle.sum_basis.proofs.basis.Basis.unshared_unit_row_with.Goals as goal

pub write_set-requires : goal.write_set-requires
write_set-requires c =
    ap length c.as_mut_slice-row.ensures.value ∙ c.in_ok-room.ensures ∙ ap (λ (e : Echelon). e.n) c.self.view_is ∙ sym c.requires.rows

pub settle-requires-clause-length : goal.settle-requires-clause-length
settle-requires-clause-length c =
    ap length c.write_set.ensures ∙ length-set_row c.args.rows.now.n c.args.rows.now.list ∙ c.requires.rows ∙ sym (ap (λ (e : Echelon). e.n) c.self.view_is)

pub settle-requires-clause-bits : goal.settle-requires-clause-bits
settle-requires-clause-bits c = set_bits c.args.rows.now.n c.args.rows.now.list c.write_set.new.row c.write_set.ensures

pub unshared_with-requires-clause-shared : goal.unshared_with-requires-clause-shared
unshared_with-requires-clause-shared c = c.requires.shared ∙ sym (ap (λ (e : Echelon). e.n) c.self.view_is)

pub unshared_with-requires-clause-new : goal.unshared_with-requires-clause-new
unshared_with-requires-clause-new c =
    let left = rw c.in-Entries.is at c.in_ok-settle.ensures.left in
    subst (IsLeftOver c.self.inside.form) (sym c.deref.ensures.value) (left.0, left.1.zeros)

-- the row of the set, over the form's columns
row_is : (form seen : Echelon) (n : ℕ) (list : List ℕ) (row : List ℤ) → form ≡ seen → row ≡ set_row n list → n ≡ seen.n → row ≡ set_row form.n list
row_is form seen n list row view is same = is ∙ ap (λ k. set_row k list) (same ∙ sym (ap (λ (e : Echelon). e.n) view))

pub returns-in-Nothing : goal.returns-in-Nothing
returns-in-Nothing c =
    let form = c.self.inside.form in
    let left = rw c.in-Nothing.is at c.in_ok-settle.ensures.left in
    let is = row_is form c.args.self.now c.args.rows.now.n c.args.rows.now.list c.write_set.new.row c.self.view_is c.write_set.ensures c.requires.rows in
    subst (λ (e : Echelon). IsLeastOwnUnitWith e c.args.shared.now.list c.args.rows.now.list c.unshared_unit_row.result) c.self.view_is
    (with_nothing form c.columns.ensures.fits.1 c.write_set.new.row c.args.rows.now.list c.args.shared.now.list is c.unshared_unit_row.result
    c.settle.ensures.form left
    (subst (λ (e : Echelon). IsLeastOwnUnit e c.args.shared.now.list c.unshared_unit_row.result) (sym c.self.view_is) c.unshared_unit_row.ensures))

pub returns-in-Large : goal.returns-in-Large
returns-in-Large c =
    let form = c.self.inside.form in
    let left = rw c.in-Large.is at c.in_ok-settle.ensures.left in
    let is = row_is form c.args.self.now c.args.rows.now.n c.args.rows.now.list c.write_set.new.row c.self.view_is c.write_set.ensures c.requires.rows in
    subst (λ (e : Echelon). IsLeastOwnUnitWith e c.args.shared.now.list c.args.rows.now.list None) c.self.view_is
    (with_large form c.columns.ensures.fits.1 c.write_set.new.row c.args.rows.now.list c.args.shared.now.list is None left.1)

pub returns : goal.returns
returns c =
    let form = c.self.inside.form in
    let left = rw c.in-Entries.is at c.in_ok-settle.ensures.left in
    let is = row_is form c.args.self.now c.args.rows.now.n c.args.rows.now.list c.write_set.new.row c.self.view_is c.write_set.ensures c.requires.rows in
    subst (λ (e : Echelon). IsLeastOwnUnitWith e c.args.shared.now.list c.args.rows.now.list c.unshared_with.result) c.self.view_is
    (with_list form c.columns.ensures.fits.1 c.write_set.new.row c.args.rows.now.list c.args.shared.now.list is c.in-Entries.list c.unshared_with.result left
    (subst (λ (l : List FreeEntry). (grown : List (List ℤ)) → IsReducedForm form.n (form.rows ++ row_of form.n l ∷ []) grown →
    IsSmallForm form.n grown → IsLeast (IsPinned form.n grown c.args.shared.now.list) c.unshared_with.result) c.deref.ensures.value c.unshared_with.ensures))
