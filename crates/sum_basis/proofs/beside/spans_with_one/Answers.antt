use Rattle.std.proofs.Common.{◌≡◌, ℤ, List, ap, ◌∙◌, subst, ◌^◌}
use Rattle.std.proofs.lemmas.Bool.{false≢true}
use Rattle.audit_types.specs.Rows.{complement}
use Rattle.audit_types.specs.Form.{set_row, InSpan}
use Rattle.sum_basis.specs.Asking.{AreNotAsking}
use Rattle.sum_basis.specs.Growth.{IsLeft, IsNewRow, LeavesLarge}
use Rattle.sum_basis.specs.Sparse.{row_of}
use Rattle.sum_basis.proofs.SetRows.{set_bits}
use Rattle.sum_basis.proofs.ExchangedRows.{beside_nothing, beside_entries, beside_large, some_other}
use Rattle.sum_basis.proofs.beside.spans_with_one.Goals as goal

pub settle-requires-clause-bits : goal.settle-requires-clause-bits
settle-requires-clause-bits c = set_bits c.args.set.now.n c.args.set.now.list c.write_set.new.row c.write_set.ensures

pub returns-in-Nothing : goal.returns-in-Nothing
returns-in-Nothing c =
    let form = c.args.form.now in
    let set = c.args.set.now.list in
    let is : c.write_set.new.row ≡ set_row form.n set = c.write_set.ensures ∙ ap (λ k. set_row k set) c.requires.set in
    let but = c.not_asking-but.result.list in
    let asks = subst (λ k. AreNotAsking k c.args.several.now.list set but) c.requires.several c.not_asking-but.ensures.rows in
    let within = subst (λ (l : _). IsLeft form c.write_set.new.row l) c.in-Nothing.is c.in_ok-settle.ensures.left in
    let told = beside_nothing form c.columns.ensures.form c.args.several.now.list set but asks (subst (InSpan form.rows) is within) in
    let others = some_other form.n but c.flip.new.self.list
    (c.flip.ensures.others ∙ ap (λ k. complement k but) (c.not_asking-but.ensures.n ∙ c.requires.several)) c.is_empty-in-Nothing.result
    c.is_empty-in-Nothing.ensures in (
      λ yes. told.1 (others.0 yes),
      λ beside. others.1 (told.0 beside),
    )

pub returns-in-Large : goal.returns-in-Large
returns-in-Large c =
    let form = c.args.form.now in
    let set = c.args.set.now.list in
    let is : c.write_set.new.row ≡ set_row form.n set = c.write_set.ensures ∙ ap (λ k. set_row k set) c.requires.set in (
      λ no. absurd (false≢true no),
      λ beside. absurd (beside_large form c.columns.ensures.form c.columns.ensures.narrow.entries c.columns.ensures.fits.0 c.args.several.now.list set (2 ^ 56)
          c.columns.ensures.fits.1
          (subst (λ (v : List ℤ). LeavesLarge form v (2 ^ 56)) is (c.in_ok-settle.ensures.large c.in-Large.is)) beside),
    )

pub returns : goal.returns
returns c =
    let form = c.args.form.now in
    let set = c.args.set.now.list in
    let is : c.write_set.new.row ≡ set_row form.n set = c.write_set.ensures ∙ ap (λ k. set_row k set) c.requires.set in
    let but = c.not_asking-but.result.list in
    let asks = subst (λ k. AreNotAsking k c.args.several.now.list set but) c.requires.several c.not_asking-but.ensures.rows in
    let left = subst (λ (l : _). IsLeft form c.write_set.new.row l) c.in-Entries.is c.in_ok-settle.ensures.left in
    let told = beside_entries form c.columns.ensures.form c.args.several.now.list set but asks c.in-Entries.list
    (subst (λ (v : List ℤ). IsNewRow form v (row_of form.n c.in-Entries.list.items)) is left.1) in (
      λ yes. told.1 (c.spans_new_after.ensures.0 yes),
      λ beside. c.spans_new_after.ensures.1 (told.0 beside),
    )
