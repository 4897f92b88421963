use Rattle.std.proofs.Common.{ℕ, ℤ, List, [], ◌∷◌, ◌++◌, sym, ap, ◌∙◌, length, subst}
use Rattle.std.specs.Prelude.{OnOk}
use Rattle.audit_types.specs.RowNumbers.{length-set_row}
use Rattle.audit_types.specs.Form.{set_row, IsReducedForm}
use Rattle.sum_basis.specs.Growth.{GrowsWide}
use Rattle.sum_basis.proofs.SetRows.{set_bits}
use Rattle.sum_basis.proofs.basis.insert_anew.Goals as goal

pub write_set-requires : goal.write_set-requires
write_set-requires c =
    ap length c.as_mut_slice-row.ensures.value ∙ c.in_ok-room.ensures ∙ sym c.requires.n

pub insert-requires-clause-length : goal.insert-requires-clause-length
insert-requires-clause-length c = ap length c.write_set.ensures ∙ length-set_row c.args.rows.now.n c.args.rows.now.list ∙ c.requires.n

pub insert-requires-clause-bits : goal.insert-requires-clause-bits
insert-requires-clause-bits c = set_bits c.args.rows.now.n c.args.rows.now.list c.write_set.new.row c.write_set.ensures

pub insert-requires-clause-narrow : goal.insert-requires-clause-narrow
insert-requires-clause-narrow c =
    subst (λ (r : List ℤ). ¬ (GrowsWide c.args.form.now r))
    (sym (c.write_set.ensures ∙ ap (λ (k : ℕ). set_row k c.args.rows.now.list) c.requires.n)) c.requires.narrow

pub returns-clause-reduced : goal.returns-clause-reduced
returns-clause-reduced c =
    subst (λ (r : List ℤ). OnOk c.insert.result (IsReducedForm c.args.form.now.n (c.args.form.now.rows ++ r ∷ []) c.insert.new.self.rows))
    (c.write_set.ensures ∙ ap (λ (k : ℕ). set_row k c.args.rows.now.list) c.requires.n) c.insert.ensures.reduced
