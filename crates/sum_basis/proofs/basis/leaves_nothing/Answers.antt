use Rattle.std.proofs.Common.{◌≡◌, ℕ, ℤ, pos, List, length, sym, ap, ◌∙◌, subst, arith}
use Rattle.std.proofs.lemmas.List.{length-take-le}
use Rattle.audit_types.specs.Form.{set_row}
use Rattle.audit_types.specs.PrimitiveLines.{times}
use Rattle.audit_types.specs.RowNumbers.{length-set_row, all_by_number}
use Rattle.sum_basis.specs.Elimination.{IsRemainder}
use Rattle.sum_basis.proofs.FormsAreUnique.{leads_from}
use Rattle.sum_basis.proofs.SetRows.{set_bits}
use Rattle.sum_basis.proofs.UnitRows.{no_pivot}
use Rattle.sum_basis.proofs.Remainders.{in_span, nothing_left, pivot_of_zeros}
use Rattle.sum_basis.proofs.basis.leaves_nothing.Goals as goal

pub slice_bounds-room-end : goal.slice_bounds-room-end
slice_bounds-room-end c = omega (arith, c.columns.ensures.columns, c.requires.at_most)

pub slice_bounds-row-end : goal.slice_bounds-row-end
slice_bounds-row-end c = sym (length-take-le c.columns.result _ (omega (arith, c.columns.ensures.columns, c.requires.at_most)))

pub write_set-requires : goal.write_set-requires
write_set-requires c =
    length-take-le c.columns.result _ (omega (arith, c.columns.ensures.columns, c.requires.at_most)) ∙ c.columns.ensures.columns
    ∙ sym c.requires.rows

pub remainder-requires-clause-length : goal.remainder-requires-clause-length
remainder-requires-clause-length c = ap length c.write_set.ensures ∙ length-set_row c.args.rows.now.n c.args.rows.now.list ∙ c.requires.rows

pub remainder-requires-clause-bits : goal.remainder-requires-clause-bits
remainder-requires-clause-bits c = set_bits c.args.rows.now.n c.args.rows.now.list c.write_set.new.row c.write_set.ensures

-- the row of the set, in the form's columns
row_is : (m n : ℕ) (list : List ℕ) (row : List ℤ) → row ≡ set_row m list → m ≡ n → row ≡ set_row n list
row_is m n list row e same = e ∙ ap (λ k. set_row k list) same

pub returns : goal.returns
returns c =
    let form = c.args.form.now in
    let v = set_row form.n c.args.rows.now.list in
    let is = row_is c.args.rows.now.n form.n c.args.rows.now.list c.write_set.new.row c.write_set.ensures c.requires.rows in
    let all = c.remainder.ensures.remainder in
    let rest = subst (λ (row : List ℤ). IsRemainder form.rows (times (pos all.0) row) c.remainder.new.row) is all.2 in (
      λ yes. in_span form.rows v c.remainder.new.row all.0 all.1 rest (no_pivot c.remainder.new.row (c.has_no_pivot.ensures.0 yes)),
      λ p.
          let small = c.remainder.ensures.form in
          let none = nothing_left form.rows v c.remainder.new.row all.0 all.1 rest small.echelon (leads_from form.n form.rows small.primitive) p in
          let at_end = pivot_of_zeros c.remainder.new.row (all_by_number (λ x. x ≡ pos 0) c.remainder.new.row none) in
          c.has_no_pivot.ensures.1 at_end,
    )
