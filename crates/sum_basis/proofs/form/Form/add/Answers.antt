use Rattle.std.proofs.Common.{ℤ, List, pos, map, subst, length, sym, ap, ◌∙◌}
use Rattle.std.proofs.lemmas.List.{length-map}
use Rattle.sum_basis.specs.Growth.{Grows, GrowsForRows}
use Rattle.sum_basis.proofs.SetRows.{bits_small}
use Rattle.sum_basis.proofs.Exactness.{stands_for_rows, same_told, wide_told}
use Rattle.std.specs.Prelude.{Result, IfOk}
use Rattle.std.proofs.lemmas.Result.{IfOk-weaker}
use Rattle.audit_types.specs.Form.{IsReducedForm}
use Rattle.sum_basis.specs.Basis.{Echelon}
use Rattle.sum_basis.specs.declared.Grown.{Grown}
use Rattle.sum_basis.proofs.form.Form.add.Goals as goal

pub join-requires-clause-bits : goal.join-requires-clause-bits
join-requires-clause-bits c = bits_small c.args.row.now c.write_bits.new.row c.write_bits.ensures c.requires.bits

pub write_bits-requires : goal.write_bits-requires
write_bits-requires c = ap length c.as_mut_slice-whole.ensures.value ∙ c.in_ok-room.ensures ∙ sym c.requires.length

pub join-requires-clause-length : goal.join-requires-clause-length
join-requires-clause-length c = ap length c.write_bits.ensures ∙ length-map c.args.row.now pos ∙ c.requires.length

stands_told : {E : Type 0} (r : Result Grown E) (old new : Echelon) (row : List ℤ) → IfOk r (λ grown. Grows old row grown new) →
    IfOk r (λ grown. (rows : List (List ℤ)) → IsReducedForm old.n rows old.rows → GrowsForRows rows row old grown new)
stands_told r old new row =
    IfOk-weaker r (λ grown. Grows old row grown new)
    (λ grown. (rows : List (List ℤ)) → IsReducedForm old.n rows old.rows → GrowsForRows rows row old grown new)
    (λ grown g. stands_for_rows old new row grown g)

pub returns : goal.returns
returns c =
    let grows = subst (λ (v : List ℤ). IfOk c.join.result (λ grown. Grows c.args.self.now v grown c.join.new.self)) c.write_bits.ensures c.join.ensures.grows in
    record {
      grows = grows;
      stands = stands_told c.join.result c.args.self.now c.join.new.self (map pos c.args.row.now) grows;
      n = c.join.ensures.n;
      width = c.join.ensures.width;
      same = same_told c.join.result c.args.self.now c.join.new.self (map pos c.args.row.now) grows;
      wide = wide_told c.join.result c.args.self.now c.join.new.self (map pos c.args.row.now) grows c.columns.ensures.form c.columns.ensures.narrow;
      err = c.join.ensures.err;
    }
