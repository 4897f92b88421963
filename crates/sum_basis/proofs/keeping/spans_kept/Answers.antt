use Rattle.std.proofs.Common.{sym, ◌∙◌, subst}
use Rattle.audit_types.specs.Form.{set_row}
use Rattle.sum_basis.specs.Growth.{SpansAfter}
use Rattle.sum_basis.proofs.KeptSets.{same_where_spanned}
use Rattle.sum_basis.proofs.SetRows.{set_bits}
use Rattle.sum_basis.proofs.keeping.spans_kept.Goals as goal

pub spans_after-requires-clause-bits : goal.spans_after-requires-clause-bits
spans_after-requires-clause-bits c = set_bits c.args.kept.now.rows.n c.args.kept.now.rows.list c.write_set.new.row c.write_set.ensures

pub returns-in-Some-left : goal.returns-in-Some-left
returns-in-Some-left c =
    let form = c.args.form.now in
    let u = set_row form.n c.args.kept.now.rows.list in
    let left = rw c.in-Some.is at c.requires.kept.1 in
    let over = rw c.in-Some-left.is at c.requires.left in
    let spanned = same_where_spanned form c.columns.ensures.form u c.in-Some.list c.in-Some-left.other left over in (
      λ yes. subst (λ o. SpansAfter form o u) (sym c.in-Some-left.is)
          (spanned.0 (sym c.deref.ensures.value ∙ c.same_list.ensures.0 yes ∙ c.deref-in-Some-left.ensures.value)),
      λ span. c.same_list.ensures.1
          (c.deref.ensures.value ∙ spanned.1 (subst (λ o. SpansAfter form o u) c.in-Some-left.is span) ∙ sym c.deref-in-Some-left.ensures.value),
    )
