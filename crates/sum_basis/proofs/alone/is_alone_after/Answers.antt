use Rattle.std.proofs.Common.{List, [], ◌∷◌, ◌++◌, length, get_or, sym, subst, ◌∙◌}
use Rattle.std.proofs.lemmas.Bool.{true≢false, eqb-true, eq-eqb, true_from_ne_false}
use Rattle.audit_types.specs.Form.{InSpan, pivot}
use Rattle.sum_basis.specs.Basis.{unit_row}
use Rattle.sum_basis.specs.Growth.{IsLeftOver, SpansAfter}
use Rattle.sum_basis.specs.Sparse.{row_of}
use Rattle.sum_basis.specs.declared.sparse.FreeEntry.{FreeEntry}
use Rattle.sum_basis.proofs.OwnRows.{not_alone}
use Rattle.sum_basis.proofs.OwnUnits.{spans_pivot}
use Rattle.sum_basis.proofs.alone.is_alone_after.Goals as goal

pub is_alone_with-requires-clause-left : goal.is_alone_with-requires-clause-left
is_alone_with-requires-clause-left c = subst (IsLeftOver c.args.form.now) (sym c.deref.ensures.value) (rw c.in-Some.is at c.requires.left)

pub returns-in-Some : goal.returns-in-Some
returns-in-Some c =
    let form = c.args.form.now in
    let u = unit_row form.n (pivot (get_or form.rows c.args.k [])) in (
      λ yes. subst (λ o. SpansAfter form o u) (sym c.in-Some.is)
          (subst (λ (es : List FreeEntry). InSpan (form.rows ++ row_of form.n es ∷ []) u) c.deref.ensures.value (c.is_alone_with.ensures.0 yes)),
      λ after. c.is_alone_with.ensures.1 (subst (λ (es : List FreeEntry). InSpan (form.rows ++ row_of form.n es ∷ []) u) (sym c.deref.ensures.value)
          (subst (λ o. SpansAfter form o u) c.in-Some.is after)),
    )

pub returns-in-None : goal.returns-in-None
returns-in-None c =
    let form = c.args.form.now in
    let entries = c.free.result.now in
    let u = unit_row form.n (pivot (get_or form.rows c.args.k [])) in (
      λ yes. subst (λ o. SpansAfter form o u) (sym c.in-None.is)
          (spans_pivot form c.requires.form c.args.k entries c.requires.k c.free.ensures (eqb-true (length entries) 0 (sym c.is_empty.ensures ∙ yes))).1,
      λ after. true_from_ne_false c.is_empty.result (λ denied.
          not_alone form c.requires.form c.args.k c.requires.k entries c.free.ensures
          (λ none. true≢false (sym (c.is_empty.ensures ∙ eq-eqb (length entries) 0 none) ∙ denied)) (subst (λ o. SpansAfter form o u) c.in-None.is after)),
    )
