use Rattle.std.proofs.Common.{[], length, get_or, sym, ◌∙◌}
use Rattle.std.proofs.lemmas.Bool.{true≢false, eqb-true, eq-eqb, true_from_ne_false}
use Rattle.audit_types.specs.Form.{pivot}
use Rattle.sum_basis.specs.Basis.{unit_row}
use Rattle.sum_basis.specs.Sparse.{row_of}
use Rattle.sum_basis.proofs.OwnRows.{not_alone}
use Rattle.sum_basis.proofs.OwnUnits.{spans_pivot}
use Rattle.sum_basis.proofs.AloneRows.{span_with}
use Rattle.sum_basis.proofs.alone.is_alone_with.Goals as goal

pub returns-then-is_empty : goal.returns-then-is_empty
returns-then-is_empty c = (
  λ yes. span_with c.args.form.now.rows (row_of c.args.form.now.n c.args.list.now)
      (unit_row c.args.form.now.n (pivot (get_or c.args.form.now.rows c.args.k [])))
      (spans_pivot c.args.form.now c.requires.form c.args.k c.free.result.now c.requires.k c.free.ensures
      (eqb-true (length c.free.result.now) 0 (sym c.is_empty.ensures ∙ c.if-is_empty.true))).1,
  λ after. c.if-is_empty.true,
)

pub returns-else-is_empty : goal.returns-else-is_empty
returns-else-is_empty c = (
  λ yes. (c.is_cleared_alone.ensures.some yes).0,
  λ after. true_from_ne_false c.is_cleared_alone.result (λ denied.
      not_alone c.args.form.now c.requires.form c.args.k c.requires.k c.free.result.now c.free.ensures
      (λ none. true≢false (sym (c.is_empty.ensures ∙ eq-eqb (length c.free.result.now) 0 none) ∙ c.if-is_empty.false))
      (c.is_cleared_alone.ensures.none (λ yes. true≢false (sym yes ∙ denied)) after)),
)
