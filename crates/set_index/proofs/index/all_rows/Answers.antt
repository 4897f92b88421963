use Rattle.std.proofs.Common.{true, sym, subst, ap, ◌∙◌, ◌++◌, ◌∷◌, []}
use Rattle.audit_types.specs.Rows.{rows_that}
use Rattle.audit_types.specs.RowLaws.{AreRows-rows_that, rows_that_more}
use Rattle.std.specs.List.Sorted.{IsSorted}
use Rattle.std.specs.Ordering.{nat_cmp}
use Rattle.set_index.proofs.Searching.{ascending_sorted}
use Rattle.set_index.proofs.index.all_rows.Goals as goal

pub loop-row-init : goal.loop-row-init
unfolding rows_that
loop-row-init c = c.new-list.ensures.items

pub loop-row-preserved : goal.loop-row-preserved
loop-row-preserved c = c.in_ok-push.ensures.items ∙ ap (λ xs. xs ++ c.loop-row.row ∷ []) c.loop-row.invariant ∙ sym (rows_that_more (λ r. true) c.loop-row.row)

pub returns-clause-ascending : goal.returns-clause-ascending
returns-clause-ascending c =
    subst (IsSorted nat_cmp) (sym c.loop-row.invariant)
    (ascending_sorted 0 c.loop-row.row (rows_that (λ r. true) c.loop-row.row) (AreRows-rows_that (λ r. true) c.loop-row.row))
