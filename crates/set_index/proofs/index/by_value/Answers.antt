use Rattle.std.proofs.Common.{ℕ, true, List, length, drop, IsPermutation, IsSorted, nat_cmp, arith, sym, subst, ◌∙◌}
use Rattle.std.proofs.lemmas.List.{take_at}
use Rattle.std.proofs.lemmas.Result.{IfOk-weaker}
use Rattle.audit_types.specs.Rows.{rows_that}
use Rattle.table_load.specs.Kept.{cells_kept}
use Rattle.set_index.specs.Marks.{SortedView}
use Rattle.set_index.specs.Ordered.{compare_rows}
use Rattle.set_index.proofs.index.by_value.Goals as goal

pub sort_by_value-requires : goal.sort_by_value-requires
sort_by_value-requires c =
    record { by_row = subst (λ (l : List ℕ). IsSorted nat_cmp l) (sym c.as_mut_slice.ensures.value) c.in_ok-order.ensures.ascending }

pub new-requires-clause-each_once : goal.new-requires-clause-each_once
new-requires-clause-each_once c =
    let order = c.in_ok-order.order in
    let new = c.sort_by_value.new.rows in
    let kept = take_at new (drop (length new) order.items) order.len (omega (arith, c.sort_by_value.auto.rows, c.as_mut_slice.ensures.len)) in
    let lent = c.as_mut_slice.ensures.value ∙ c.in_ok-order.ensures.all in
    subst (λ (l : List ℕ). IsPermutation (rows_that (λ r. true) c.args.rows) l) (sym kept)
    (subst (λ (l : List ℕ). IsPermutation l new) lent c.sort_by_value.ensures.permutation)

pub returns-clause-ascending : goal.returns-clause-ascending
returns-clause-ascending c =
    let order = c.in_ok-order.order in
    let new = c.sort_by_value.new.rows in
    let kept = take_at new (drop (length new) order.items) order.len (omega (arith, c.sort_by_value.auto.rows, c.as_mut_slice.ensures.len)) in
    IfOk-weaker c.new.result _ _
    (λ (s : SortedView) order_is. subst (λ (l : List ℕ). IsSorted (compare_rows (cells_kept c.args.column.now)) l)
    (sym (order_is ∙ kept)) c.in_ok-sort_by_value.ensures.ascending)
    c.new.ensures.order
