use Rattle.std.proofs.Common.{◌≤◌, take, get_or, subst, sym, arith, take_all}
use Rattle.std.specs.List.{AllByRecursion}
use Rattle.std.proofs.lemmas.List.{take_more}
use Rattle.audit_types.specs.ListLaws.{all-push}
use Rattle.sum_basis.specs.declared.sparse.SparseRow.{SparseRow}
use Rattle.sum_basis.proofs.BoundedRows.{bounded_by_more}
use Rattle.sum_basis.proofs.growth.greatest_bound.Goals as goal

pub loop-row-preserved : goal.loop-row-preserved
loop-row-preserved c =
    let rows = c.args.rows.now in
    let k = c.loop-row.row-index in
    let row = c.row-item.result in
    let first = bounded_by_more c.loop-row.greatest c.max-greatest.result (omega (arith, c.max-greatest.ensures)) (take k rows) c.loop-row.invariant in
    let here : row.most ≤ c.max-greatest.result = omega (arith, c.max-greatest.ensures) in
    subst (AllByRecursion (λ r. r.most ≤ c.max-greatest.result)) (sym (take_more rows k row c.loop-row-test.true))
    (all-push (λ (r : SparseRow). r.most ≤ c.max-greatest.result) (take k rows) (get_or rows k row) first
    (subst (λ (r : SparseRow). r.most ≤ c.max-greatest.result) c.row-item.is here))

pub returns : goal.returns
returns c =
    subst (AllByRecursion (λ r. r.most ≤ c.loop-row.greatest)) (take_all c.loop-row.row-index c.args.rows.now c.loop-row-test.false) c.loop-row.invariant
