use Rattle.std.proofs.Common.{List, length, sym, subst, inr}
use Rattle.std.specs.Prelude.{IfSome}
use Rattle.audit_types.specs.Form.{set_row}
use Rattle.sum_basis.specs.Growth.{IsLeftOver}
use Rattle.sum_basis.specs.Keys.{AreForeseen}
use Rattle.sum_basis.specs.Reach.{IsLeftOverOrNone}
use Rattle.sum_basis.specs.declared.sparse.FreeEntry.{FreeEntry}
use Rattle.sum_basis.proofs.Moving.{counts_joined}
use Rattle.sum_basis.proofs.Joining.{same_form, not_wide_with, grown_with}
use Rattle.sum_basis.proofs.ForeseenPoints.{foreseen_kept}
use Rattle.sum_basis.proofs.basis.join_held.Goals as goal

pub join_list-requires-clause-narrow : goal.join_list-requires-clause-narrow
join_list-requires-clause-narrow c =
    let left = rw c.in-Some.is at c.requires.held in
    not_wide_with c.args.form.now (set_row c.args.form.now.n c.args.held.rows.list) _ left.1 c.requires.narrow

pub returns-in-None-clause-reduced : goal.returns-in-None-clause-reduced
returns-in-None-clause-reduced c =
    let spanned = rw c.in-None.is at c.requires.held in
    same_form c.args.form.now (set_row c.args.form.now.n c.args.held.rows.list) c.columns.ensures.form spanned

pub counts_with-grown-requires-clause-new : goal.counts_with-grown-requires-clause-new
counts_with-grown-requires-clause-new c =
    let left = rw c.in-Some.is at c.requires.held in
    subst (IsLeftOverOrNone c.args.form.now) (sym c.deref.ensures.value) (inr (left.0, left.1.zeros))

pub returns-in_ok-join_list-in-Some-clause-reduced : goal.returns-in_ok-join_list-in-Some-clause-reduced
returns-in_ok-join_list-in-Some-clause-reduced c =
    let left = rw c.in-Some.is at c.requires.held in
    grown_with c.args.form.now c.join_list.new.form.rows c.in-Some.list.items (set_row c.args.form.now.n c.args.held.rows.list) left.1
    c.in_ok-join_list-in-Some.ensures.reduced

pub returns-in_ok-join_list-in-Some-clause-counts : goal.returns-in_ok-join_list-in-Some-clause-counts
returns-in_ok-join_list-in-Some-clause-counts c =
    let left = rw c.in-Some.is at c.requires.held in
    counts_joined c.args.form.now c.join_list.new.form c.deref.result.now c.in-Some.list.items c.counts_with-grown.result left.0 c.deref.ensures.value
    c.in_ok-join_list-in-Some.ensures.n c.in_ok-join_list-in-Some.ensures.reduced c.counts_with-grown.ensures

pub without_touched-foreseen-requires-clause-list : goal.without_touched-foreseen-requires-clause-list
without_touched-foreseen-requires-clause-list c =
    let left = rw c.in-Some.is at c.requires.held in
    subst (IsLeftOver c.args.form.now) (sym c.deref-in-Some.ensures.value) (left.0, left.1.zeros)

pub returns-in_ok-join_list-in-Some-clause-keys : goal.returns-in_ok-join_list-in-Some-clause-keys
returns-in_ok-join_list-in-Some-clause-keys c =
    let left = rw c.in-Some.is at c.requires.held in
    foreseen_kept c.args.form.now c.join_list.new.form c.in-Some.list.items c.without_touched-foreseen.result c.columns.ensures.form (left.0, left.1.zeros)
    c.in_ok-join_list-in-Some.ensures.n c.in_ok-join_list-in-Some.ensures.reduced
    (subst (λ (l : List FreeEntry). IfSome c.without_touched-foreseen.result (AreForeseen c.args.form.now l (length c.args.form.now.rows)))
    c.deref-in-Some.ensures.value c.without_touched-foreseen.ensures)
