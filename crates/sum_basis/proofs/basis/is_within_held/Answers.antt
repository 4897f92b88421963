use Rattle.std.proofs.Common.{[], map, refl, sym, subst, inr}
use Rattle.audit_types.specs.Rows.{Rows}
use Rattle.audit_types.specs.Form.{set_row}
use Rattle.sum_basis.specs.Sparse.{row_of, IsNew}
use Rattle.sum_basis.specs.Growth.{IsNewRow}
use Rattle.sum_basis.specs.Reach.{IsLeftOverOrNone}
use Rattle.sum_basis.proofs.GrownBy.{by_list, by_nothing, told_by}
use Rattle.sum_basis.proofs.basis.is_within_held.Goals as goal

pub is_within_kept-requires-clause-new : goal.is_within_kept-requires-clause-new
is_within_kept-requires-clause-new c =
    let left = rw c.in-Some.is at c.requires.held in
    subst (IsLeftOverOrNone c.args.form.now) (sym c.deref.ensures.value) (inr (left.0, left.1.zeros))

pub returns-in-Some : goal.returns-in-Some
returns-in-Some c =
    let form = c.args.form.now in
    let row = set_row form.n c.args.held.now.rows.list in
    let left = rw c.in-Some.is at c.requires.held in
    let list = c.deref.result.now in
    told_by form form row form.n c.args.held.now.rows.list refl refl refl _ list c.args.reach c.args.shared.now.list
    (map (λ (s : Rows). s.list) c.args.apart.now)
    (λ other grows. by_list form row other grows list (subst (IsNew form.n) (sym c.deref.ensures.value) left.0)
    (subst (λ l. IsNewRow form row (row_of form.n l)) (sym c.deref.ensures.value) left.1)) c.is_within_kept.ensures

pub returns-in-None : goal.returns-in-None
returns-in-None c =
    let form = c.args.form.now in
    let row = set_row form.n c.args.held.now.rows.list in
    let span = rw c.in-None.is at c.requires.held in
    told_by form form row form.n c.args.held.now.rows.list refl refl refl _ [] c.args.reach c.args.shared.now.list (map (λ (s : Rows). s.list) c.args.apart.now)
    (λ other grows. by_nothing form row other grows c.columns.ensures.form span) c.is_within_kept-in-None.ensures
