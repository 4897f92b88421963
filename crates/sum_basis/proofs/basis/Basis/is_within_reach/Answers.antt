use Rattle.std.proofs.Common.{◌↔◌, [], map, sym, subst, inr}
use Rattle.std.specs.Prelude.{IfOk, IsTrue}
use Rattle.audit_types.specs.Form.{set_row}
use Rattle.sum_basis.specs.Basis.{Echelon}
use Rattle.audit_types.specs.Rows.{Rows}
use Rattle.sum_basis.specs.Sparse.{row_of, IsNew}
use Rattle.sum_basis.specs.Growth.{GrowsTo, IsNewRow}
use Rattle.sum_basis.specs.Reach.{IsLeftOverOrNone, ReachesAll}
use Rattle.sum_basis.proofs.GrownBy.{by_list, by_nothing, told_by, never_large}
use Rattle.sum_basis.proofs.SetRows.{set_bits}
use Rattle.sum_basis.proofs.basis.Basis.is_within_reach.Goals as goal

pub settle-requires-clause-bits : goal.settle-requires-clause-bits
settle-requires-clause-bits c = set_bits c.args.rows.now.n c.args.rows.now.list c.write_set.new.row c.write_set.ensures

pub is_within_kept-requires-in-Entries-clause-new : goal.is_within_kept-requires-in-Entries-clause-new
is_within_kept-requires-in-Entries-clause-new c =
    let left = rw c.in-Entries.is at c.in_ok-settle.ensures.left in
    subst (IsLeftOverOrNone c.self.inside.form) (sym c.deref.ensures.value) (inr (left.0, left.1.zeros))

pub returns-in-Some : goal.returns-in-Some
returns-in-Some c =
    let form = c.self.inside.form in
    let sets = map (λ (s : Rows). s.list) c.args.apart.now in
    let is = rw c.in-Some.is at c.held_for.ensures in
    subst (λ (s : Echelon). IfOk c.is_within_held.result (λ within. (new : Echelon) → GrowsTo s (set_row s.n c.args.rows.now.list) new →
    IsTrue within ↔ ReachesAll s.n c.args.reach c.args.shared.now.list sets new.rows)) c.self.view_is
    (subst (λ (r : Rows). IfOk c.is_within_held.result (λ within. (new : Echelon) → GrowsTo form (set_row form.n r.list) new →
    IsTrue within ↔ ReachesAll form.n c.args.reach c.args.shared.now.list sets new.rows)) is.1 c.is_within_held.ensures)

pub returns-in-Nothing : goal.returns-in-Nothing
returns-in-Nothing c =
    let form = c.self.inside.form in
    let left = rw c.in-Nothing.is at c.in_ok-settle.ensures.left in
    told_by form c.args.self.now c.write_set.new.row c.args.rows.now.n c.args.rows.now.list c.self.view_is c.write_set.ensures c.requires.n
    _ [] c.args.reach c.args.shared.now.list (map (λ (s : Rows). s.list) c.args.apart.now)
    (λ other grows. by_nothing form c.write_set.new.row other grows c.settle.ensures.form left) c.is_within_kept.ensures

pub returns-in-Large : goal.returns-in-Large
returns-in-Large c =
    let left = rw c.in-Large.is at c.in_ok-settle.ensures.left in
    λ other grows.
    absurd (never_large c.self.inside.form c.args.self.now c.write_set.new.row c.args.rows.now.n c.args.rows.now.list c.self.view_is c.write_set.ensures
    c.requires.n left.1 other grows)

pub returns : goal.returns
returns c =
    let form = c.self.inside.form in
    let left = rw c.in-Entries.is at c.in_ok-settle.ensures.left in
    let list = c.deref.result.now in
    told_by form c.args.self.now c.write_set.new.row c.args.rows.now.n c.args.rows.now.list c.self.view_is c.write_set.ensures c.requires.n
    _ list c.args.reach c.args.shared.now.list (map (λ (s : Rows). s.list) c.args.apart.now)
    (λ other grows. by_list form c.write_set.new.row other grows list (subst (IsNew form.n) (sym c.deref.ensures.value) left.0)
    (subst (λ l. IsNewRow form c.write_set.new.row (row_of form.n l)) (sym c.deref.ensures.value) left.1)) c.is_within_kept-in-Entries.ensures
