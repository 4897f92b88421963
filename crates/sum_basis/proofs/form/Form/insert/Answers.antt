use Rattle.std.proofs.Common.{ap, arith}
use Rattle.sum_basis.specs.Basis.{Echelon}
use Rattle.sum_basis.proofs.Joining.{same_form, not_wide_with, grown_with}
use Rattle.sum_basis.proofs.form.Form.insert.Goals as goal

pub returns-in-Nothing-clause-reduced : goal.returns-in-Nothing-clause-reduced
returns-in-Nothing-clause-reduced c =
    let left = rw c.in-Nothing.is at c.in_ok-settle.ensures.left in
    same_form c.args.self.now c.args.row.now c.in_ok-settle.ensures.form left

pub insert_list-requires-clause-narrow : goal.insert_list-requires-clause-narrow
insert_list-requires-clause-narrow c =
    let left = rw c.in-Entries.is at c.in_ok-settle.ensures.left in
    not_wide_with c.args.self.now c.args.row.now _ left.1 c.requires.narrow

pub returns-clause-reduced : goal.returns-clause-reduced
returns-clause-reduced c =
    let left = rw c.in-Entries.is at c.in_ok-settle.ensures.left in
    grown_with c.args.self.now c.insert_list.new.self.rows c.in-Entries.new.items c.args.row.now left.1 c.in_ok-insert_list.ensures.reduced

pub settle-requires-clause-limit : goal.settle-requires-clause-limit
settle-requires-clause-limit c = let same = ap (λ (e : Echelon). e.width) c.self.view_is in let fits = c.self.invariant.width_fits.1 in (omega arith, fits)
