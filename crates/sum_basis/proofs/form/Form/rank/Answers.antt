use Rattle.std.proofs.Common.{◌≤◌, length, subst, arith}
use Rattle.std.proofs.lemmas.List.{length-map}
use Rattle.sum_basis.specs.declared.sparse.SparseRow.{SparseRow}
use Rattle.sum_basis.specs.Basis.{Echelon, IsWidth}
use Rattle.sum_basis.specs.Sparse.{row_of, rows_of, entries_of}
use Rattle.sum_basis.proofs.Ranks.{rank_at_most}
use Rattle.sum_basis.proofs.form.Form.rank.Goals as goal

pub overflow_cast-result : goal.overflow_cast-result
overflow_cast-result c =
    let rank = rank_at_most c.self.inside.columns
    (rows_of c.self.inside.columns c.self.inside.rows.items) c.self.invariant.form.primitive c.self.invariant.form.echelon in
    let most = c.self.invariant.at_most in
    let l = length-map c.self.inside.rows.items (λ (x : SparseRow). row_of c.self.inside.columns (entries_of x)) in
    let len = c.self.inside.rows.ok.0 in
    omega arith

pub returns-clause-at_most : goal.returns-clause-at_most
returns-clause-at_most c =
    subst (λ (e : Echelon). length e.rows ≤ e.n) c.self.view_is
    (rank_at_most c.self.inside.columns (rows_of c.self.inside.columns c.self.inside.rows.items) c.self.invariant.form.primitive c.self.invariant.form.echelon)

pub returns-clause-fits : goal.returns-clause-fits
returns-clause-fits c = subst (λ (e : Echelon). IsWidth e.width) c.self.view_is c.self.invariant.width_fits
