use Rattle.std.proofs.Common.{ℕ, List, sym, ap, ◌∙◌, subst}
use Rattle.std.specs.Prelude.{◌↔◌, IsTrue}
use Rattle.sum_basis.specs.declared.sparse.SparseRow.{SparseRow}
use Rattle.sum_basis.specs.Basis.{Echelon}
use Rattle.sum_basis.specs.Sparse.{rows_of}
use Rattle.sum_basis.specs.Ties.{ShowsTieBut}
use Rattle.sum_basis.proofs.form.Form.shows_tie_but.Goals as goal

pub returns : goal.returns
returns c =
    let beside = c.args.beside.now.list in
    let several = c.args.several.now.list in
    subst (λ (e : Echelon). IsTrue c.ties_some_but.result ↔ ShowsTieBut beside several e.rows) c.self.view_is
    (subst (λ (k : ℕ). IsTrue c.ties_some_but.result ↔ ShowsTieBut beside several (rows_of k c.self.inside.rows.items))
    (c.requires.several ∙ sym (ap (λ (e : Echelon). e.n) c.self.view_is))
    (subst (λ (l : List SparseRow). IsTrue c.ties_some_but.result ↔ ShowsTieBut beside several (rows_of c.args.several.now.n l)) c.deref.ensures.value
    c.ties_some_but.ensures))
