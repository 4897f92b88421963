use Rattle.std.proofs.Common.{◌≡◌, ◌≢◌, ℕ, ℤ, List, sym, subst}
use Rattle.std.specs.Prelude.{Vec}
use Rattle.std.specs.declared.alloc.Global.{Global}
use Rattle.std.proofs.lemmas.List.Elements.{recursion_from_All}
use Rattle.std.proofs.lemmas.Result.{IfOk-weaker}
use Rattle.audit_types.specs.Form.{pivot}
use Rattle.sum_basis.specs.Basis.{unit_row}
use Rattle.sum_basis.specs.Points.{IsResidue}
use Rattle.sum_basis.specs.Reach.{AreSmallEntries}
use Rattle.sum_basis.specs.declared.sparse.FreeEntry.{FreeEntry}
use Rattle.sum_basis.specs.Keys.{own_entry}
use Rattle.sum_basis.proofs.Residues.{residue_of_pivot, residue_of_free}
use Rattle.sum_basis.proofs.SmallEntries.{free_small}
use Rattle.sum_basis.proofs.alike.list_of_column.Goals as goal

pub returns-in-Some-clause-residue : goal.returns-in-Some-clause-residue
returns-in-Some-clause-residue c =
    let form = c.args.form.now in
    let found = c.in-Some.ensures.some in
    IfOk-weaker c.copy_list.result (λ (l : Vec FreeEntry Global). l.items ≡ c.free.result.now)
    (λ (l : Vec FreeEntry Global). IsResidue form (unit_row form.n c.args.column) l.items)
    (λ l same. subst (IsResidue form (unit_row form.n c.args.column)) (sym same)
    (subst (λ (q : ℕ). IsResidue form (unit_row form.n q) c.free.result.now) found.1
    (residue_of_pivot form c.columns-columns.ensures.form c.in-Some.k found.0 c.free.result.now c.free.ensures))) c.copy_list.ensures.same

pub returns-in-Some-clause-small : goal.returns-in-Some-clause-small
returns-in-Some-clause-small c =
    let form = c.args.form.now in
    let found = c.in-Some.ensures.some in
    IfOk-weaker c.copy_list.result (λ (l : Vec FreeEntry Global). l.items ≡ c.free.result.now)
    (λ (l : Vec FreeEntry Global). AreSmallEntries form.n l.items)
    (λ l same. subst (AreSmallEntries form.n) (sym same)
    (free_small form c.in-Some.k c.free.result.now c.columns-columns.ensures.form found.0 c.free.ensures)) c.copy_list.ensures.same

pub returns-in-None-clause-residue : goal.returns-in-None-clause-residue
returns-in-None-clause-residue c =
    let form = c.args.form.now in
    IfOk-weaker c.copy_list-in-None.result (λ (l : Vec FreeEntry Global). l.items ≡ own_entry c.args.column)
    (λ (l : Vec FreeEntry Global). IsResidue form (unit_row form.n c.args.column) l.items)
    (λ l same. subst (IsResidue form (unit_row form.n c.args.column)) (sym same)
    (residue_of_free form c.args.column c.requires
    (recursion_from_All (λ (other : List ℤ). pivot other ≢ c.args.column) form.rows c.in-None.ensures.none))) c.copy_list-in-None.ensures.same
