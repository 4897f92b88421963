use Rattle.std.proofs.Common.{get_or, [], sym, subst}
use Rattle.audit_types.specs.Form.{IsEchelon}
use Rattle.sum_basis.specs.Basis.{Echelon, IsFreeList}
use Rattle.sum_basis.proofs.KeptForms.{free_list}
use Rattle.sum_basis.proofs.form.Form.free.Goals as goal

pub returns : goal.returns
returns c =
    subst (IsFreeList c.args.self.now.n c.args.self.now.rows (get_or c.args.self.now.rows c.args.k [])) (sym c.deref.ensures.value)
    (free_list c.self.inside.columns c.self.inside.rows.items c.args.self.now c.self.view_is c.self.invariant.kept c.args.k c.index.result.now c.requires
    c.index.ensures (subst (λ (e : Echelon). IsEchelon e.rows) c.self.view_is c.self.invariant.form.echelon))
