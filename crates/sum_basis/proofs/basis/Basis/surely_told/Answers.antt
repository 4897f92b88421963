use Rattle.std.proofs.Common.{ℕ, List, map, refl, sym, ap, ◌∙◌, subst}
use Rattle.std.specs.Prelude.{IfOk}
use Rattle.audit_types.specs.Rows.{Rows}
use Rattle.audit_types.specs.Form.{set_row}
use Rattle.sum_basis.specs.Alike.{TellsGrown}
use Rattle.sum_basis.specs.Basis.{Echelon}
use Rattle.sum_basis.specs.declared.keeping.KeptSet.{KeptSet}
use Rattle.sum_basis.proofs.KeptSets.{lists_of_kept}
use Rattle.sum_basis.proofs.basis.Basis.surely_told.Goals as goal

pub returns : goal.returns
returns c =
    let held = c.in-Some.held.now in
    let seen = c.args.self.now in
    let beside = c.args.beside.now.list in
    let several = c.args.several.now.list in
    let kept = map (λ (k : KeptSet). k.rows.list) c.deref-2.result.now in
    let lists = ap (map (λ (k : KeptSet). k.rows.list)) c.deref-2.ensures.value
    ∙ lists_of_kept c.self.inside.apart.items c.args.apart.now
    (ap (map (λ (k : KeptSet). k.rows)) (sym c.deref.ensures.value) ∙ c.if-not-are_kept.ensures refl) in
    let of_rows = subst (λ (l : List ℕ). IfOk c.told_with_held.result (TellsGrown c.self.inside.form (set_row c.self.inside.form.n l) beside several kept))
    (ap (λ (r : Rows). r.list) c.in-Some.ensures.1) c.told_with_held.ensures in
    subst (λ (e : Echelon). IfOk c.told_with_held.result (TellsGrown e (set_row e.n c.args.rows.now.list) beside several
    (map (λ (s : Rows). s.list) c.args.apart.now))) c.self.view_is
    (subst (λ (l : List (List ℕ)). IfOk c.told_with_held.result (TellsGrown c.self.inside.form (set_row c.self.inside.form.n c.args.rows.now.list) beside
    several l)) lists of_rows)
