use Rattle.std.proofs.Common.{◌≡◌, ℕ, pos, sym, ap, ◌∙◌, subst, rules}
use Rattle.std.specs.Prelude.{FitsSigned, unsigned_abs}
use Rattle.std.specs.Int.{w128, ◌∣◌}
use Rattle.std.specs.List.{AllByRecursion}
use mir.Val.{to_z}
use Rattle.std.proofs.lemmas.Int.{to_z-of_z}
use Rattle.std.proofs.lemmas.Bool.{leb-true}
use Rattle.audit_types.specs.Form.{pivot_entries}
use Rattle.sum_basis.specs.Basis.{Echelon}
use Rattle.sum_basis.specs.Elimination.{IsShortForm}
use Rattle.sum_basis.specs.Sparse.{rows_of}
use Rattle.sum_basis.proofs.ShortRows.{short_form}
use Rattle.sum_basis.proofs.form.Form.is_short.Goals as goal

pub returns-then-self-eq1 : goal.returns-then-self-eq1
returns-then-self-eq1 c = λ few.
    let fits : FitsSigned w128 c.self.inside.common = search rules in
    let one : c.self.inside.common ≡ pos 1 = sym (to_z-of_z w128 c.self.inside.common fits) ∙ ap (to_z w128) c.if-self-eq1.true in
    subst (λ (e : Echelon). IsShortForm e.rows) c.self.view_is
    (short_form c.self.inside.columns c.self.inside.rows.items c.self.inside.greatest_bound c.self.invariant.kept
    (subst (λ (m : ℕ). AllByRecursion (λ x. x ∣ m) (pivot_entries (rows_of c.self.inside.columns c.self.inside.rows.items))) (ap unsigned_abs one)
    c.self.invariant.multiple.multiple)
    c.self.invariant.bounded (leb-true _ _ few))
