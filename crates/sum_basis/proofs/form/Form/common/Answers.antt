use Rattle.std.proofs.Common.{◌∙◌, subst, rules, arith}
use Rattle.std.specs.Prelude.{unsigned_abs, FitsSigned}
use Rattle.std.specs.Int.{w128}
use Rattle.std.proofs.lemmas.Int.{to_z-of_z}
use Rattle.audit_types.specs.Form.{IsLeastCommonMultiple, pivot_entries}
use Rattle.audit_types.specs.Numbers.{size_positive}
use Rattle.sum_basis.specs.Basis.{Echelon}
use Rattle.sum_basis.proofs.form.Form.common.Goals as goal
use Rattle.sum_basis.proofs.LeastMultiples.{positive_size}

pub returns : goal.returns
returns c =
    let fits : FitsSigned w128 c.self.inside.common = search rules in
    let is = c.self.invariant in (
      unsigned_abs c.self.inside.common,
      to_z-of_z w128 c.self.inside.common fits ∙ positive_size c.self.inside.common is.positive,
      subst (λ (e : Echelon). IsLeastCommonMultiple (pivot_entries e.rows) (unsigned_abs c.self.inside.common)) c.self.view_is is.multiple,
      size_positive c.self.inside.common is.positive,
      (let within = is.within in let fits = is.width_fits.1 in omega arith),
    )
