use Rattle.std.proofs.Common.{subst}
use Rattle.sum_basis.specs.Basis.{Echelon, IsWidth}
use Rattle.sum_basis.specs.Elimination.{IsSmallForm}
use Rattle.sum_basis.proofs.Sizes.{small_form}
use Rattle.sum_basis.proofs.form.Form.columns.Goals as goal

pub returns-clause-form : goal.returns-clause-form
returns-clause-form c =
    subst (λ (e : Echelon). IsSmallForm e.n e.rows) c.self.view_is
    (small_form c.self.inside.width c.self.inside.columns _ c.self.invariant.width_fits.1 c.self.invariant.form)

pub returns-clause-fits : goal.returns-clause-fits
returns-clause-fits c = subst (λ (e : Echelon). IsWidth e.width) c.self.view_is c.self.invariant.width_fits
