use Rattle.std.proofs.Common.{subst}
use Rattle.sum_basis.specs.Basis.{Echelon, IsLeastUnit}
use Rattle.sum_basis.proofs.basis.Basis.unit_row.Goals as goal

pub returns : goal.returns
returns c = subst (λ (e : Echelon). IsLeastUnit e c.unit_row.result) c.self.view_is c.unit_row.ensures
