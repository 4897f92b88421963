use Rattle.std.proofs.Common.{ap}
use Rattle.audit_types.specs.Truth.{truth}
use Rattle.audit_types.proofs.AnyOrder.{same_set}
use Rattle.audit_types.proofs.laws.rows_in_any_order.Goals as goal

pub returns-clause-set : goal.returns-clause-set
returns-clause-set c = same_set

pub returns-clause-truth : goal.returns-clause-truth
returns-clause-truth c = λ kind w n set xs ys h. ap (truth kind w) (same_set n set xs ys h)
