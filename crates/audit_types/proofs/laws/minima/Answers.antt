use Rattle.audit_types.proofs.Negated.{least_by_greatest, bound_and_reached, twins_negated}
use Rattle.audit_types.proofs.laws.minima.Goals as goal

pub returns-clause-greatest : goal.returns-clause-greatest
returns-clause-greatest c = least_by_greatest

pub returns-clause-least : goal.returns-clause-least
returns-clause-least c = bound_and_reached c.greatest.ensures

pub returns-clause-twins : goal.returns-clause-twins
returns-clause-twins c = twins_negated
