use Rattle.audit_types.specs.GreatestLaws.{bound_and_reached}
use Rattle.audit_types.proofs.laws.greatest.Goals as goal

pub returns : goal.returns
returns c = bound_and_reached
