use Rattle.audit_types.proofs.CanonicalDirection.{one_canonical_direction}
use Rattle.audit_types.proofs.laws.canonical_direction.Goals as goal

pub returns : goal.returns
returns c = one_canonical_direction
