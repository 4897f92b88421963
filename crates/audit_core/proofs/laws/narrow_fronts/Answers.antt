use Rattle.audit_core.proofs.NarrowFronts.{legal_is_narrow, legal_is_within_bounds}
use Rattle.audit_core.proofs.laws.narrow_fronts.Goals as goal

pub returns : goal.returns
returns c = record { narrow = legal_is_narrow; within = legal_is_within_bounds }
