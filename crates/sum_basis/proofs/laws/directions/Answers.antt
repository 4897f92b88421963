use Rattle.sum_basis.proofs.Along.{direction_of}
use Rattle.sum_basis.proofs.laws.directions.Goals as goal

pub returns : goal.returns
returns c = direction_of
