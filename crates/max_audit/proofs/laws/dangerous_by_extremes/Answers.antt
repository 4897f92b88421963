use Rattle.max_audit.proofs.DangerousByExtremes.{dangerous_by_extremes}
use Rattle.max_audit.proofs.laws.dangerous_by_extremes.Goals as goal

pub returns : goal.returns
returns c = dangerous_by_extremes
