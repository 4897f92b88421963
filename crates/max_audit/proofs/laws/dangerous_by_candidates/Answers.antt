use Rattle.max_audit.proofs.DangerousByFewPeople.{dangerous_by_candidates}
use Rattle.max_audit.proofs.laws.dangerous_by_candidates.Goals as goal

pub returns : goal.returns
returns c = dangerous_by_candidates
