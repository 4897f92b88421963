use Rattle.max_audit.proofs.DangerousByFewPeople.{dangerous_by_few_people}
use Rattle.max_audit.proofs.laws.dangerous_by_few_people.Goals as goal

pub returns : goal.returns
returns c = dangerous_by_few_people
