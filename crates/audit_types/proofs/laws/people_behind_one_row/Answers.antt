use Rattle.audit_types.proofs.MakingUp.{another_makes_up}
use Rattle.audit_types.proofs.laws.people_behind_one_row.Goals as goal

pub returns : goal.returns
returns c = another_makes_up
