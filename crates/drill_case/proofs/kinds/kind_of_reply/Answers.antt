use Rattle.std.proofs.Common.{rules}
use Rattle.drill_case.proofs.kinds.kind_of_reply.Goals as goal

pub returns-in_default : goal.returns-in_default
returns-in_default c = search rules
