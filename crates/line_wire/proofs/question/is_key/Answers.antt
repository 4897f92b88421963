use Rattle.std.proofs.Common.{rules}
use Rattle.line_wire.proofs.question.is_key.Goals as goal

pub returns-in_default : goal.returns-in_default
returns-in_default c = search rules
