use Rattle.std.proofs.Common.{rules}
use Rattle.audit_types.proofs.shapes.Shape.kind.Goals as goal

pub returns-in-1 : goal.returns-in-1
returns-in-1 c = search rules
