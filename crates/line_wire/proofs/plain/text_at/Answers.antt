use Rattle.std.proofs.Common.{rules}
use Rattle.line_wire.proofs.plain.text_at.Goals as goal

pub returns : goal.returns
returns c = search rules
