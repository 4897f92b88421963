use Rattle.std.proofs.Common.{refl}
use Rattle.line_wire.proofs.lines.Lines.stop_at_limit.Goals as goal

pub returns-clause-refuses : goal.returns-clause-refuses
returns-clause-refuses c = refl
