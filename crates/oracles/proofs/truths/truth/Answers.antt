use Rattle.std.proofs.Common.{rules}
use Rattle.oracles.proofs.truths.truth.Goals as goal

pub returns-in-Max : goal.returns-in-Max
returns-in-Max c = search rules
