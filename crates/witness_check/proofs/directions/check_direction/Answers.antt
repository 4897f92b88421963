use Rattle.std.proofs.Common.{rules}
use Rattle.witness_check.proofs.directions.check_direction.Goals as goal

pub returns-then-v-row-ne0 : goal.returns-then-v-row-ne0
returns-then-v-row-ne0 c = search rules
