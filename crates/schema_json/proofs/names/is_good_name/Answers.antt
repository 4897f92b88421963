use Rattle.std.proofs.Common.{arith}
use Rattle.std.proofs.lemmas.Grind.{common_steps}
use Rattle.schema_json.proofs.names.is_good_name.Goals as goal

pub returns-then-has_name_bytes : goal.returns-then-has_name_bytes
returns-then-has_name_bytes c = grind (arith, common_steps)
