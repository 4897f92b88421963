use Rattle.schema_json.proofs.ValidShapes.{secret_is_of}
use Rattle.schema_json.proofs.laws.secret_columns.Goals as goal

pub returns : goal.returns
returns c = λ schema place column are is. secret_is_of schema place column are is
