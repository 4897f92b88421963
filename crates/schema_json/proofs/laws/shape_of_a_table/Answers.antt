use Rattle.schema_json.proofs.ValidShapes.{shape_is_valid, shape_counts}
use Rattle.schema_json.proofs.laws.shape_of_a_table.Goals as goal

pub returns-clause-valid : goal.returns-clause-valid
returns-clause-valid c = shape_is_valid

pub returns-clause-secrets : goal.returns-clause-secrets
returns-clause-secrets c = shape_counts
