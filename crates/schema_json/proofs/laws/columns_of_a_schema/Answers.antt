use Rattle.schema_json.proofs.SchemaColumns.{meant_columns}
use Rattle.schema_json.proofs.laws.columns_of_a_schema.Goals as goal

pub returns : goal.returns
returns c = meant_columns
