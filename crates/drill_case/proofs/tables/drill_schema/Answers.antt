use Rattle.std.proofs.Common.{ap}
use Rattle.schema_json.specs.Columns.{SchemaView}
use Rattle.drill_case.proofs.SchemaText.{no_fault, same_schema}
use Rattle.drill_case.proofs.tables.drill_schema.Goals as goal

pub unreachable-requires : goal.unreachable-requires
unreachable-requires c = no_fault c.in-Err.fault c.in-Err.ensures c.in_default.not-NoMemory

pub returns-in-Ok : goal.returns-in-Ok
returns-in-Ok c = let is = same_schema _ c.in-Ok.ensures in (ap (λ (s : SchemaView). s.columns) is, ap (λ (s : SchemaView). s.guards) is)
