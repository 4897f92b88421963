use Rattle.std.proofs.Common.{sym, ap}
use Rattle.schema_json.specs.Reading.{role_of}
use Rattle.schema_json.proofs.reading.role_of.Goals as goal

pub returns-in-max : goal.returns-in-max
returns-in-max c = ap role_of (sym c.in-max.is)
