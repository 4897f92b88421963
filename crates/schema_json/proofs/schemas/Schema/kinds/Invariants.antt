use Rattle.schema_json.proofs.ShapeKinds.{Written}
use Rattle.schema_json.proofs.schemas.Schema.kinds.Given as goal

abbrev pub invariant-loop-k : goal.invariant-loop-k
invariant-loop-k l = Written l.self.columns l.k l.at l.kinds
