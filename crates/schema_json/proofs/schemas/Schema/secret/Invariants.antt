use Rattle.std.proofs.Common.{◌≡◌, ◌≤◌, take}
use Rattle.schema_json.specs.Columns.{secret_count}
use Rattle.schema_json.proofs.schemas.Schema.secret.Given as goal

abbrev pub invariant-loop-k : goal.invariant-loop-k
invariant-loop-k l = record {
  counted : l.before ≡ secret_count (take l.k l.self.columns);
  at_most : l.before ≤ l.k;
}
