use Rattle.std.proofs.Common.{◌≡◌, length}
use Rattle.schema_json.specs.Columns.{repeats}
use Rattle.schema_json.proofs.RepeatedNames.{columns_of_entries}
use Rattle.schema_json.proofs.reading.repeats_a_name.Given as goal

abbrev pub invariant-names : goal.invariant-names
invariant-names l = repeats (columns_of_entries l.columns) ≡ repeats (columns_of_entries l.left)

abbrev pub decreases-names : goal.decreases-names
decreases-names l = length l.left
