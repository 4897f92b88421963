use Rattle.std.proofs.Common.{◌≡◌, ◌++◌, drop, map}
use Rattle.csv.specs.Records.{fields_of}
use Rattle.table_load.specs.Tables.{text_column}
use Rattle.table_load.proofs.columns.text_column.Given as goal

abbrev pub invariant-loop-row : goal.invariant-loop-row
invariant-loop-row l = text_column l.k (map fields_of l.rows) ≡ map (λ t. t.items) l.texts.items ++ text_column l.k (map fields_of (drop l.row-index l.rows))
