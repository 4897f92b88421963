use Rattle.std.proofs.Common.{◌≡◌, ◌++◌, drop, map}
use Rattle.csv.specs.Records.{fields_of}
use Rattle.table_load.specs.Tables.{kept_as, number_column}
use Rattle.table_load.proofs.columns.number_column.Given as goal

abbrev pub invariant-loop-row : goal.invariant-loop-row
invariant-loop-row l =
    kept_as l.role (number_column l.k (map fields_of l.rows)) ≡ l.numbers.items ++ kept_as l.role (number_column l.k (map fields_of (drop l.row-index l.rows)))
