use Rattle.std.proofs.Common.{◌≡◌, ◌≤◌, drop, length}
use Rattle.csv.specs.Records.{fields_of}
use Rattle.table_load.specs.Reading.{file_columns, names_are}
use Rattle.table_load.proofs.records.is_header.Given as goal

abbrev pub invariant-loop-place : goal.invariant-loop-place
invariant-loop-place l = record {
  same : names_are (fields_of l.row) (file_columns l.which l.schema.columns) ≡ names_are (drop l.k (fields_of l.row))
      (file_columns l.which (drop l.place l.schema.columns));
  at_most : l.k ≤ length (fields_of l.row);
}
