use Rattle.std.proofs.Common.{◌≡◌, ◌≤◌, ◌++◌, drop, map}
use Rattle.csv.specs.Records.{fields_of}
use Rattle.table_load.specs.Kept.{cells_kept}
use Rattle.table_load.specs.Reading.{file_columns, roles_of}
use Rattle.table_load.specs.Tables.{cells_from}
use Rattle.table_load.proofs.columns.public_columns.Given as goal

abbrev pub invariant-loop-place : goal.invariant-loop-place
invariant-loop-place l = record {
  columns : cells_from l.which 0 l.schema.columns (map fields_of l.rows) ≡ map cells_kept l.columns.items ++ cells_from l.which l.k
      (drop l.place l.schema.columns) (map fields_of l.rows);
  roles : drop l.k (roles_of (file_columns l.which l.schema.columns)) ≡ roles_of (file_columns l.which (drop l.place l.schema.columns));
  at_most : l.k ≤ l.place;
}
