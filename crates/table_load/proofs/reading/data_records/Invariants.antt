use Rattle.std.proofs.Common.{◌≡◌, ◌≤◌, None, map, length}
use Rattle.audit_types.specs.Limits.{most_rows}
use Rattle.csv.specs.Records.{fields_of}
use Rattle.table_load.specs.Reading.{file_columns, records_fault}
use Rattle.table_load.specs.Steps.{HasOpened}
use Rattle.table_load.proofs.reading.data_records.Given as goal

abbrev pub invariant-records : goal.invariant-records
invariant-records l = record {
  opened : HasOpened (file_columns l.fn.which l.fn.schema.columns) l.fn.bytes (map fields_of l.rows.items) l.records;
  good : records_fault l.roles 2 (map fields_of l.rows.items) ≡ None;
  at_most : length l.rows.items ≤ most_rows;
}

abbrev pub decreases-records : goal.decreases-records
decreases-records l = l.records.left
