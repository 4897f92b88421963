use Rattle.std.proofs.Common.{◌≡◌, drop}
use Rattle.csv.specs.Records.{fields_of}
use Rattle.table_load.specs.Reading.{cells_fault}
use Rattle.table_load.proofs.records.cells_fault.Given as goal

abbrev pub invariant-loop-column : goal.invariant-loop-column
invariant-loop-column l = cells_fault l.line 0 l.roles (fields_of l.row) ≡ cells_fault l.line l.column (drop l.column l.roles) (drop l.column (fields_of l.row))
