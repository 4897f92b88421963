-- A table as contracts see it.
use Rattle.std.specs.Prelude.{Result, Ok, Err}
use Rattle.table_load.specs.Cells.{TableView}
use Rattle.table_load.specs.declared.faults.TableFault.{TableFault}
use Rattle.table_load.specs.declared.loading.Table.{Table}

-- both parts of a table
abbrev pub table_view : Table → TableView
table_view t = record { public = t.public; secret = t.secret }

-- the table that was loaded, or the fault
abbrev pub seen_table : Result Table TableFault → Result TableView TableFault
seen_table (Ok t) = Ok (table_view t)
seen_table (Err fault) = Err fault
