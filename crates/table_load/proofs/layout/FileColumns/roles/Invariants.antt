use Rattle.std.proofs.Common.{◌≡◌, ◌++◌, drop}
use Rattle.table_load.specs.Reading.{file_columns, roles_of}
use Rattle.table_load.proofs.layout.FileColumns.roles.Given as goal

abbrev pub invariant-loop-place : goal.invariant-loop-place
invariant-loop-place l = roles_of (file_columns l.self l.schema.columns) ≡ l.roles.items ++ roles_of (file_columns l.self (drop l.place l.schema.columns))
