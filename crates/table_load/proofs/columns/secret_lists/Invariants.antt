use Rattle.std.proofs.Common.{◌≡◌, ◌++◌, drop, map}
use Rattle.csv.specs.Records.{fields_of}
use Rattle.table_load.specs.Tables.{secrets_from}
use Rattle.table_load.proofs.columns.secret_lists.Given as goal

abbrev pub invariant-loop-place : goal.invariant-loop-place
invariant-loop-place l =
    secrets_from 0 l.schema.columns (map fields_of l.rows) ≡ map (λ w. w.items) l.lists.items ++ secrets_from l.place (drop l.place l.schema.columns)
    (map fields_of l.rows)
