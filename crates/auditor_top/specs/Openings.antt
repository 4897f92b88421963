-- What is said of the files of a table that weren't opened.
use Rattle.std.specs.Prelude.{◌≡◌, ◌≢◌, ℕ, List, Result, Ok}
use Rattle.bench_core.specs.declared.source.Source as source
use Rattle.schema_json.specs.Columns.{Column, SchemaView}
use Rattle.schema_json.specs.Reading.{schema_of, most_schema}
use Rattle.schema_json.specs.declared.faults.SchemaFault.TheVariants as schema_fault
use Rattle.table_load.specs.Reading.{most_table}
use Rattle.table_load.specs.declared.faults.TableFault.{TableFault}
use Rattle.table_load.specs.declared.faults.TableFault.TheVariants as table_fault
use Rattle.auditor_top.specs.declared.files.FileFault.TheVariants.{Bad}
use Rattle.auditor_top.specs.declared.opening.OpenFault.{OpenFault}
use Rattle.auditor_top.specs.declared.opening.OpenFault.TheVariants.{Schema, Table}
use Rattle.auditor_top.specs.declared.status.Object.TheVariants as object
use Rattle.auditor_top.specs.declared.status.Status.TheVariants as status
use Rattle.auditor_top.specs.Causes.{SchemaCause, TableCause}
use Rattle.auditor_top.specs.Reading.{TellsRead}
use Rattle.auditor_top.specs.Stages.{Before, reading_table}
use Rattle.auditor_top.specs.Faults.{open_status}

-- the fault is the first that there is, by what the table's bytes are to mean, or the call that failed, the last one; the table is read
-- only over a schema without fault
pub record LeavesUnopened {P X : Type 0} (files : source.Ghosts P) (meaning : List Column → List ℕ → Result X TableFault) (fault : OpenFault)
    (old_schema new_schema old_table new_table : P) : Type 0 where
  pub schema : files.told → SchemaCause (open_status fault) (schema_of (files.left old_schema))
  pub table : files.told → (meant : SchemaView) → schema_of (files.left old_schema) ≡ Ok meant →
      TableCause (open_status fault) (meaning meant.columns (files.left old_table))
  pub own_schema_fault : fault ≢ Schema (Bad schema_fault.NoMemory)
  pub own_table_fault : fault ≢ Table (Bad table_fault.NoMemory)
  pub schema_read : TellsRead files most_schema old_schema new_schema (open_status fault ≡ status.Failed object.Schema)
  pub table_read : TellsRead files most_table old_table new_table (open_status fault ≡ status.Failed object.Table)
  pub untouched : Before reading_table (open_status fault) (new_table ≡ old_table)
