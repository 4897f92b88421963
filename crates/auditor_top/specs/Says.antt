-- What is said of a run whatever its command is: the cause of its status, the call that failed, and what it left alone.
use Rattle.std.specs.Prelude.{◌≡◌, ◌≢◌, ◌≤◌, ◌+◌, true, false, Option, Some, None, Ok, length}
use Rattle.std.specs.Bool.{OnTrue}
use Rattle.bench_core.specs.declared.bench.Bench.{Ghosts}
use Rattle.bench_core.specs.declared.source.Source as source
use Rattle.bench_core.specs.Calls.{IsQuiet}
use Rattle.schema_json.specs.Columns.{SchemaView}
use Rattle.schema_json.specs.Reading.{schema_of, most_schema}
use Rattle.schema_json.specs.declared.faults.SchemaFault.TheVariants as schema_fault
use Rattle.set_index.specs.Groups.{Protects}
use Rattle.table_load.specs.Database.{Database, table_in}
use Rattle.table_load.specs.Reading.{most_table}
use Rattle.table_load.specs.Tables.{table_of, public_of}
use Rattle.table_load.specs.declared.faults.TableFault.TheVariants as table_fault
use Rattle.auditor_top.specs.declared.words.Command.{Command}
use Rattle.auditor_top.specs.declared.words.Command.TheVariants.{Simulate, Restore}
use Rattle.auditor_top.specs.declared.status.Object.{Object}
use Rattle.auditor_top.specs.declared.status.Object.TheVariants.{Schema, Table, Bench}
use Rattle.auditor_top.specs.declared.status.Refusal.TheVariants.{BadSchema, BadTable}
use Rattle.auditor_top.specs.declared.status.Status.{Status}
use Rattle.auditor_top.specs.declared.status.Status.TheVariants.{Failed, Refused}
use Rattle.auditor_top.specs.Causes.{WordCause, SchemaCause, TableCause, GroupCause, FileCause, SpareCause, InputCause, TellsFailure}
use Rattle.auditor_top.specs.Commands.{AreFilesOf, calls_spare, reads_files, reads_groups, reads_lines, reads_secrets, writes}
use Rattle.auditor_top.specs.Runs.{Objects, faults_of, last_failed_of}
use Rattle.auditor_top.specs.Stages.{Before, reading_table, opening_journal, opening_spare, reading_lines}

-- what is said of a run that ended with a status, by the command that its arguments name, if they name one, and by the objects that it was
-- handed: as they were and as they are left
pub record Says {P I B : Type 0} (files : source.Ghosts P) (lines : source.Ghosts I) (bench : Ghosts B) (asked : Option Command) (status : Status)
    (old new : Objects P I B) : Type 0 where
  -- each status has its cause
  pub words : WordCause status asked
  pub schema : files.told → (command : Command) → asked ≡ Some command → reads_files command ≡ true → SchemaCause status (schema_of (files.left old.schema))
  pub table : files.told → (command : Command) → asked ≡ Some command → reads_secrets command ≡ true → (meant : SchemaView) →
      schema_of (files.left old.schema) ≡ Ok meant → TableCause status (table_of meant.columns (files.left old.table))
  pub public : files.told → asked ≡ Some Simulate → (meant : SchemaView) → schema_of (files.left old.schema) ≡ Ok meant →
      TableCause status (public_of meant.columns (files.left old.table))
  pub groups : files.told → (command : Command) → asked ≡ Some command → reads_groups command ≡ true → (meant : SchemaView) →
      schema_of (files.left old.schema) ≡ Ok meant → GroupCause status meant.columns meant.guards
  pub own_schema_fault : status ≢ Refused (BadSchema schema_fault.NoMemory)
  pub own_table_fault : status ≢ Refused (BadTable table_fault.NoMemory)
  pub file : files.told → bench.told → (command : Command) → asked ≡ Some command → (base : Database) →
      (given : AreFilesOf (files.left old.schema) (files.left old.table) base) →
      OnTrue (reads_groups command) (Protects base.columns base.public given.guards base.protected) →
      FileCause status command (bench.file old.bench) (table_in base)
  pub spare_file : bench.told → (command : Command) → asked ≡ Some command → calls_spare command ≡ true → SpareCause status command (bench.file old.spare)
  pub input : lines.told → (command : Command) → asked ≡ Some command → reads_lines command ≡ true →
      InputCause status (lines.left old.input) (lines.left new.input)
  -- a failed call is reported when it happens: it is the only call that failed, and the last one that was made, of the object that the status
  -- says has failed, and of no other did one fail; a file whose read failed had not been read past what it may have
  pub faults : (object : Object) → TellsFailure (faults_of files lines bench old object) (faults_of files lines bench new object)
      (last_failed_of files lines bench new object) (status ≡ Failed object)
  pub schema_within : files.told → status ≡ Failed Schema → length (files.left old.schema) ≤ most_schema + length (files.left new.schema)
  pub table_within : files.told → status ≡ Failed Table → length (files.left old.table) ≤ most_table + length (files.left new.table)
  -- if it ends without a failed call of the bench, a crash leaves the file that reads
  pub quiet : bench.told → IsQuiet bench old.bench → status ≢ Failed Bench → IsQuiet bench new.bench
  -- what it doesn't come to, it doesn't call, and before the lines nothing is written or sent
  pub before_table : Before reading_table status (new.table ≡ old.table)
  pub before_bench : Before opening_journal status (new.bench ≡ old.bench)
  pub before_lines : Before reading_lines status ((new.input ≡ old.input) × (bench.sent new.bench ≡ bench.sent old.bench))
  pub unwritten : bench.told → Before reading_lines status (bench.file new.bench ≡ bench.file old.bench)
  pub before_spare : (asked ≡ Some Restore → ⊥) → Before opening_spare status (new.spare ≡ old.spare)
  -- a step that isn't one of the command's leaves its object alone
  pub unread : asked ≡ None →
      (new.schema ≡ old.schema) × (new.table ≡ old.table) × (new.input ≡ old.input) × (new.bench ≡ old.bench) × (new.spare ≡ old.spare)
  pub no_files : (command : Command) → asked ≡ Some command → reads_files command ≡ false → (new.schema ≡ old.schema) × (new.table ≡ old.table)
  pub no_lines : (command : Command) → asked ≡ Some command → reads_lines command ≡ false → new.input ≡ old.input
  pub never_written : bench.told → (command : Command) → asked ≡ Some command → writes command ≡ false → bench.file new.bench ≡ bench.file old.bench
  pub spare : (command : Command) → asked ≡ Some command → calls_spare command ≡ false → new.spare ≡ old.spare
