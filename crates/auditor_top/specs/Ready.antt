-- What a command goes on with once its files are read and its journal is opened, and with which statuses that may end.
use Rattle.std.specs.Prelude.{◌≡◌, ◌≢◌, List, ℕ, true, false, Some, Ok}
use Rattle.audit_types.specs.declared.records.Answered.{Answered}
use Rattle.audit_types.specs.Shapes.{IsShape}
use Rattle.bench_core.specs.declared.bench.Bench.{Ghosts}
use Rattle.bench_core.specs.declared.source.Source as source
use Rattle.bench_core.specs.Calls.{TellsFault}
use Rattle.std.specs.Bool.{OnTrue}
use Rattle.audit_types.specs.History.{Table as Guarded}
use Rattle.schema_json.specs.Columns.{Column, SchemaView}
use Rattle.schema_json.specs.Reading.{schema_of, most_schema}
use Rattle.schema_json.specs.SecretShape.{shape_of}
use Rattle.schema_json.specs.declared.faults.SchemaFault.TheVariants as schema_fault
use Rattle.table_load.specs.Cells.{PublicView}
use Rattle.table_load.specs.Database.{Database, base_of, table_in}
use Rattle.set_index.specs.Groups.{Protects}
use Rattle.set_index.specs.Indexed.{IndexView, public_shape}
use Rattle.table_load.specs.Reading.{most_table}
use Rattle.table_load.specs.Tables.{table_of, public_of}
use Rattle.table_load.specs.declared.faults.TableFault.TheVariants as table_fault
use Rattle.audit_store.specs.Stores.{StoreContents, IsStore, IsAsLeft, secrets_of}
use Rattle.audit_session.specs.Ends.{base_over}
use Rattle.auditor_top.specs.declared.ready.Ready.{Ready}
use Rattle.auditor_top.specs.declared.ready.Ready.TheVariants.{Init, Serve, Twin, Audit, Simulate, Drill, Grow, Explain, Compact, Restore}
use Rattle.auditor_top.specs.declared.words.Command.{Command}
use Rattle.auditor_top.specs.declared.words.Command.TheVariants as command
use Rattle.auditor_top.specs.declared.status.Object.TheVariants.{Schema, Table, Bench}
use Rattle.auditor_top.specs.declared.status.Refusal.TheVariants.{BadSchema, BadTable, BadOnly, BadGroup, BadJournal}
use Rattle.auditor_top.specs.declared.status.Status.{Status}
use Rattle.auditor_top.specs.declared.status.Status.TheVariants.{Failed, NoMemory, Refused}
use Rattle.auditor_top.specs.Ends.{people_told}
use Rattle.auditor_top.specs.Causes.{WordCause, SchemaCause, TableCause, GroupCause, FileCause}
use Rattle.auditor_top.specs.Commands.{AreFilesOf, AreSoundFilesOf, ArePublicFilesOf, ServesOver, opens_store, reads_files, reads_groups, reads_secrets}
use Rattle.auditor_top.specs.Reading.{TellsRead}
use Rattle.auditor_top.specs.Stages.{Before, reading_table, opening_journal}

-- ---- what is given and what comes of it

-- what a command is given before its last step is without fault: its files, and the journal of its store
abbrev pub IsGiven : Command → List ℕ → List ℕ → List ℕ → Type 0
IsGiven command.Init schema table file = (base : Database) × AreFilesOf schema table base
IsGiven (command.Serve batch true) schema table file = (base : Database) × AreSoundFilesOf schema table base
IsGiven (command.Serve batch false) schema table file = (base : Database) × (history : List Answered) × ServesOver schema table file base history
IsGiven command.Audit schema table file = (base : Database) × (history : List Answered) × ServesOver schema table file base history
IsGiven command.Simulate schema table file = (index : IndexView) × ArePublicFilesOf schema table index
IsGiven (command.Drill number) schema table file = Unit {0}
IsGiven command.Grow schema table file = (base : Database) × AreSoundFilesOf schema table base
IsGiven command.Explain schema table file = (base : Database) × (history : List Answered) × ServesOver schema table file base history
IsGiven command.Compact schema table file = (base : Database) × (history : List Answered) × ServesOver schema table file base history
IsGiven command.Restore schema table file = (base : Database) × AreSoundFilesOf schema table base

-- the command that goes on with this
abbrev pub command_for : Ready → Command
command_for (Init shape) = command.Init
command_for (Serve index store batch) = command.Serve batch false
command_for (Twin index guarded batch) = command.Serve batch true
command_for (Audit schema people store) = command.Audit
command_for (Simulate index) = command.Simulate
command_for (Drill number) = command.Drill number
command_for (Grow guarded) = command.Grow
command_for (Explain index store) = command.Explain
command_for (Compact store) = command.Compact
command_for (Restore guarded) = command.Restore

-- a store that was just opened: the journal's file is as it left it
pub record IsOpened {B : Type 0} (bench : Ghosts B) (now : B) (store : StoreContents) : Type 0 where
  pub is : IsStore store
  pub usable : store.usable ≡ true
  pub left : bench.told → IsAsLeft (bench.file now) store

-- its parts fit one another
abbrev pub IsReady : {B : Type 0} → Ghosts B → B → Ready → Type 0
IsReady bench now (Init shape) = IsShape shape
IsReady bench now (Serve index store batch) = IsOpened bench now store × (store.secret.shape ≡ public_shape index)
IsReady bench now (Twin index guarded batch) = guarded.setting.shape ≡ public_shape index
IsReady bench now (Audit schema people store) = IsOpened bench now store × (store.secret.shape ≡ shape_of schema.columns store.secret.shape.rows)
IsReady bench now (Simulate index) = Unit {0}
IsReady bench now (Drill number) = Unit {0}
IsReady bench now (Grow guarded) = Unit {0}
IsReady bench now (Explain index store) =
    IsOpened bench now store × (store.secret.shape ≡ public_shape index) × (index.protected ≡ store.protected)
IsReady bench now (Compact store) = IsOpened bench now store
IsReady bench now (Restore guarded) = Unit {0}

-- the columns and the public part of a table, around its secrets and what is guarded of them
abbrev pub base_around : List Column → PublicView → Guarded → Database
base_around columns public guarded = base_of columns public guarded.setting.protected (secrets_of guarded)

-- its parts are what the files mean
abbrev pub IsReadyOver : List ℕ → List ℕ → Ready → Type 0
IsReadyOver schema_file table_file (Init shape) = (base : Database) × AreFilesOf schema_file table_file base × (shape ≡ base.secret.shape)
IsReadyOver schema_file table_file (Serve index store batch) = AreSoundFilesOf schema_file table_file (base_over index store)
IsReadyOver schema_file table_file (Twin index guarded batch) = AreSoundFilesOf schema_file table_file (base_around index.columns index.public guarded)
IsReadyOver schema_file table_file (Audit schema people store) =
    (public : PublicView) × AreSoundFilesOf schema_file table_file (base_of schema.columns public store.protected store.secret) ×
    (people ≡ people_told schema.columns public)
IsReadyOver schema_file table_file (Simulate index) = ArePublicFilesOf schema_file table_file index
IsReadyOver schema_file table_file (Drill number) = Unit {0}
IsReadyOver schema_file table_file (Grow guarded) =
    (columns : List Column) × (public : PublicView) × AreSoundFilesOf schema_file table_file (base_around columns public guarded)
IsReadyOver schema_file table_file (Explain index store) =
    AreSoundFilesOf schema_file table_file (base_of index.columns index.public index.protected store.secret)
IsReadyOver schema_file table_file (Compact store) =
    (columns : List Column) × (public : PublicView) × AreSoundFilesOf schema_file table_file (base_of columns public store.protected store.secret)
IsReadyOver schema_file table_file (Restore guarded) =
    (columns : List Column) × (public : PublicView) × AreSoundFilesOf schema_file table_file (base_around columns public guarded)

-- ---- the statuses

-- a run may end so before its command goes on
abbrev pub EndsEarly : Status → Type 0
EndsEarly (Failed Schema) = Unit {0}
EndsEarly (Failed Table) = Unit {0}
EndsEarly (Failed Bench) = Unit {0}
EndsEarly NoMemory = Unit {0}
EndsEarly (Refused (BadSchema fault)) = Unit {0}
EndsEarly (Refused (BadTable fault)) = Unit {0}
EndsEarly (Refused BadOnly) = Unit {0}
EndsEarly (Refused (BadGroup place)) = Unit {0}
EndsEarly (Refused (BadJournal refusal)) = Unit {0}
EndsEarly status = ⊥

-- before that a call failed, or memory ran out: that may come whatever is given
abbrev pub GivesUp : Status → Type 0
GivesUp (Failed Schema) = Unit {0}
GivesUp (Failed Table) = Unit {0}
GivesUp (Failed Bench) = Unit {0}
GivesUp NoMemory = Unit {0}
GivesUp status = ⊥

-- what is said of a refusal: of the arguments, the files and the journal, and of the call that failed, the last one
pub record Refuses {P B : Type 0} (files : source.Ghosts P) (bench : Ghosts B) (asked : Command) (status : Status) (old_schema new_schema old_table new_table : P)
    (old new : B) : Type 0 where
  pub words : WordCause status (Some asked)
  pub schema : files.told → reads_files asked ≡ true → SchemaCause status (schema_of (files.left old_schema))
  pub table : files.told → reads_secrets asked ≡ true → (meant : SchemaView) → schema_of (files.left old_schema) ≡ Ok meant →
      TableCause status (table_of meant.columns (files.left old_table))
  pub public : files.told → asked ≡ command.Simulate → (meant : SchemaView) → schema_of (files.left old_schema) ≡ Ok meant →
      TableCause status (public_of meant.columns (files.left old_table))
  pub groups : files.told → reads_groups asked ≡ true → (meant : SchemaView) → schema_of (files.left old_schema) ≡ Ok meant →
      GroupCause status meant.columns meant.guards
  pub file : files.told → bench.told → (base : Database) → (given : AreFilesOf (files.left old_schema) (files.left old_table) base) →
      OnTrue (reads_groups asked) (Protects base.columns base.public given.guards base.protected) → FileCause status asked (bench.file old) (table_in base)
  pub own_schema_fault : status ≢ Refused (BadSchema schema_fault.NoMemory)
  pub own_table_fault : status ≢ Refused (BadTable table_fault.NoMemory)
  pub early : EndsEarly status
  -- if what is given has no fault, a call failed or memory ran out
  pub gives_up : files.told → (opens_store asked ≡ true → bench.told) → IsGiven asked (files.left old_schema) (files.left old_table) (bench.file old) →
      GivesUp status
  pub schema_read : TellsRead files most_schema old_schema new_schema (status ≡ Failed Schema)
  pub table_read : TellsRead files most_table old_table new_table (status ≡ Failed Table)
  pub bench_fault : TellsFault bench old new (status ≡ Failed Bench)
  -- what isn't come to isn't called
  pub before_table : Before reading_table status (new_table ≡ old_table)
  pub before_bench : Before opening_journal status (new ≡ old)
