-- What a refusal says: the files weren't opened, or the journal wasn't.
use Rattle.std.proofs.Common.{◌≡◌, ◌≢◌, ℕ, true, List, Some, Result, Ok, refl, subst, rules, Err, IsErr, IsErrAnd, IfErr, sym}
use Rattle.bench_core.specs.Reports.{not_called}
use Rattle.bench_core.specs.declared.bench.Bench.{Ghosts}
use Rattle.bench_core.specs.declared.source.Source as source
use Rattle.schema_json.specs.Columns.{Column, Guards, SchemaView}
use Rattle.schema_json.specs.Reading.{schema_of}
use Rattle.schema_json.specs.declared.faults.SchemaFault.{SchemaFault}
use Rattle.schema_json.specs.declared.faults.SchemaFault.TheVariants as schema_fault
use Rattle.table_load.specs.Cells.{PublicView, TableView, whole}
use Rattle.table_load.specs.Database.{Database, table_in}
use Rattle.table_load.specs.MeaningLaws.{means_read}
use Rattle.table_load.specs.Tables.{table_of, public_of}
use Rattle.table_load.specs.declared.faults.TableFault.{TableFault}
use Rattle.table_load.specs.declared.faults.TableFault.TheVariants as table_fault
use Rattle.audit_types.specs.History.{Table as Guarded}
use Rattle.set_index.specs.Indexed.{IndexView}
use Rattle.auditor_top.specs.declared.files.FileFault.TheVariants as file
use Rattle.auditor_top.specs.declared.opening.OpenFault.{OpenFault}
use Rattle.auditor_top.specs.declared.opening.OpenFault.TheVariants as opening
use Rattle.auditor_top.specs.declared.words.Command.{Command}
use Rattle.auditor_top.specs.declared.words.Command.TheVariants as command
use Rattle.auditor_top.specs.declared.status.Object.TheVariants.{Bench}
use Rattle.auditor_top.specs.declared.status.Refusal.TheVariants.{BadSchema, BadTable}
use Rattle.auditor_top.specs.declared.status.Status.{Status}
use Rattle.auditor_top.specs.declared.status.Status.TheVariants.{Failed, Refused}
use Rattle.auditor_top.specs.Openings.{LeavesUnopened}
use Rattle.auditor_top.specs.Faults.{open_status}
use Rattle.auditor_top.specs.Causes.{WordCause, SchemaCause, TableCause, GroupCause, FileCause}
use Rattle.auditor_top.specs.Commands.{AreFilesOf, ArePublicFilesOf, reads_files, reads_secrets}
use Rattle.auditor_top.specs.Ready.{EndsEarly, GivesUp, IsGiven, Refuses}
use Rattle.auditor_top.specs.Stages.{opening_journal}
use Rattle.auditor_top.proofs.StepFaults.{not_both}
use Rattle.auditor_top.proofs.StepStatuses.{always_before}

-- what holds of a status holds of the error that it is
pub of_status : {X : Type 0} (P : Status → Type 0) (r : Result X Status) (status : Status) → IsErr r × IsErrAnd r (λ e. e ≡ status) → P status → IfErr r P
of_status P (Ok x) status is holds = tt
of_status P (Err e) status is holds = subst P (sym is.1) holds

-- ---- the files weren't opened

-- what its status says
record FileRefusal (fault : OpenFault) : Type 1 where
  pub words : (asked : Command) → reads_files asked ≡ true → WordCause (open_status fault) (Some asked)
  pub journal : (asked : Command) (bytes : List ℕ) (table : Guarded) → FileCause (open_status fault) asked bytes table
  pub early : EndsEarly (open_status fault)
  pub groups : (columns : List Column) (guards : Guards) → GroupCause (open_status fault) columns guards
  pub own_schema : open_status fault ≡ Refused (BadSchema schema_fault.NoMemory) → fault ≡ opening.Schema (file.Bad schema_fault.NoMemory)
  pub own_table : open_status fault ≡ Refused (BadTable table_fault.NoMemory) → fault ≡ opening.Table (file.Bad table_fault.NoMemory)
  pub no_bench : open_status fault ≢ Failed Bench
  pub gives_up : (X : Type 0) (schema : SchemaView) (meant : X) → SchemaCause (open_status fault) (Ok schema) → TableCause (open_status fault) (Ok meant) →
      GivesUp (open_status fault)

file_refusal : (fault : OpenFault) → FileRefusal fault
file_refusal (opening.Schema (file.Bad f)) = search (rules, not_both)
file_refusal (opening.Schema fault) = search rules
file_refusal (opening.Table (file.Bad f)) = search (rules, not_both)
file_refusal (opening.Table fault) = search rules

-- so a command that stands on the files is refused, by what opening them says
module _ {P B X : Type 0} (files : source.Ghosts P) (bench : Ghosts B) (asked : Command) (schema later_schema table later_table : P) (at : B)
    (fault : OpenFault)
    (stands_on : reads_files asked ≡ true) (meaning : List Column → List ℕ → Result X TableFault)
    (unopened : LeavesUnopened files meaning fault schema later_schema table later_table) where
  pub files_refused : (files.told → reads_secrets asked ≡ true → (meant : SchemaView) → schema_of (files.left schema) ≡ Ok meant →
      TableCause (open_status fault) (table_of meant.columns (files.left table))) →
      (files.told → asked ≡ command.Simulate → (meant : SchemaView) → schema_of (files.left schema) ≡ Ok meant →
      TableCause (open_status fault) (public_of meant.columns (files.left table))) →
      (files.told → IsGiven asked (files.left schema) (files.left table) (bench.file at) → GivesUp (open_status fault)) →
      Refuses files bench asked (open_status fault) schema later_schema table later_table at at
  files_refused table_cause public_cause gives_up =
      let says = file_refusal fault in
      record {
        words = says.words asked stands_on;
        schema = λ ptold reads. unopened.schema ptold;
        table = table_cause;
        public = public_cause;
        groups = λ ptold reads meant is. says.groups meant.columns meant.guards;
        file = λ ptold told base given sound. says.journal asked (bench.file at) (table_in base);
        own_schema_fault = λ is. unopened.own_schema_fault (says.own_schema is);
        own_table_fault = λ is. unopened.own_table_fault (says.own_table is);
        early = says.early;
        gives_up = λ ptold told given. gives_up ptold given;
        schema_read = unopened.schema_read;
        table_read = unopened.table_read;
        bench_fault = not_called bench at _ says.no_bench;
        before_table = unopened.untouched;
        before_bench = always_before opening_journal (open_status fault) refl;
      }

-- nothing that is given has a fault, so a call failed or memory ran out
pub gives_up_over : (fault : OpenFault) (schema table : List ℕ) (base : Database) → AreFilesOf schema table base →
    SchemaCause (open_status fault) (schema_of schema) →
    ((meant : SchemaView) → schema_of schema ≡ Ok meant → TableCause (open_status fault) (table_of meant.columns table)) → GivesUp (open_status fault)
gives_up_over fault schema table base given schema_cause table_cause =
    (file_refusal fault).gives_up TableView (record { columns = base.columns; guards = given.guards })
    (record { public = whole base.public; secret = base.secret })
    (subst (λ (r : Result SchemaView SchemaFault). SchemaCause (open_status fault) r) given.schema_is schema_cause)
    (subst (λ (r : Result TableView TableFault). TableCause (open_status fault) r) (means_read given.table_means)
    (table_cause (record { columns = base.columns; guards = given.guards }) given.schema_is))

pub gives_up_public : (fault : OpenFault) (schema table : List ℕ) (index : IndexView) → ArePublicFilesOf schema table index →
    SchemaCause (open_status fault) (schema_of schema) →
    ((meant : SchemaView) → schema_of schema ≡ Ok meant → TableCause (open_status fault) (public_of meant.columns table)) → GivesUp (open_status fault)
gives_up_public fault schema table index given schema_cause table_cause =
    (file_refusal fault).gives_up PublicView (record { columns = index.columns; guards = given.guards }) (whole index.public)
    (subst (λ (r : Result SchemaView SchemaFault). SchemaCause (open_status fault) r) given.schema_is schema_cause)
    (subst (λ (r : Result PublicView TableFault). TableCause (open_status fault) r) given.public_is
    (table_cause (record { columns = index.columns; guards = given.guards }) given.schema_is))
