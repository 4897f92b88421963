-- What a refusal says if the groups of the schema weren't made ready, and which steps a command takes.
use Rattle.std.proofs.Common.{◌≡◌, ℕ, Bool, true, false, List, Some, Result, Ok, IsOk, refl, sym, ◌∙◌, ap, subst, rules}
use Rattle.std.proofs.lemmas.Bool.{true≢false}
use Rattle.audit_types.specs.History.{Protection, Table as Guarded}
use Rattle.bench_core.specs.Reports.{not_called}
use Rattle.bench_core.specs.declared.bench.Bench.{Ghosts}
use Rattle.bench_core.specs.declared.source.Source as source
use Rattle.schema_json.specs.Columns.{Column, Guards, SchemaView}
use Rattle.schema_json.specs.Reading.{schema_of, most_schema}
use Rattle.schema_json.specs.declared.faults.SchemaFault.{SchemaFault}
use Rattle.table_load.specs.Cells.{PublicView}
use Rattle.table_load.specs.Database.{Database, table_in}
use Rattle.table_load.specs.Reading.{most_table}
use Rattle.table_load.specs.Tables.{table_of, public_of}
use Rattle.table_load.specs.declared.faults.TableFault.{TableFault}
use Rattle.set_index.specs.Groups.{Protects, IsFirstBad}
use Rattle.set_index.specs.Indexed.{IndexView, OneListOfEntries}
use Rattle.set_index.specs.declared.index.IndexFault.{IndexFault}
use Rattle.set_index.specs.declared.index.IndexFault.TheVariants as index
use Rattle.set_index.specs.declared.index.GuardPart.{GuardPart}
use Rattle.set_index.specs.declared.index.GuardPart.TheVariants as part
use Rattle.auditor_top.specs.declared.words.Command.{Command}
use Rattle.auditor_top.specs.declared.words.Command.TheVariants.{Simulate}
use Rattle.auditor_top.specs.declared.status.Status.{Status}
use Rattle.auditor_top.specs.declared.status.Refusal.TheVariants.{BadOnly, BadGroup}
use Rattle.auditor_top.specs.declared.status.Status.TheVariants.{NoMemory, Refused}
use Rattle.auditor_top.specs.Faults.{index_status}
use Rattle.auditor_top.specs.Causes.{WordCause, SchemaCause, TableCause, GroupCause, FileCause}
use Rattle.auditor_top.specs.Commands.{AreSoundFilesOf, ArePublicFilesOf, opens_store, reads_groups, reads_secrets}
use Rattle.auditor_top.specs.Ready.{EndsEarly, GivesUp, IsGiven, Refuses}
use Rattle.auditor_top.specs.Stages.{Before, reading_table, opening_journal}
use Rattle.auditor_top.proofs.Failures.{unfailed_read}
use Rattle.auditor_top.proofs.OneTable.{same_ok, schema_is_ok}
use Rattle.auditor_top.proofs.StepStatuses.{always_before}

-- a command takes no step that its kind doesn't, and takes each that it does
pub lacks : {Y : Type 0} (step : Command → Bool) {asked own : Command} → asked ≡ own → step own ≡ false → step asked ≡ true → Y
lacks step is none taken = absurd (true≢false (sym taken ∙ ap step is ∙ none))

pub no_step : {Y : Type 0} (step : Command → Bool) {asked own : Command} → asked ≡ own → step own ≡ true → step asked ≡ false → Y
no_step step is taken none = absurd (true≢false (sym taken ∙ sym (ap step is) ∙ none))

-- a run may end so when the groups are made ready
abbrev EndsGroups : Status → Type 0
EndsGroups (Refused BadOnly) = Unit {0}
EndsGroups (Refused (BadGroup place)) = Unit {0}
EndsGroups NoMemory = Unit {0}
EndsGroups status = ⊥

-- what its status says
record GroupRefusal (fault : IndexFault) : Type 1 where
  pub words : (asked : Command) → reads_groups asked ≡ true → WordCause (index_status fault) (Some asked)
  pub schema : (meant : Result SchemaView SchemaFault) → IsOk meant → SchemaCause (index_status fault) meant
  pub table : (X : Type 0) (meant : Result X TableFault) → IsOk meant → TableCause (index_status fault) meant
  pub journal : (asked : Command) (bytes : List ℕ) (table : Guarded) → FileCause (index_status fault) asked bytes table
  pub early : EndsEarly (index_status fault)
  pub ends : EndsGroups (index_status fault)
  pub before : (P : Type 0) → Before reading_table (index_status fault) P

group_refusal : (fault : IndexFault) → GroupRefusal fault
group_refusal (index.Bad part.Only) = search rules
group_refusal (index.Bad (part.Group place)) = search rules
group_refusal index.NoMemory = search rules

-- the first part that has a fault is reported, and none is if none has one
group_cause : (fault : IndexFault) (columns : List Column) (guards : Guards) →
    ((bad : GuardPart) → fault ≡ index.Bad bad → IsFirstBad columns guards bad) → GroupCause (index_status fault) columns guards
group_cause (index.Bad part.Only) columns guards bad = bad part.Only refl
group_cause (index.Bad (part.Group place)) columns guards bad = bad (part.Group place) refl
group_cause index.NoMemory columns guards bad = tt

pub group_gives_up : OneListOfEntries → (fault : IndexFault) (columns : List Column) (public : PublicView) (guards : Guards) (protected : Protection) →
    Protects columns public guards protected → ((bad : GuardPart) → fault ≡ index.Bad bad → IsFirstBad columns guards bad) →
    GivesUp (index_status fault)
group_gives_up law (index.Bad found) columns public guards protected entries bad =
    absurd (law.bad columns guards found (bad found refl) (law.sound columns public guards protected entries))
group_gives_up law index.NoMemory columns public guards protected entries bad = tt

module _ {P B : Type 0} (files : source.Ghosts P) (bench : Ghosts B) (asked : Command) (schema later_schema table later_table : P) (at : B)
    (grouped : reads_groups asked ≡ true) (read : SchemaView) (schema_is : files.told → schema_of (files.left schema) ≡ Ok read)
    (same_schema : files.faults later_schema ≡ files.faults schema) (same_table : files.faults later_table ≡ files.faults table)
    (fault : IndexFault) (bad : (found : GuardPart) → fault ≡ index.Bad found → IsFirstBad read.columns read.guards found) where
  pub groups_refused : (files.told → reads_secrets asked ≡ true → (other : SchemaView) → schema_of (files.left schema) ≡ Ok other →
      IsOk (table_of other.columns (files.left table))) →
      (files.told → asked ≡ Simulate → (other : SchemaView) → schema_of (files.left schema) ≡ Ok other → IsOk (public_of other.columns (files.left table))) →
      (files.told → (opens_store asked ≡ true → bench.told) → IsGiven asked (files.left schema) (files.left table) (bench.file at) →
      GivesUp (index_status fault)) → Refuses files bench asked (index_status fault) schema later_schema table later_table at at
  groups_refused table_ok public_ok gives_up =
      let says = group_refusal fault in
      record {
        words = says.words asked grouped;
        schema = λ ptold reads. says.schema _ (schema_is_ok _ read (schema_is ptold));
        table = λ ptold reads other is. says.table _ _ (table_ok ptold reads other is);
        public = λ ptold simulates other is. says.table _ _ (public_ok ptold simulates other is);
        groups = λ ptold reads other is.
            subst (λ (v : SchemaView). GroupCause (index_status fault) v.columns v.guards)
            (same_ok (schema_of (files.left schema)) read other (schema_is ptold) is)
            (group_cause fault read.columns read.guards bad);
        file = λ ptold told base given sound. says.journal asked (bench.file at) (table_in base);
        own_schema_fault = λ is. subst EndsGroups is says.ends;
        own_table_fault = λ is. subst EndsGroups is says.ends;
        early = says.early;
        gives_up = gives_up;
        schema_read = unfailed_read files most_schema schema later_schema _ same_schema (λ is. subst EndsGroups is says.ends);
        table_read = unfailed_read files most_table table later_table _ same_table (λ is. subst EndsGroups is says.ends);
        bench_fault = not_called bench at _ (λ is. subst EndsGroups is says.ends);
        before_table = says.before (later_table ≡ table);
        before_bench = always_before opening_journal (index_status fault) refl;
      }

pub public_gives_up : OneListOfEntries → (fault : IndexFault) (schema table : List ℕ) (read : SchemaView) (public : PublicView) → schema_of schema ≡ Ok read →
    public_of read.columns table ≡ Ok public → ((found : GuardPart) → fault ≡ index.Bad found → IsFirstBad read.columns read.guards found) →
    (given : IndexView) × ArePublicFilesOf schema table given → GivesUp (index_status fault)
public_gives_up law fault schema table read public schema_is public_is bad given =
    let view : SchemaView = record { columns = given.0.columns; guards = given.1.guards } in
    let same : read ≡ view = same_ok (schema_of schema) read view schema_is given.1.schema_is in
    group_gives_up law fault view.columns given.0.public given.1.guards given.0.protected given.1.entries
    (subst (λ (v : SchemaView). (found : GuardPart) → fault ≡ index.Bad found → IsFirstBad v.columns v.guards found) same bad)

pub growth_gives_up : OneListOfEntries → (fault : IndexFault) (schema table : List ℕ) (read : SchemaView) → schema_of schema ≡ Ok read →
    ((found : GuardPart) → fault ≡ index.Bad found → IsFirstBad read.columns read.guards found) →
    (base : Database) × AreSoundFilesOf schema table base → GivesUp (index_status fault)
growth_gives_up law fault schema table read schema_is bad given =
    let view : SchemaView = record { columns = given.0.columns; guards = given.1.files.guards } in
    group_gives_up law fault view.columns given.0.public view.guards given.0.protected given.1.entries
    (subst (λ (v : SchemaView). (found : GuardPart) → fault ≡ index.Bad found → IsFirstBad v.columns v.guards found)
    (same_ok (schema_of schema) read view schema_is given.1.files.schema_is) bad)
