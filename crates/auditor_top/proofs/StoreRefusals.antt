-- What a refusal says if the journal wasn't opened, or there was no memory to open it.
use Rattle.std.proofs.Common.{◌≡◌, ℕ, Bool, true, false, List, Result, Ok, Err, IsErrOf, refl, sym, ap, subst}
use Rattle.std.specs.Prelude.{⊤}
use Rattle.std.proofs.lemmas.Bool.{false≢true, true≢false}
use Rattle.audit_types.specs.declared.records.Answered.{Answered}
use Rattle.audit_types.specs.History.{Protection, IsLegal, Table as Guarded}
use Rattle.std.specs.Bool.{OnTrue}
use Rattle.bench_core.specs.Calls.{TellsFault}
use Rattle.bench_core.specs.Reports.{told_as}
use Rattle.bench_core.specs.declared.bench.Bench.{Ghosts}
use Rattle.bench_core.specs.declared.source.Source as source
use Rattle.schema_json.specs.Columns.{Column, SchemaView}
use Rattle.schema_json.specs.Reading.{schema_of, most_schema}
use Rattle.table_load.specs.Cells.{PublicView, TableView, whole}
use Rattle.table_load.specs.Database.{Database, base_of, secret_table, table_in}
use Rattle.table_load.specs.Meaning.{MeansTable}
use Rattle.table_load.specs.MeaningLaws.{means_read, read_means}
use Rattle.table_load.specs.Reading.{most_table}
use Rattle.table_load.specs.Tables.{table_of}
use Rattle.set_index.specs.Groups.{Protects, IsFirstBad}
use Rattle.set_index.specs.Indexed.{OneListOfEntries}
use Rattle.set_index.specs.declared.index.IndexFault.{IndexFault}
use Rattle.set_index.specs.declared.index.IndexFault.TheVariants as index
use Rattle.set_index.specs.declared.index.GuardPart.{GuardPart}
use Rattle.journal_form.specs.Journal.{StandsFor}
use Rattle.bench_core.specs.Ends.{EndsBy, IsStop}
use Rattle.bench_core.specs.EndLaws.{EndsBy-weaker}
use Rattle.bench_core.specs.Stops.{IsOfBench}
use Rattle.bench_core.specs.declared.stops.End.{End}
use Rattle.bench_core.specs.declared.stops.End.TheVariants.{Stopped}
use Rattle.bench_core.specs.declared.stops.Stop.TheVariants as stop
use Rattle.answer_journal.specs.declared.refusals.JournalRefusal.{JournalRefusal}
use Rattle.audit_store.specs.Starting.{StartCause}
use Rattle.auditor_top.specs.declared.starting.NotStarted.{NotStarted}
use Rattle.auditor_top.specs.declared.starting.NotStarted.TheVariants as began
use Rattle.auditor_top.specs.declared.words.Command.{Command}
use Rattle.auditor_top.specs.declared.words.Command.TheVariants.{Init, Serve, Audit, Simulate, Drill, Grow, Explain, Compact, Restore}
use Rattle.auditor_top.specs.declared.status.Refusal.TheVariants.{BadJournal}
use Rattle.auditor_top.specs.declared.status.Status.{Status}
use Rattle.auditor_top.specs.Faults.{index_status, start_status, started_status, step_status}
use Rattle.auditor_top.specs.Causes.{FileCause, GroupCause, OpeningCause, SchemaCause, TableCause}
use Rattle.auditor_top.specs.Commands.{AreFilesOf, AreSoundFilesOf, ServesOver, comes_to_journal, opens_journal, opens_store, reads_files, reads_groups}
use Rattle.auditor_top.specs.Ready.{IsGiven, Refuses}
use Rattle.auditor_top.proofs.GroupRefusals.{groups_refused, group_gives_up}
use Rattle.auditor_top.proofs.OneTable.{groups_are_sound, one_base, same_ok, schema_is_ok, table_is_ok}
use Rattle.auditor_top.proofs.StartEndings.{start_says}
use Rattle.auditor_top.proofs.Failures.{stopped_by, unfailed_read}
use Rattle.auditor_top.proofs.StepStatuses.{EndsLastStep, groups_read, past_journal, past_table, schema_read, table_read}

-- the files were read, and no group has a fault
schema_so : (status : Status) (schema table : List ℕ) (base : Database) → EndsLastStep status → AreFilesOf schema table base →
    SchemaCause status (schema_of schema)
schema_so status schema table base last are = schema_read status _ last (schema_is_ok _ _ are.schema_is)

table_so : (status : Status) (schema table : List ℕ) (base : Database) → EndsLastStep status → AreFilesOf schema table base →
    (meant : SchemaView) → schema_of schema ≡ Ok meant → TableCause status (table_of meant.columns table)
table_so status schema table base last are meant is =
    table_read status _ last (table_is_ok (λ (cs : List Column). table_of cs table) _ _ meant _ are.schema_is (means_read are.table_means) is)

groups_so : OneListOfEntries → (status : Status) (schema table : List ℕ) (base : Database) → EndsLastStep status → AreSoundFilesOf schema table base →
    (meant : SchemaView) → schema_of schema ≡ Ok meant → GroupCause status meant.columns meant.guards
groups_so law status schema table base last are meant is =
    groups_read status _ _ last (groups_are_sound law _ _ base.public _ base.protected meant are.files.schema_is are.entries is)

-- a command that opens a store opens the journal, and refuses it as a start does
pub opens_too : (asked : Command) → opens_store asked ≡ true → opens_journal asked ≡ true
opens_too Init opens = opens
opens_too Simulate opens = opens
opens_too (Drill number) opens = opens
opens_too asked opens = refl

-- so it comes to the journal
comes_too : (asked : Command) → opens_store asked ≡ true → comes_to_journal asked ≡ true
comes_too Init opens = opens
comes_too Simulate opens = refl
comes_too (Drill number) opens = opens
comes_too asked opens = refl

refused_so : (refusal : JournalRefusal) (asked : Command) (file : List ℕ) (table : Guarded) → opens_store asked ≡ true → StartCause refusal file table →
    OpeningCause refusal asked file table
refused_so refusal Init file table opens cause = absurd (false≢true opens)
refused_so refusal Simulate file table opens cause = absurd (false≢true opens)
refused_so refusal (Drill number) file table opens cause = absurd (false≢true opens)
refused_so refusal Grow file table opens cause = absurd (false≢true opens)
refused_so refusal asked file table opens cause = cause

-- what is given to a command that opens a store
pub given_history : (asked : Command) (schema table file : List ℕ) → opens_store asked ≡ true → IsGiven asked schema table file →
    (base : Database) × (history : List Answered) × ServesOver schema table file base history
given_history (Serve batch true) schema table file opens given = absurd (false≢true opens)
given_history (Serve batch false) schema table file opens given = given
given_history Audit schema table file opens given = given
given_history Explain schema table file opens given = given
given_history Compact schema table file opens given = given
given_history asked schema table file opens given = absurd (false≢true opens)

-- and to one that opens its journals later
pub given_files : (asked : Command) (schema table file : List ℕ) → opens_journal asked ≡ true → opens_store asked ≡ false → IsGiven asked schema table file →
    (base : Database) × AreSoundFilesOf schema table base
given_files (Serve batch true) schema table file opens later given = given
given_files (Serve batch false) schema table file opens later given = absurd (true≢false later)
given_files Audit schema table file opens later given = absurd (true≢false later)
given_files Grow schema table file opens later given = given
given_files Explain schema table file opens later given = absurd (true≢false later)
given_files Compact schema table file opens later given = absurd (true≢false later)
given_files Restore schema table file opens later given = given
given_files asked schema table file opens later given = absurd (false≢true opens)

-- a command that opens a journal reads the files of a table, not the public columns alone
pub opens_files : (asked : Command) → opens_journal asked ≡ true → reads_files asked ≡ true
opens_files (Drill number) opens = opens
opens_files asked opens = refl

pub not_public : {Y : Type 0} (asked : Command) → opens_journal asked ≡ true → asked ≡ Simulate → Y
not_public asked opens is = absurd (false≢true (subst (λ (k : Command). opens_journal k ≡ true) is opens))

-- and makes the groups ready
pub opens_groups : (asked : Command) → opens_journal asked ≡ true → reads_groups asked ≡ true
opens_groups Init opens = opens
opens_groups (Drill number) opens = opens
opens_groups asked opens = refl

module _ {P B : Type 0} (files : source.Ghosts P) (bench : Ghosts B) (law : OneListOfEntries) (asked : Command)
    (schema later_schema table later_table : P) (at later : B) (opens : opens_store asked ≡ true) (read : SchemaView) (meant : TableView)
    (schema_is : files.told → schema_of (files.left schema) ≡ Ok read) (table_is : files.told → table_of read.columns (files.left table) ≡ Ok meant)
    (same_schema : files.faults later_schema ≡ files.faults schema) (same_table : files.faults later_table ≡ files.faults table) where
  grouped : reads_groups asked ≡ true
  grouped = opens_groups asked (opens_too asked opens)

  abbrev seen : PublicView → Protection → Database
  seen public protected = base_of read.columns public protected meant.secret

  sound_files : files.told → (public : PublicView) (protected : Protection) → whole public ≡ meant.public → Protects read.columns public read.guards protected →
      AreSoundFilesOf (files.left schema) (files.left table) (seen public protected)
  sound_files ptold public protected all entries = record {
    files = record {
      guards = read.guards;
      schema_is = schema_is ptold;
      table_means = subst (λ (p : PublicView). MeansTable read.columns (files.left table) p meant.secret) (sym all) (read_means _ _ meant (table_is ptold));
    };
    entries = entries;
  }

  pub store_refused : {X : Type 0} (end : End JournalRefusal) (public : PublicView) (protected : Protection) → whole public ≡ meant.public →
      Protects read.columns public read.guards protected →
      (bench.told → EndsBy IsOfBench (λ refusal. StartCause refusal (bench.file at) (secret_table meant.secret protected)) end ×
      ((history : List Answered) → StandsFor (bench.file at) meant.secret.shape history → IsLegal (secret_table meant.secret protected) history →
      IsStop end)) → EndsBy IsOfBench (λ _. ⊤) end → TellsFault bench at later (IsErrOf {T = X} (Err end) (Stopped stop.Bench)) →
      Refuses files bench asked (start_status end) schema later_schema table later_table at later
  store_refused {X} end public protected all entries cause by tells =
      let status = start_status end in
      let name = λ (refusal : JournalRefusal). BadJournal refusal in
      let says = start_says end by in
      let last = says.last in
      let are = λ (ptold : files.told). sound_files ptold public protected all entries in
      record {
        words = says.words asked (comes_too asked opens);
        schema = λ ptold reads. schema_so status _ _ _ last (are ptold).files;
        table = λ ptold reads. table_so status _ _ _ last (are ptold).files;
        public = λ ptold is. not_public asked (opens_too asked opens) is;
        groups = λ ptold reads. groups_so law status _ _ _ last (are ptold);
        file = λ ptold told base given sound.
            let one = one_base law _ _ (seen public protected) base (are ptold) (record {
              files = given;
              entries = subst (λ (b : Bool). OnTrue b (Protects base.columns base.public given.guards base.protected)) grouped sound;
            }) in
            subst (λ (b : Database). FileCause status asked (bench.file at) (table_in b)) one
            (says.file asked (bench.file at) (table_in (seen public protected))
            (EndsBy-weaker end IsOfBench IsOfBench _ _ (λ why is. is) (λ refusal. refused_so refusal asked _ _ opens) (cause told).0));
        own_schema_fault = λ is. subst EndsLastStep is last;
        own_table_fault = λ is. subst EndsLastStep is last;
        early = says.early;
        gives_up = λ ptold told given.
            let all = given_history asked _ _ _ opens given in
            let one = sym (one_base law _ _ (seen public protected) all.0 (are ptold) all.2.files) in
            says.gives_up ((cause (told opens)).1 all.1 (subst (λ (b : Database). StandsFor (bench.file at) b.secret.shape all.1) one all.2.stands)
            (subst (λ (b : Database). IsLegal (table_in b) all.1) one all.2.legal));
        schema_read = unfailed_read files most_schema schema later_schema _ same_schema (λ is. subst EndsLastStep is last);
        table_read = unfailed_read files most_table table later_table _ same_table (λ is. subst EndsLastStep is last);
        bench_fault = told_as bench at later _ _ (λ is. ap (λ (e : Result X (End JournalRefusal)). step_status name e) is)
            (stopped_by {X = X} name (Err end) stop.Bench) tells;
        before_table = past_table _ status last;
        before_bench = past_journal _ status last;
      }

-- ---- both in one

pub same_journal : {X Y : Type 0} (a b : End JournalRefusal) → ◌≡◌ {A = Result X NotStarted} (Err (began.Journal a)) (Err (began.Journal b)) →
    IsErrOf {T = Y} (Err a) b
same_journal a b is = cc

pub same_start : {X Y : Type 0} (a b : End JournalRefusal) → IsErrOf {T = X} (Err a) b →
    ◌≡◌ {A = Result Y NotStarted} (Err (began.Journal a)) (Err (began.Journal b))
same_start a b is = cc

pub not_started : {P B X : Type 0} (files : source.Ghosts P) (bench : Ghosts B) (law : OneListOfEntries) (asked : Command)
    (schema later_schema table later_table : P) (at later : B) (opens : opens_store asked ≡ true) (read : SchemaView) (meant : TableView)
    (schema_is : files.told → schema_of (files.left schema) ≡ Ok read) (table_is : files.told → table_of read.columns (files.left table) ≡ Ok meant)
    (same_schema : files.faults later_schema ≡ files.faults schema) (same_table : files.faults later_table ≡ files.faults table) (fault : NotStarted) →
    ((found : GuardPart) → ◌≡◌ {A = Result X NotStarted} (Err fault) (Err (began.Groups (index.Bad found))) → IsFirstBad read.columns read.guards found) →
    ((end : End JournalRefusal) → ◌≡◌ {A = Result X NotStarted} (Err fault) (Err (began.Journal end)) → (public : PublicView) × (protected : Protection) ×
    (whole public ≡ meant.public) × Protects read.columns public read.guards protected ×
    (bench.told → EndsBy IsOfBench (λ refusal. StartCause refusal (bench.file at) (secret_table meant.secret protected)) end ×
    ((history : List Answered) → StandsFor (bench.file at) meant.secret.shape history → IsLegal (secret_table meant.secret protected) history →
    IsStop end))) → ((end : End JournalRefusal) → ◌≡◌ {A = Result X NotStarted} (Err fault) (Err (began.Journal end)) → EndsBy IsOfBench (λ _. ⊤) end) →
    TellsFault bench at later (IsErrOf {T = X} (Err fault) (began.Journal (Stopped stop.Bench))) →
    ((f : IndexFault) → ◌≡◌ {A = Result X NotStarted} (Err fault) (Err (began.Groups f)) → later ≡ at) →
    Refuses files bench asked (started_status fault) schema later_schema table later_table at later
not_started {P} {B} {X} files bench law asked schema later_schema table later_table at later opens read meant schema_is table_is same_schema same_table
    (began.Groups f) bad cause by tells uncalled =
    let first = λ (found : GuardPart) (is : f ≡ index.Bad found). bad found (ap (λ (g : IndexFault). Err (began.Groups g)) is) in
    subst (λ b. Refuses files bench asked (index_status f) schema later_schema table later_table at b) (sym (uncalled f refl))
    (groups_refused files bench asked schema later_schema table later_table at
    (opens_groups asked (opens_too asked opens)) read schema_is same_schema same_table f first
    (λ ptold reads other is. table_is_ok (λ (cs : List Column). table_of cs (files.left table)) (files.left schema) read other meant (schema_is ptold)
    (table_is ptold) is)
    (λ ptold simulates. not_public asked (opens_too asked opens) simulates)
    (λ ptold told given.
    let all = given_history asked _ _ _ opens given in
    let view : SchemaView = record { columns = all.0.columns; guards = all.2.files.files.guards } in
    group_gives_up law f all.0.columns all.0.public view.guards all.0.protected all.2.files.entries
    (subst (λ (v : SchemaView). (found : GuardPart) → f ≡ index.Bad found → IsFirstBad v.columns v.guards found)
    (same_ok (schema_of (files.left schema)) read view (schema_is ptold) all.2.files.files.schema_is) first)))
not_started {P} {B} {X} files bench law asked schema later_schema table later_table at later opens read meant schema_is table_is same_schema same_table
    (began.Journal end) bad cause by tells uncalled =
    let all = cause end refl in
    store_refused files bench law asked schema later_schema table later_table at later opens read meant schema_is table_is same_schema same_table {X = X} end
    all.0
    all.1 all.2 all.3 all.4 (by end refl)
    (told_as bench at later _ _ (same_journal end (Stopped stop.Bench)) (same_start end (Stopped stop.Bench)) tells)
