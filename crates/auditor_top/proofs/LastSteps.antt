-- What every last step of a command owes, over the objects as the opening left them, and what follows of the whole run.
use Rattle.std.proofs.Common.{◌≡◌, ◌≢◌, ◌+◌, ℕ, Bool, true, false, List, Option, Some, Ok, IsOk, refl, sym, ◌∙◌, ap, subst, inl, inr}
use Rattle.std.proofs.lemmas.Bool.{false≢true, true≢false}
use Rattle.std.specs.Bool.{OnTrue}
use Rattle.audit_types.specs.History.{Protection, Table}
use Rattle.audit_store.specs.Stores.{IsAsLeft, StoreContents}
use Rattle.bench_core.specs.Calls.{IsQuiet, IsUntouched, LeavesOnly, OnlyReads}
use Rattle.bench_core.specs.Causes.{Rose}
use Rattle.bench_core.specs.Moments.{joins, still_quiet}
use Rattle.bench_core.specs.declared.bench.Bench.{Ghosts}
use Rattle.bench_core.specs.declared.source.Source as source
use Rattle.schema_json.specs.Columns.{Column, SchemaView}
use Rattle.schema_json.specs.Reading.{schema_of}
use Rattle.table_load.specs.Database.{Database, secret_table, table_in}
use Rattle.table_load.specs.MeaningLaws.{means_read}
use Rattle.table_load.specs.Tables.{public_of, table_of}
use Rattle.set_index.specs.Groups.{AreSound, Protects}
use Rattle.set_index.specs.Indexed.{OneListOfEntries}
use Rattle.auditor_top.specs.declared.ready.Ready.{Ready}
use Rattle.auditor_top.specs.declared.ready.Ready.TheVariants.{Init, Serve, Twin, Audit, Simulate, Drill, Grow, Explain, Compact, Restore}
use Rattle.auditor_top.specs.declared.words.Command.{Command}
use Rattle.auditor_top.specs.declared.words.Command.TheVariants as command
use Rattle.auditor_top.specs.declared.status.Object.{Object}
use Rattle.auditor_top.specs.declared.status.Object.TheVariants.{Schema, Table as TableFile, Input, Bench, Spare}
use Rattle.auditor_top.specs.declared.status.Status.{Status}
use Rattle.auditor_top.specs.declared.status.Status.TheVariants.{Done, Failed, NoMemory}
use Rattle.auditor_top.specs.Causes.{FileCause, HoldsLegal, InputCause, IsDoneOrWants, IsReadyFor, NothingFailed, SpareCause, TellsFailure, WordCause}
use Rattle.auditor_top.specs.Commands.{AreFilesOf, AreSoundFilesOf, calls_spare, opens_journal, opens_store, reads_files, reads_groups, reads_lines, reads_secrets, writes}
use Rattle.auditor_top.specs.Faults.{stop_status}
use Rattle.auditor_top.specs.Ready.{IsOpened, IsReady, IsReadyOver, command_for}
use Rattle.auditor_top.specs.Runs.{Does, Objects, faults_of, last_failed_of}
use Rattle.auditor_top.specs.Says.{Says}
use Rattle.auditor_top.specs.Stages.{Before, opening_spare, reading_lines}
use Rattle.auditor_top.proofs.Failures.{TellsStop, of_bench, of_input, stop_after, unfailed}
use Rattle.auditor_top.proofs.OneCommand.{none_asked, one_command}
use Rattle.auditor_top.proofs.OneTable.{groups_are_sound, one_base, schema_is_ok, table_is_ok}
use Rattle.auditor_top.proofs.StepStatuses.{EndsLastStep, IsUnrefused, always_before, before_so, groups_read, past_journal, past_table, schema_read, table_read}

-- ---- what a command goes on with

-- the table that it audits; one that makes no group ready says the same of every table
abbrev pub table_for : Ready → Table → Table
table_for (Serve index store batch) any = secret_table store.secret store.protected
table_for (Twin index guarded batch) any = guarded
table_for (Audit schema people store) any = secret_table store.secret store.protected
table_for (Grow guarded) any = guarded
table_for (Explain index store) any = secret_table store.secret index.protected
table_for (Compact store) any = secret_table store.secret store.protected
table_for (Restore guarded) any = guarded
table_for ready any = any

-- it is the one that the files mean
module _ (law : OneListOfEntries) {B : Type 0} (bench : Ghosts B) (now : B) (schema table : List ℕ) where
  one_table : (seen base : Database) → AreSoundFilesOf schema table seen → (files : AreFilesOf schema table base) →
      Protects base.columns base.public files.guards base.protected → table_in seen ≡ table_in base
  one_table seen base are files entries =
      ap (λ (b : Database). table_in b) (one_base law schema table seen base are (record { files = files; entries = entries }))

  pub same_table : (ready : Ready) → IsReady bench now ready → IsReadyOver schema table ready → (base : Database) (files : AreFilesOf schema table base) →
      OnTrue (reads_groups (command_for ready)) (Protects base.columns base.public files.guards base.protected) →
      table_for ready (table_in base) ≡ table_in base
  same_table (Serve index store batch) is over base files entries = one_table _ base over files entries
  same_table (Twin index guarded batch) is over base files entries = one_table _ base over files entries
  same_table (Audit read people store) is over base files entries = one_table _ base over.1 files entries
  same_table (Grow guarded) is over base files entries = one_table _ base over.2 files entries
  same_table (Explain index store) is over base files entries = one_table _ base over files entries
  same_table (Compact store) is over base files entries = one_table _ base over.2 files entries
  same_table (Restore guarded) is over base files entries = one_table _ base over.2 files entries
  same_table ready is over base files entries = refl

  -- of one that opens a journal there is one
  pub a_table : (ready : Ready) → IsReady bench now ready → IsReadyOver schema table ready → opens_journal (command_for ready) ≡ true →
      (base : Database) × AreSoundFilesOf schema table base × ((any : Table) → table_for ready any ≡ table_in base)
  a_table (Serve index store batch) is over opens = (_, over, λ any. refl)
  a_table (Twin index guarded batch) is over opens = (_, over, λ any. refl)
  a_table (Audit read people store) is over opens = (_, over.1, λ any. refl)
  a_table (Grow guarded) is over opens = (_, over.2, λ any. refl)
  a_table (Explain index store) is over opens = (_, over, λ any. refl)
  a_table (Compact store) is over opens = (_, over.2, λ any. refl)
  a_table (Restore guarded) is over opens = (_, over.2, λ any. refl)
  a_table (Init shape) is over opens = absurd (false≢true opens)
  a_table (Simulate index) is over opens = absurd (false≢true opens)
  a_table (Drill number) is over opens = absurd (false≢true opens)

-- what its files say of each of its steps
record AreRead (one : Command) (schema table : List ℕ) : Type 0 where
  schema_ok : reads_files one ≡ true → IsOk (schema_of schema)
  table_ok : reads_secrets one ≡ true → (meant : SchemaView) → schema_of schema ≡ Ok meant → IsOk (table_of meant.columns table)
  public_ok : one ≡ command.Simulate → (meant : SchemaView) → schema_of schema ≡ Ok meant → IsOk (public_of meant.columns table)
  groups_ok : reads_groups one ≡ true → (meant : SchemaView) → schema_of schema ≡ Ok meant → AreSound meant.columns meant.guards

files_read : (one : Command) (schema table : List ℕ) (base : Database) → AreFilesOf schema table base → reads_secrets one ≡ true →
    (reads_groups one ≡ true → (meant : SchemaView) → schema_of schema ≡ Ok meant → AreSound meant.columns meant.guards) → AreRead one schema table
files_read one schema table base are secrets sound = record {
  schema_ok = λ reads. schema_is_ok _ _ are.schema_is;
  table_ok = λ reads meant is.
      table_is_ok (λ (cs : List Column). table_of cs table) _ _ meant _ are.schema_is (means_read are.table_means) is;
  public_ok = λ is. absurd (true≢false (sym secrets ∙ ap reads_secrets is));
  groups_ok = sound;
}

sound_read : OneListOfEntries → (one : Command) (schema table : List ℕ) (base : Database) → AreSoundFilesOf schema table base →
    reads_secrets one ≡ true → AreRead one schema table
sound_read law one schema table base are secrets = files_read one schema table base are.files secrets
    (λ reads meant is. groups_are_sound law _ _ base.public _ base.protected meant are.files.schema_is are.entries is)

are_read : OneListOfEntries → (schema table : List ℕ) (ready : Ready) → IsReadyOver schema table ready → AreRead (command_for ready) schema table
are_read law schema table (Init shape) over = files_read command.Init schema table over.0 over.1 refl
    (λ reads. absurd (false≢true reads))
are_read law schema table (Serve index store batch) over = sound_read law (command.Serve batch false) schema table _ over refl
are_read law schema table (Twin index guarded batch) over = sound_read law (command.Serve batch true) schema table _ over refl
are_read law schema table (Audit read people store) over = sound_read law command.Audit schema table _ over.1 refl
are_read law schema table (Simulate index) over = record {
  schema_ok = λ reads. schema_is_ok _ _ over.schema_is;
  table_ok = λ reads. absurd (false≢true reads);
  public_ok = λ is meant means. table_is_ok (λ (cs : List Column). public_of cs table) _ _ meant _ over.schema_is over.public_is means;
  groups_ok = λ reads meant means. groups_are_sound law _ _ _ _ _ meant over.schema_is over.entries means;
}
are_read law schema table (Drill number) over =
    record {
      schema_ok = λ reads. absurd (false≢true reads);
      table_ok = λ reads. absurd (false≢true reads);
      public_ok = λ is. absurd (false≢true (ap reads_files is));
      groups_ok = λ reads. absurd (false≢true reads);
    }
are_read law schema table (Grow guarded) over = sound_read law command.Grow schema table _ over.2 refl
are_read law schema table (Explain index store) over = sound_read law command.Explain schema table _ over refl
are_read law schema table (Compact store) over = sound_read law command.Compact schema table _ over.2 refl
are_read law schema table (Restore guarded) over = sound_read law command.Restore schema table _ over.2 refl

-- ---- a store that was opened

holds : {B : Type 0} (bench : Ghosts B) (now : B) (store : StoreContents) → IsOpened bench now store → bench.told →
    HoldsLegal (bench.file now) (secret_table store.secret store.protected)
holds bench now store is told = (store.history, (store.journal.gate, is.left told), is.is.legal)

holds_beside : {B : Type 0} (bench : Ghosts B) (now : B) (store : StoreContents) (protected : Protection) → protected ≡ store.protected →
    IsOpened bench now store → bench.told → HoldsLegal (bench.file now) (secret_table store.secret protected)
holds_beside bench now store protected same is told =
    subst (λ (p : Protection). HoldsLegal (bench.file now) (secret_table store.secret p)) (sym same) (holds bench now store is told)

-- the file is one that the command takes
ready_for : {B : Type 0} (bench : Ghosts B) (now : B) (ready : Ready) (any : Table) → IsReady bench now ready → bench.told →
    opens_store (command_for ready) ≡ true → IsReadyFor (command_for ready) (bench.file now) (table_for ready any)
ready_for bench now (Serve index store batch) any is told opens = holds bench now store is.0 told
ready_for bench now (Audit read people store) any is told opens = holds bench now store is.0 told
ready_for bench now (Explain index store) any is told opens = holds_beside bench now store index.protected is.2 is.0 told
ready_for bench now (Compact store) any is told opens = holds bench now store is told
ready_for bench now (Init shape) any is told opens = absurd (false≢true opens)
ready_for bench now (Twin index guarded batch) any is told opens = absurd (false≢true opens)
ready_for bench now (Grow guarded) any is told opens = absurd (false≢true opens)
ready_for bench now ready any is told opens = tt

-- what it stands for, as the opening found it
pub stands_so : {B : Type 0} (bench : Ghosts B) (at opened : B) (store : StoreContents) → IsOpened bench opened store →
    bench.file opened ≡ bench.file at → bench.told → IsAsLeft (bench.file at) store
stands_so bench at opened store is same told = subst (λ (bytes : List ℕ). IsAsLeft bytes store) same (is.left told)

-- ---- the two parts of a run

-- the command goes on, with what was opened for it
pub record GoesOnWith {P I B : Type 0} (files : source.Ghosts P) (bench : Ghosts B) (asked : Option Command) (ready : Ready) (old mid : Objects P I B) :
    Type 0 where
  pub named : asked ≡ Some (command_for ready)
  pub fit : IsReady bench mid.bench ready
  pub over : files.told → IsReadyOver (files.left old.schema) (files.left old.table) ready
  pub reads : OnlyReads bench old.bench mid.bench
  pub steady : (files.faults mid.schema ≡ files.faults old.schema) × (files.faults mid.table ≡ files.faults old.table) ×
      (bench.faults mid.bench ≡ bench.faults old.bench)
  pub unread : reads_files (command_for ready) ≡ false → (mid.schema ≡ old.schema) × (mid.table ≡ old.table)
  pub unopened : opens_store (command_for ready) ≡ false → mid.bench ≡ old.bench
  pub ticks : bench.told → opens_store (command_for ready) ≡ true → bench.moment mid.bench ≡ bench.moment old.bench + 2

pub goes_with : {P I B : Type 0} (files : source.Ghosts P) (bench : Ghosts B) (asked : Option Command) (one : Command) (found ready : Ready)
    (old mid : Objects P I B) → found ≡ ready → command_for found ≡ one → asked ≡ Some one → IsReady bench mid.bench found →
    (files.told → IsReadyOver (files.left old.schema) (files.left old.table) found) → OnlyReads bench old.bench mid.bench →
    (files.faults mid.schema ≡ files.faults old.schema) × (files.faults mid.table ≡ files.faults old.table) ×
    (bench.faults mid.bench ≡ bench.faults old.bench) → (reads_files one ≡ false → (mid.schema ≡ old.schema) × (mid.table ≡ old.table)) →
    (opens_store one ≡ false → mid.bench ≡ old.bench) →
    (bench.told → opens_store one ≡ true → bench.moment mid.bench ≡ bench.moment old.bench + 2) → GoesOnWith files bench asked ready old mid
goes_with files bench asked one found ready old mid is own named fit over reads steady unread unopened ticks =
    let same : one ≡ command_for ready = sym own ∙ ap (λ (r : Ready). command_for r) is in
    record {
      named = named ∙ ap (λ (k : Command). Some k) same;
      fit = subst (λ (r : Ready). IsReady bench mid.bench r) is fit;
      over = λ told. subst (λ (r : Ready). IsReadyOver (files.left old.schema) (files.left old.table) r) is (over told);
      reads = reads;
      steady = steady;
      unread = λ none. unread (ap reads_files same ∙ none);
      unopened = λ none. unopened (ap opens_store same ∙ none);
      ticks = λ told opens. ticks told (ap opens_store same ∙ opens);
    }

-- what its last step owes
pub record StepEnds {P I B : Type 0} (lines : source.Ghosts I) (bench : Ghosts B) (ready : Ready) (status : Status) (mid new : Objects P I B) : Type 0 where
  pub last : EndsLastStep status
  -- the cause of its status; a store's journal was opened before, and is legal
  pub words : WordCause status (Some (command_for ready))
  pub file : bench.told → (table : Table) →
      (opens_store (command_for ready) ≡ true → IsReadyFor (command_for ready) (bench.file mid.bench) (table_for ready table)) →
      FileCause status (command_for ready) (bench.file mid.bench) (table_for ready table)
  pub spare_file : bench.told → calls_spare (command_for ready) ≡ true → SpareCause status (command_for ready) (bench.file mid.spare)
  pub input : lines.told → reads_lines (command_for ready) ≡ true → InputCause status (lines.left mid.input) (lines.left new.input)
  -- the call that failed
  pub tells : TellsStop lines bench (λ why. status ≡ stop_status why) mid.input new.input mid.bench new.bench mid.spare new.spare
  -- what it leaves alone
  pub quiet : bench.told → IsQuiet bench mid.bench → status ≢ Failed Bench → IsQuiet bench new.bench
  pub nothing_began : bench.told → opens_journal (command_for ready) ≡ true → opens_store (command_for ready) ≡ false → IsQuiet bench mid.bench →
      (table : Table) → (IsReadyFor (command_for ready) (bench.file mid.bench) (table_for ready table) → ⊥) →
      LeavesOnly bench mid.bench new.bench (IsUntouched (bench.file mid.bench) (bench.sent mid.bench))
  pub before_lines : Before reading_lines status ((new.input ≡ mid.input) × (bench.sent new.bench ≡ bench.sent mid.bench))
  pub unwritten : bench.told → Before reading_lines status (bench.file new.bench ≡ bench.file mid.bench)
  pub before_spare : calls_spare (command_for ready) ≡ true → (command_for ready ≢ command.Restore) → Before opening_spare status (new.spare ≡ mid.spare)
  pub never_written : bench.told → writes (command_for ready) ≡ false → bench.file new.bench ≡ bench.file mid.bench
  pub no_lines : reads_lines (command_for ready) ≡ false → new.input ≡ mid.input
  pub spare : calls_spare (command_for ready) ≡ false → new.spare ≡ mid.spare

-- a step that isn't refused is done, or a call failed, or memory ran out; so if nothing failed it is done, or there was no memory
pub done_or_wants : {P I B : Type 0} (files : source.Ghosts P) (lines : source.Ghosts I) (bench : Ghosts B) (status : Status) (before after : Objects P I B) →
    IsUnrefused status →
    TellsStop lines bench (λ why. status ≡ stop_status why) before.input after.input before.bench after.bench before.spare after.spare →
    NothingFailed (faults_of files lines bench before) (faults_of files lines bench after) →
    (status ≡ Failed Spare → Rose (bench.faults before.spare) (bench.faults after.spare) → ⊥) → IsDoneOrWants status
done_or_wants files lines bench Done before after unrefused tells none fine = inl refl
done_or_wants files lines bench (Failed Input) before after unrefused tells none fine = absurd (none Input (λ is. cc) (tells.input.failed refl))
done_or_wants files lines bench (Failed Bench) before after unrefused tells none fine = absurd (none Bench (λ is. cc) (tells.bench.failed refl))
done_or_wants files lines bench (Failed Spare) before after unrefused tells none fine = absurd (fine refl (tells.spare.failed refl))
done_or_wants files lines bench NoMemory before after unrefused tells none fine = inr refl
done_or_wants files lines bench status before after unrefused tells none fine = absurd unrefused

-- a status that only a call of another object makes isn't the command's
pub not_of_lines : (one : Command) (status : Status) → reads_lines one ≡ false → WordCause status (Some one) → status ≢ Failed Input
not_of_lines one status none cause is =
    false≢true (sym none ∙ (subst (λ (s : Status). WordCause s (Some one)) is cause))

pub not_of_spare : (one : Command) (status : Status) → calls_spare one ≡ false → WordCause status (Some one) → status ≢ Failed Spare
not_of_spare one status none cause is =
    false≢true (sym none ∙ (subst (λ (s : Status). WordCause s (Some one)) is cause))

-- ---- so it is of the run

-- the clauses of `run` but `lives`, which follows from `does`
pub record Answers {P I B : Type 0} (files : source.Ghosts P) (lines : source.Ghosts I) (bench : Ghosts B) (asked : Option Command) (status : Status)
    (old new : Objects P I B) : Type 0 where
  pub says : Says files lines bench asked status old new
  pub does : (command : Command) → asked ≡ Some command → Does files lines bench command status old new
  pub nothing_began : files.told → bench.told → (command : Command) → asked ≡ Some command → opens_journal command ≡ true → IsQuiet bench old.bench →
      ((base : Database) → AreSoundFilesOf (files.left old.schema) (files.left old.table) base →
      IsReadyFor command (bench.file old.bench) (table_in base) → ⊥) →
      LeavesOnly bench old.bench new.bench (IsUntouched (bench.file old.bench) (bench.sent old.bench))

-- a step is one of the command's or isn't
either_way : {Y : Type 0} (b : Bool) → (b ≡ true → Y) → (b ≡ false → Y) → Y
either_way true one other = one refl
either_way false one other = other refl

module _ {P I B : Type 0} (files : source.Ghosts P) (lines : source.Ghosts I) (bench : Ghosts B) (law : OneListOfEntries) (asked : Option Command)
    (ready : Ready) (status : Status) (old : Objects P I B) (later_schema later_table : P) (opened : B) (input : I) (at spare : B) where
  abbrev mid : Objects P I B
  mid = record { schema = later_schema; table = later_table; input = old.input; bench = opened; spare = old.spare }

  abbrev new : Objects P I B
  new = record { schema = later_schema; table = later_table; input = input; bench = at; spare = spare }

  abbrev one : Command
  one = command_for ready

  module _ (goes : GoesOnWith files bench asked ready old mid) (ends : StepEnds lines bench ready status mid new) where
    same : (other : Command) → asked ≡ Some other → one ≡ other
    same other is = one_command asked one other goes.named is

    -- the file has its cause over every table that the files mean
    file_cause : files.told → bench.told → (base : Database) (given : AreFilesOf (files.left old.schema) (files.left old.table) base) →
        OnTrue (reads_groups one) (Protects base.columns base.public given.guards base.protected) →
        FileCause status one (bench.file old.bench) (table_in base)
    file_cause ptold told base given entries =
        subst (λ (f : List ℕ). FileCause status one f (table_in base)) goes.reads.file
        (subst (λ (t : Table). FileCause status one (bench.file opened) t)
        (same_table law bench opened _ _ ready goes.fit (goes.over ptold) base given entries)
        (ends.file told (table_in base) (ready_for bench opened ready (table_in base) goes.fit told)))

    failures : (object : Object) → TellsFailure (faults_of files lines bench old object) (faults_of files lines bench new object)
        (last_failed_of files lines bench new object) (status ≡ Failed object)
    failures Schema = unfailed _ _ _ _ goes.steady.0 (λ is. subst EndsLastStep is ends.last)
    failures TableFile = unfailed _ _ _ _ goes.steady.1 (λ is. subst EndsLastStep is ends.last)
    failures Input = of_input ends.tells.input
    failures Bench = of_bench (stop_after bench at goes.steady.2 ends.tells).bench
    failures Spare = of_bench ends.tells.spare

    pub after_step : Says files lines bench asked status old new
    after_step = record {
      words = subst (λ (k : Option Command). WordCause status k) (sym goes.named) ends.words;
      schema = λ ptold other is reads.
          schema_read status _ ends.last ((are_read law _ _ ready (goes.over ptold)).schema_ok (ap reads_files (same other is) ∙ reads));
      table = λ ptold other is reads meant means.
          table_read status _ ends.last ((are_read law _ _ ready (goes.over ptold)).table_ok (ap reads_secrets (same other is) ∙ reads) meant means);
      public = λ ptold is meant means.
          table_read status _ ends.last ((are_read law _ _ ready (goes.over ptold)).public_ok (same command.Simulate is) meant means);
      groups = λ ptold other is reads meant means.
          groups_read status _ _ ends.last ((are_read law _ _ ready (goes.over ptold)).groups_ok (ap reads_groups (same other is) ∙ reads) meant means);
      own_schema_fault = λ is. subst EndsLastStep is ends.last;
      own_table_fault = λ is. subst EndsLastStep is ends.last;
      file = λ ptold told other is base given entries.
          subst (λ (k : Command). FileCause status k (bench.file old.bench) (table_in base)) (same other is) (file_cause ptold told base given
          (subst (λ (k : Command). OnTrue (reads_groups k) (Protects base.columns base.public given.guards base.protected)) (sym (same other is)) entries));
      spare_file = λ told other is calls.
          subst (λ (k : Command). SpareCause status k (bench.file old.spare)) (same other is)
          (ends.spare_file told (ap calls_spare (same other is) ∙ calls));
      input = λ itold other is reads. ends.input itold (ap reads_lines (same other is) ∙ reads);
      faults = failures;
      schema_within = λ ptold is. absurd (subst EndsLastStep is ends.last);
      table_within = λ ptold is. absurd (subst EndsLastStep is ends.last);
      quiet = λ told quiet. ends.quiet told (still_quiet bench old.bench opened goes.reads quiet);
      before_table = past_table _ status ends.last;
      before_bench = past_journal _ status ends.last;
      before_lines = before_so reading_lines status (λ same. (same.0, same.1 ∙ goes.reads.sent)) ends.before_lines;
      unwritten = λ told. before_so reading_lines status (λ same. same ∙ goes.reads.file) (ends.unwritten told);
      before_spare = λ other. either_way (calls_spare one)
          (λ calls. ends.before_spare calls (λ is. other (goes.named ∙ ap (λ (k : Command). Some k) is)))
          (λ none. always_before opening_spare status (ends.spare none));
      unread = λ none. none_asked _ _ none goes.named;
      no_files = λ other is none. goes.unread (ap reads_files (same other is) ∙ none);
      no_lines = λ other is none. ends.no_lines (ap reads_lines (same other is) ∙ none);
      never_written = λ told other is none. ends.never_written told (ap writes (same other is) ∙ none) ∙ goes.reads.file;
      spare = λ other is none. ends.spare (ap calls_spare (same other is) ∙ none);
    }

    -- over any other file nothing began
    pub nothing_begun : files.told → bench.told → (other : Command) → asked ≡ Some other → opens_journal other ≡ true → IsQuiet bench old.bench →
        ((base : Database) → AreSoundFilesOf (files.left old.schema) (files.left old.table) base → IsReadyFor other (bench.file old.bench) (table_in base) →
        ⊥) →
        LeavesOnly bench old.bench at (IsUntouched (bench.file old.bench) (bench.sent old.bench))
    nothing_begun ptold told other is opens quiet none =
        let opens_one : opens_journal one ≡ true = ap opens_journal (same other is) ∙ opens in
        let known = a_table law bench opened _ _ ready goes.fit (goes.over ptold) opens_one in
        let table = table_in known.0 in
        let unready : (IsReadyFor one (bench.file opened) (table_for ready table) → ⊥) = λ for.
        none known.0 known.1 (subst (λ (k : Command). IsReadyFor k (bench.file old.bench) table) (same other is)
        (subst (λ (f : List ℕ). IsReadyFor one f table) goes.reads.file
        (subst (λ (t : Table). IsReadyFor one (bench.file opened) t) (known.2 table) for))) in
        joins bench old.bench opened at (IsUntouched (bench.file old.bench) (bench.sent old.bench)) (goes.reads.untouched quiet)
        (subst (λ (f : List ℕ). LeavesOnly bench opened at (IsUntouched f (bench.sent old.bench))) goes.reads.file
        (subst (λ (bytes : List ℕ). LeavesOnly bench opened at (IsUntouched (bench.file opened) bytes)) goes.reads.sent
        (either_way (opens_store one) (λ store. absurd (unready (ready_for bench opened ready table goes.fit told store)))
        (λ none. ends.nothing_began told opens_one none (still_quiet bench old.bench opened goes.reads quiet) table unready))))

    -- with the record of the command, these are the clauses of `run` but `lives`
    pub answers : {result : Status} → result ≡ status → Does files lines bench one status old new → Answers files lines bench asked result old new
    answers is does = subst (λ (s : Status). Answers files lines bench asked s old new) (sym is) (record {
      says = after_step;
      does = λ other named. subst (λ (k : Command). Does files lines bench k status old new) (same other named) does;
      nothing_began = nothing_begun;
    })
