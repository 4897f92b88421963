-- What is said of a run that ends before its command's last step: arguments that are no command, no memory for them, or a refusal.
use Rattle.std.proofs.Common.{◌≡◌, false, Option, Some, refl, sym, ◌∙◌, ap, subst}
use Rattle.std.specs.Bool.{OnTrue}
use Rattle.bench_core.specs.Calls.{OnlyReads}
use Rattle.bench_core.specs.Moments.{still_quiet}
use Rattle.bench_core.specs.declared.bench.Bench.{Ghosts}
use Rattle.bench_core.specs.declared.source.Source as source
use Rattle.set_index.specs.Groups.{Protects}
use Rattle.table_load.specs.Database.{table_in}
use Rattle.auditor_top.specs.declared.words.Command.{Command}
use Rattle.auditor_top.specs.declared.words.Command.TheVariants as command
use Rattle.auditor_top.specs.declared.status.Object.{Object}
use Rattle.auditor_top.specs.declared.status.Object.TheVariants.{Schema, Table, Input, Bench, Spare}
use Rattle.auditor_top.specs.declared.status.Status.{Status}
use Rattle.auditor_top.specs.declared.status.Status.TheVariants.{Failed}
use Rattle.auditor_top.specs.Causes.{FileCause, TellsFailure, WordCause}
use Rattle.auditor_top.specs.Commands.{reads_files, reads_groups, reads_secrets}
use Rattle.auditor_top.specs.Ready.{EndsEarly, Refuses}
use Rattle.auditor_top.specs.Runs.{Objects, faults_of, last_failed_of}
use Rattle.auditor_top.specs.Says.{Says}
use Rattle.auditor_top.specs.Stages.{opening_journal, opening_spare, reading_lines, reading_table}
use Rattle.auditor_top.proofs.Failures.{of_bench, of_file, unfailed}
use Rattle.auditor_top.proofs.OneCommand.{none_asked, one_command}
use Rattle.auditor_top.proofs.SpareCauses.{spare_unread}
use Rattle.auditor_top.proofs.StepStatuses.{IsNoStep, always_before, reads_nothing}

-- nothing was called
pub after_nothing : {P I B : Type 0} (files : source.Ghosts P) (lines : source.Ghosts I) (bench : Ghosts B) (asked : Option Command) (status : Status)
    (at : Objects P I B) → IsNoStep status → WordCause status asked → Says files lines bench asked status at at
after_nothing files lines bench asked status at none words = record {
  words = words;
  schema = λ ptold other named reads. none.schema _;
  table = λ ptold other named reads meant is. none.table _;
  public = λ ptold named meant is. none.table _;
  groups = λ ptold other named reads meant is. none.groups _ _;
  own_schema_fault = none.own_schema;
  own_table_fault = none.own_table;
  file = λ ptold told other named base given entries. none.file other _ _;
  spare_file = λ told other named calls. none.spare_file other _;
  input = λ itold other named reads. none.input _;
  faults = λ object. unfailed _ _ _ _ refl (none.unfailed object);
  schema_within = λ ptold is. absurd (none.unfailed Schema is);
  table_within = λ ptold is. absurd (none.unfailed Table is);
  quiet = λ told quiet fine. quiet;
  before_table = always_before reading_table status refl;
  before_bench = always_before opening_journal status refl;
  before_lines = always_before reading_lines status (refl, refl);
  unwritten = λ told. always_before reading_lines status refl;
  before_spare = λ other. always_before opening_spare status refl;
  unread = λ none. (refl, refl, refl, refl, refl);
  no_files = λ other named none. (refl, refl);
  no_lines = λ other named none. refl;
  never_written = λ told other named none. refl;
  spare = λ other named none. refl;
}

-- the command was refused: which call failed
pub refused_failures : {P I B : Type 0} (files : source.Ghosts P) (lines : source.Ghosts I) (bench : Ghosts B) (one : Command) (status : Status)
    (old : Objects P I B) (later_schema later_table : P) (opened : B) →
    Refuses files bench one status old.schema later_schema old.table later_table old.bench opened →
    (let new : Objects P I B = record { schema = later_schema; table = later_table; input = old.input; bench = opened; spare = old.spare } in
    (object : Object) → TellsFailure (faults_of files lines bench old object) (faults_of files lines bench new object)
    (last_failed_of files lines bench new object) (status ≡ Failed object))
refused_failures files lines bench one status old later_schema later_table opened refuses Schema = of_file refuses.schema_read
refused_failures files lines bench one status old later_schema later_table opened refuses Table = of_file refuses.table_read
refused_failures files lines bench one status old later_schema later_table opened refuses Input =
    unfailed _ _ _ _ refl (λ is. subst EndsEarly is refuses.early)
refused_failures files lines bench one status old later_schema later_table opened refuses Bench = of_bench refuses.bench_fault
refused_failures files lines bench one status old later_schema later_table opened refuses Spare =
    unfailed _ _ _ _ refl (λ is. subst EndsEarly is refuses.early)

-- and all that is said of it
pub after_refusal : {P I B : Type 0} (files : source.Ghosts P) (lines : source.Ghosts I) (bench : Ghosts B) (asked : Option Command) (one : Command)
    (status : Status) (old : Objects P I B) (later_schema later_table : P) (opened : B) → asked ≡ Some one →
    Refuses files bench one status old.schema later_schema old.table later_table old.bench opened → OnlyReads bench old.bench opened →
    (reads_files one ≡ false → (later_schema ≡ old.schema) × (later_table ≡ old.table)) →
    Says files lines bench asked status old
    (record { schema = later_schema; table = later_table; input = old.input; bench = opened; spare = old.spare })
after_refusal files lines bench asked one status old later_schema later_table opened named refuses reads unread =
    let same : ((other : Command) → asked ≡ Some other → one ≡ other) = λ other is. one_command asked one other named is in
    record {
      words = subst (λ (k : Option Command). WordCause status k) (sym named) refuses.words;
      schema = λ ptold other is takes. refuses.schema ptold (ap reads_files (same other is) ∙ takes);
      table = λ ptold other is takes. refuses.table ptold (ap reads_secrets (same other is) ∙ takes);
      public = λ ptold is. refuses.public ptold (same command.Simulate is);
      groups = λ ptold other is takes. refuses.groups ptold (ap reads_groups (same other is) ∙ takes);
      own_schema_fault = refuses.own_schema_fault;
      own_table_fault = refuses.own_table_fault;
      file = λ ptold told other is base given entries.
          subst (λ (k : Command). FileCause status k (bench.file old.bench) (table_in base)) (same other is) (refuses.file ptold told base given
          (subst (λ (k : Command). OnTrue (reads_groups k) (Protects base.columns base.public given.guards base.protected)) (sym (same other is)) entries));
      spare_file = λ told other is calls. spare_unread status other (bench.file old.spare) refuses.early;
      input = λ itold other is takes. reads_nothing status (lines.left old.input) refuses.early;
      faults = refused_failures files lines bench one status old later_schema later_table opened refuses;
      schema_within = λ ptold. refuses.schema_read.within ptold;
      table_within = λ ptold. refuses.table_read.within ptold;
      quiet = λ told quiet fine. still_quiet bench old.bench opened reads quiet;
      before_table = refuses.before_table;
      before_bench = refuses.before_bench;
      before_lines = always_before reading_lines status (refl, reads.sent);
      unwritten = λ told. always_before reading_lines status reads.file;
      before_spare = λ other. always_before opening_spare status refl;
      unread = λ none. none_asked _ _ none named;
      no_files = λ other is none. unread (ap reads_files (same other is) ∙ none);
      no_lines = λ other is none. refl;
      never_written = λ told other is none. reads.file;
      spare = λ other is none. refl;
    }
