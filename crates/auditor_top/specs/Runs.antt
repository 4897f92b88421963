-- What a run of each command does, by its status, and by the objects that it is handed: as they were and as they are left.
use Rattle.std.specs.Prelude.{◌≡◌, ◌≢◌, ◌≤◌, ◌+◌, ◌⊎◌, List, [], ◌++◌, ℕ, Bool, true, false, length}
use Rattle.audit_types.specs.declared.records.Answered.{Answered}
use Rattle.audit_types.specs.History.{IsLegal, IsUndisclosed}
use Rattle.audit_types.specs.Widening.{over}
use Rattle.bench_core.specs.declared.bench.Bench.{Ghosts}
use Rattle.bench_core.specs.declared.source.Source as source
use Rattle.bench_core.specs.Calls.{IsQuiet, IsUntouched, LeavesOnly}
use Rattle.set_index.specs.Indexed.{IndexView, public_setting}
use Rattle.table_load.specs.Database.{Database, table_in}
use Rattle.journal_form.specs.Journal.{StandsFor}
use Rattle.answer_journal.specs.Make.{calls_to_make}
use Rattle.answer_journal.specs.Moments.{IsAlready, IsMade, IsBeforeOrGrown, IsUnmadeOrWhole}
use Rattle.line_wire.specs.Lines.{counted_lines, most_input}
use Rattle.line_wire.specs.Talks.{TalksMeanwhile}
use Rattle.question_plan.specs.Session.{Replied}
use Rattle.audit_session.specs.Ends.{KeepsCalls, TakesCalls}
use Rattle.audit_session.specs.Stops.{IsFront, StopsOver}
use Rattle.audit_session.specs.Lives.{IsLife, Run, Standing, shape_in, serves}
use Rattle.journal_audit.specs.Reports.{SendsMeanwhile, TakesOneEach}
use Rattle.certificate_lines.specs.Explained.{explanations}
use Rattle.transcript_sim.specs.Ends.{simulation}
use Rattle.transcript_sim.specs.Verdicts.{AreVerdicts, exchanges}
use Rattle.auditor_top.specs.declared.words.Command.{Command}
use Rattle.auditor_top.specs.declared.words.Command.TheVariants.{Init, Serve, Audit, Simulate, Drill, Grow, Explain, Compact, Restore}
use Rattle.auditor_top.specs.declared.status.Object.{Object}
use Rattle.auditor_top.specs.declared.status.Object.TheVariants.{Schema, Table, Input, Bench, Spare}
use Rattle.auditor_top.specs.declared.status.Status.{Status}
use Rattle.auditor_top.specs.declared.status.Status.TheVariants.{Done, Failed, NoMemory}
use Rattle.bench_core.specs.Causes.{Rose}
use Rattle.journal_compact.specs.Compactions.{IsUnmadeOrKept, SendsCounts}
use Rattle.auditor_top.specs.Compactions.{CompactEnds, DecideAlike}
use Rattle.twin_journal.specs.Restoring.{CanRestore, IsLost, IsLostOf, Restored, StandForTheSame, TakeCalls}
use Rattle.twin_journal.specs.Twins.{CatchesUpOrStops, SpareCatchesUpOrStops, calls_to_open}
use Rattle.auditor_top.specs.Stages.{Before, opening_journal, reading_lines}
use Rattle.auditor_top.specs.Twins.{LeavesTwins, TwinEnds}
use Rattle.auditor_top.specs.Causes.{BeginningCause, BothCause, NothingFailed, IsDoneOrWants}
use Rattle.auditor_top.specs.Commands.{AreFilesOf, ArePublicFilesOf, AreSoundFilesOf, GoesOnOver, GrowsOver, ServesOver, SimulatesOver, TwinsOver}
use Rattle.auditor_top.specs.Promise.{GoesOn}
use Rattle.auditor_top.specs.Drills.{DrillEnds}
use Rattle.auditor_top.specs.Ends.{AuditEnds, GrowEnds, LeavesFile, ServeEnds, SendsTexts, SimulateEnds, TalkEnds, audit_over, subjects_over, outside, public_part}

-- the objects that a run is handed
pub record Objects (P I B : Type 0) : Type 0 where
  pub schema : P
  pub table : P
  pub input : I
  pub bench : B
  pub spare : B

abbrev pub objects : {P I B : Type 0} → P → P → I → B → B → Objects P I B
objects schema table input bench spare = record { schema = schema; table = table; input = input; bench = bench; spare = spare }

-- how often each of them has failed
abbrev pub faults_of : {P I B : Type 0} → source.Ghosts P → source.Ghosts I → Ghosts B → Objects P I B → Object → ℕ
faults_of files lines bench at Schema = files.faults at.schema
faults_of files lines bench at Table = files.faults at.table
faults_of files lines bench at Input = lines.faults at.input
faults_of files lines bench at Bench = bench.faults at.bench
faults_of files lines bench at Spare = bench.faults at.spare

-- and whether its last call failed
abbrev pub last_failed_of : {P I B : Type 0} → source.Ghosts P → source.Ghosts I → Ghosts B → Objects P I B → Object → Bool
last_failed_of files lines bench at Schema = files.last_failed at.schema
last_failed_of files lines bench at Table = files.last_failed at.table
last_failed_of files lines bench at Input = lines.last_failed at.input
last_failed_of files lines bench at Bench = bench.last_failed at.bench
last_failed_of files lines bench at Spare = bench.last_failed at.spare

-- a run of `serve`
pub record Serving {P I B : Type 0} (files : source.Ghosts P) (lines : source.Ghosts I) (bench : Ghosts B) (batch : ℕ) (status : Status)
    (old new : Objects P I B) : Type 0 where
  -- over the files of a table and a journal that stands for a legal history of it: which lines were answered, what was sent
  -- and what the file stands for, at each end
  pub served : files.told → lines.told → bench.told → (base : Database) (history : List Answered) →
      ServesOver (files.left old.schema) (files.left old.table) (bench.file old.bench) base history →
      ServeEnds batch status base history (outside lines bench old.input old.bench) (outside lines bench new.input new.bench)
  -- at every moment it is a stop: the image of the file that a crash leaves stands for the history with the records of some
  -- groups of lines, and their replies were sent, those of the last group maybe in part
  pub any_moment : files.told → lines.told → bench.told → IsQuiet bench old.bench → (base : Database) (history : List Answered) →
      ServesOver (files.left old.schema) (files.left old.table) (bench.file old.bench) base history →
      LeavesOnly bench old.bench new.bench (StopsOver base batch history (counted_lines (lines.left old.input)) (bench.sent old.bench))
  -- every history that a crash at any moment leaves is legal for the table, and discloses no secret of it, whatever the input is
  pub undisclosed : files.told → bench.told → IsQuiet bench old.bench → (base : Database) (history : List Answered) →
      ServesOver (files.left old.schema) (files.left old.table) (bench.file old.bench) base history →
      (image sent : List ℕ) (now : List Answered) → bench.since new.bench (bench.moment old.bench) image sent → StandsFor image base.secret.shape now →
      IsLegal (table_in base) now × IsUndisclosed (table_in base) now
  -- it took two calls of the bench to open the journal, one for each line, and four for each group in which some reply makes a record
  pub serve_calls : files.told → lines.told → bench.told → status ≡ Done → (base : Database) (history : List Answered) →
      ServesOver (files.left old.schema) (files.left old.table) (bench.file old.bench) base history →
      TakesCalls base history batch (counted_lines (lines.left old.input)) (bench.moment old.bench + 2) (bench.moment new.bench)
  -- if nothing is wrong and nothing fails, it is done
  pub complete : files.told → lines.told → bench.told → (base : Database) (history : List Answered) →
      ServesOver (files.left old.schema) (files.left old.table) (bench.file old.bench) base history →
      length (lines.left old.input) ≤ most_input → NothingFailed (faults_of files lines bench old) (faults_of files lines bench new) → IsDoneOrWants status

-- a run of `audit`
pub record Auditing {P I B : Type 0} (files : source.Ghosts P) (lines : source.Ghosts I) (bench : Ghosts B) (status : Status) (old new : Objects P I B) : Type 0 where
  -- over the files of a table and a journal that stands for a legal history of it: the report of the history was sent, or a
  -- front of it, at the end and at every moment
  pub audited : files.told → bench.told → (base : Database) (history : List Answered) →
      ServesOver (files.left old.schema) (files.left old.table) (bench.file old.bench) base history →
      AuditEnds status base history (bench.sent old.bench) (bench.sent new.bench)
  pub auditing : files.told → bench.told → IsQuiet bench old.bench → (base : Database) (history : List Answered) →
      ServesOver (files.left old.schema) (files.left old.table) (bench.file old.bench) base history →
      LeavesOnly bench old.bench new.bench (SendsMeanwhile (audit_over base history) (subjects_over base) (bench.file old.bench) (bench.sent old.bench))
  -- it took two calls of the bench to open the journal, and one for each line of the report
  pub audit_calls : files.told → bench.told → status ≡ Done → (base : Database) (history : List Answered) →
      ServesOver (files.left old.schema) (files.left old.table) (bench.file old.bench) base history →
      TakesOneEach (audit_over base history) (subjects_over base) (bench.moment old.bench + 2) (bench.moment new.bench)
  -- if nothing is wrong and nothing fails, it is done
  pub audits : files.told → bench.told → (base : Database) (history : List Answered) →
      ServesOver (files.left old.schema) (files.left old.table) (bench.file old.bench) base history →
      NothingFailed (faults_of files lines bench old) (faults_of files lines bench new) → IsDoneOrWants status

-- a run of `simulate`
pub record Simulating {P I B : Type 0} (files : source.Ghosts P) (lines : source.Ghosts I) (bench : Ghosts B) (status : Status)
    (old new : Objects P I B) : Type 0 where
  -- over a schema, the public part of a table, and a journal that gives a history to begin with: a verdict for each question of the input,
  -- after that history; their lines were sent, or a front of them, at the end and at every moment
  pub simulated : files.told → lines.told → bench.told → (index : IndexView) (history : List Answered) →
      SimulatesOver (files.left old.schema) (files.left old.table) (bench.file old.bench) index history →
      (verdicts : List (Replied Answered)) × SimulateEnds status index history (lines.left old.input) (lines.left new.input) verdicts ×
      SendsTexts (simulation index history) status verdicts (bench.sent old.bench) (bench.sent new.bench)
  pub simulating : files.told → bench.told → IsQuiet bench old.bench → (index : IndexView) (history : List Answered) →
      SimulatesOver (files.left old.schema) (files.left old.table) (bench.file old.bench) index history →
      LeavesOnly bench old.bench new.bench
      (TalksMeanwhile lines.told (simulation index history) (counted_lines (lines.left old.input)) (bench.file old.bench) (bench.sent old.bench))
  -- each refusal of the journal has its cause in the file, and no run comes to the lines over one that gives no history
  pub cause : files.told → bench.told → (index : IndexView) →
      ArePublicFilesOf (files.left old.schema) (files.left old.table) index →
      BeginningCause status (bench.file old.bench) (public_setting index)
  -- the file stays, over whatever files
  pub undisturbed : bench.told → IsQuiet bench old.bench → LeavesOnly bench old.bench new.bench (LeavesFile (bench.file old.bench))
  -- over any other files nothing began
  pub untouched : files.told → bench.told → IsQuiet bench old.bench →
      ((index : IndexView) (history : List Answered) →
      SimulatesOver (files.left old.schema) (files.left old.table) (bench.file old.bench) index history → ⊥) →
      LeavesOnly bench old.bench new.bench (IsUntouched (bench.file old.bench) (bench.sent old.bench))
  -- it took two calls of the bench to open the journal, and one for each question
  pub simulate_calls : lines.told → bench.told → status ≡ Done →
      bench.moment new.bench ≡ bench.moment old.bench + 2 + length (exchanges (counted_lines (lines.left old.input)))
  -- if nothing is wrong, all replies agree and nothing fails, it is done
  pub simulates : files.told → lines.told → bench.told → (index : IndexView) (history : List Answered) →
      SimulatesOver (files.left old.schema) (files.left old.table) (bench.file old.bench) index history → (verdicts : List (Replied Answered)) →
      AreVerdicts index history (counted_lines (lines.left old.input)) verdicts → length (lines.left old.input) ≤ most_input →
      NothingFailed (faults_of files lines bench old) (faults_of files lines bench new) → IsDoneOrWants status

-- a run of `init`
pub record Making {P I B : Type 0} (files : source.Ghosts P) (lines : source.Ghosts I) (bench : Ghosts B) (status : Status) (old new : Objects P I B) : Type 0 where
  -- it makes a journal that stands for the empty history, and sends nothing
  pub made : files.told → bench.told → status ≡ Done → (base : Database) → AreFilesOf (files.left old.schema) (files.left old.table) base →
      StandsFor (bench.file new.bench) base.secret.shape []
  pub kept : bench.told → status ≢ Done → status ≢ Failed Bench → bench.file new.bench ≡ bench.file old.bench
  pub unsent : bench.sent new.bench ≡ bench.sent old.bench
  -- at every moment the file is the one that was there already, or no made journal, or stands for the empty history
  pub untouched : bench.told → IsAlready (bench.file old.bench) → IsQuiet bench old.bench →
      LeavesOnly bench old.bench new.bench (IsUntouched (bench.file old.bench) (bench.sent old.bench))
  pub making : files.told → bench.told → ¬ (IsAlready (bench.file old.bench)) → IsQuiet bench old.bench → (base : Database) →
      AreFilesOf (files.left old.schema) (files.left old.table) base →
      LeavesOnly bench old.bench new.bench (IsUnmadeOrWhole base.secret.shape [] (bench.sent old.bench))
  pub unmade : status ≡ NoMemory → new.bench ≡ old.bench
  -- it took seven calls of the bench, or six over a file of 21 bytes
  pub init_calls : bench.told → status ≡ Done → bench.moment new.bench ≡ bench.moment old.bench + calls_to_make (bench.file old.bench)
  -- if nothing is wrong and nothing fails, it is done
  pub makes : files.told → bench.told → (base : Database) → AreFilesOf (files.left old.schema) (files.left old.table) base →
      ¬ (IsAlready (bench.file old.bench)) → NothingFailed (faults_of files lines bench old) (faults_of files lines bench new) → IsDoneOrWants status

-- a run of `drill`
pub record Drilling {P I B : Type 0} (files : source.Ghosts P) (lines : source.Ghosts I) (bench : Ghosts B) (number : ℕ) (status : Status)
    (old new : Objects P I B) : Type 0 where
  -- it sends the summary of the replies that are due to the drill's lines, or a front of it
  pub drilled : bench.told → DrillEnds status number (bench.sent old.bench) (bench.sent new.bench)
  -- that is one call of the bench, at most one if it failed, and none if memory ran out
  pub drill_calls : bench.told → status ≡ Done → bench.moment new.bench ≡ bench.moment old.bench + 1
  pub drill_call : bench.moment new.bench ≤ bench.moment old.bench + 1
  pub undrilled : status ≡ NoMemory → new.bench ≡ old.bench
  -- if nothing fails, it is done
  pub drills : NothingFailed (faults_of files lines bench old) (faults_of files lines bench new) → IsDoneOrWants status

-- a run of `grow`
pub record Growing {P I B : Type 0} (files : source.Ghosts P) (lines : source.Ghosts I) (bench : Ghosts B) (status : Status) (old new : Objects P I B) : Type 0 where
  -- over the files of a table and a journal that stands for a history over fewer rows, which is legal over all of them: what the
  -- file stands for, at the end and at every moment
  pub grown : files.told → bench.told → (base : Database) (rows : ℕ) (history : List Answered) →
      GrowsOver (files.left old.schema) (files.left old.table) (bench.file old.bench) base rows history →
      GrowEnds status base history (bench.file old.bench) (bench.file new.bench)
  pub growing : files.told → bench.told → IsQuiet bench old.bench → (base : Database) (rows : ℕ) (history : List Answered) →
      GrowsOver (files.left old.schema) (files.left old.table) (bench.file old.bench) base rows history →
      LeavesOnly bench old.bench new.bench (IsBeforeOrGrown (over rows base.secret.shape) history base.secret.shape.rows (bench.sent old.bench))
  -- nothing is sent, and the file is written only if it is done, or if the bench failed
  pub unsent : bench.sent new.bench ≡ bench.sent old.bench
  pub kept : status ≢ Done → status ≢ Failed Bench → bench.file new.bench ≡ bench.file old.bench
  -- it took two calls of the bench to open the journal, and four for the growth
  pub grow_calls : bench.told → status ≡ Done → bench.moment new.bench ≡ bench.moment old.bench + 6
  -- if nothing is wrong and nothing fails, it is done
  pub grows : files.told → bench.told → (base : Database) (rows : ℕ) (history : List Answered) →
      GrowsOver (files.left old.schema) (files.left old.table) (bench.file old.bench) base rows history →
      NothingFailed (faults_of files lines bench old) (faults_of files lines bench new) → IsDoneOrWants status

-- a run of `explain`
pub record Explaining {P I B : Type 0} (files : source.Ghosts P) (lines : source.Ghosts I) (bench : Ghosts B) (status : Status)
    (old new : Objects P I B) : Type 0 where
  -- over the files of a table and a journal that stands for a legal history of it: which lines of the input were explained, each
  -- after this history, and that what is due to them was sent, or a front of it, at the end and at every moment
  pub explained : files.told → lines.told → bench.told → (base : Database) (history : List Answered) →
      ServesOver (files.left old.schema) (files.left old.table) (bench.file old.bench) base history →
      (certificates : List (List ℕ)) ×
      TalkEnds (explanations (public_part base) history) status (lines.left old.input) (lines.left new.input) certificates ×
      SendsTexts (explanations (public_part base) history) status certificates (bench.sent old.bench) (bench.sent new.bench)
  pub explaining : files.told → bench.told → IsQuiet bench old.bench → (base : Database) (history : List Answered) →
      ServesOver (files.left old.schema) (files.left old.table) (bench.file old.bench) base history →
      LeavesOnly bench old.bench new.bench
      (TalksMeanwhile lines.told (explanations (public_part base) history) (counted_lines (lines.left old.input)) (bench.file old.bench)
      (bench.sent old.bench))
  -- the file stays, over whatever files
  pub undisturbed : bench.told → IsQuiet bench old.bench → LeavesOnly bench old.bench new.bench (LeavesFile (bench.file old.bench))
  -- it took two calls of the bench to open the journal, and one for each line
  pub explain_calls : lines.told → bench.told → status ≡ Done →
      bench.moment new.bench ≡ bench.moment old.bench + 2 + length (counted_lines (lines.left old.input))
  -- if nothing is wrong and nothing fails, it is done
  pub explains : files.told → lines.told → bench.told → (base : Database) (history : List Answered) →
      ServesOver (files.left old.schema) (files.left old.table) (bench.file old.bench) base history →
      length (lines.left old.input) ≤ most_input → NothingFailed (faults_of files lines bench old) (faults_of files lines bench new) → IsDoneOrWants status

-- a run of `compact`
pub record Compacting {P I B : Type 0} (files : source.Ghosts P) (lines : source.Ghosts I) (bench : Ghosts B) (status : Status) (old new : Objects P I B) : Type 0 where
  -- over the files of a table and a journal that stands for a legal history of it: the line on what is kept was sent, or a front of
  -- it, and the spare stood for what is kept before the first byte, and held it whole
  pub compacted : files.told → bench.told → (base : Database) (history : List Answered) →
      ServesOver (files.left old.schema) (files.left old.table) (bench.file old.bench) base history →
      CompactEnds status base.secret.shape history (bench.file old.spare) (bench.file new.spare) (bench.sent old.bench) (bench.sent new.bench)
  -- at every moment the spare isn't made, or stands for what is kept; a crash once it is done leaves what it reads
  pub compacting : files.told → bench.told → (IsMade (bench.file old.spare) → ⊥) → IsQuiet bench old.spare → (base : Database) (history : List Answered) →
      ServesOver (files.left old.schema) (files.left old.table) (bench.file old.bench) base history →
      LeavesOnly bench old.spare new.spare (IsUnmadeOrKept base.secret.shape history (bench.sent old.spare))
  pub stable : bench.told → status ≡ Done → IsQuiet bench new.spare
  pub unsent_yet : status ≡ Failed Spare → bench.sent new.bench ≡ bench.sent old.bench
  -- so every journal that a crash at any moment leaves there is legal for the table, and decides every question as the history does
  pub alike : files.told → bench.told → (IsMade (bench.file old.spare) → ⊥) → IsQuiet bench old.spare → (base : Database) (history : List Answered) →
      ServesOver (files.left old.schema) (files.left old.table) (bench.file old.bench) base history →
      (image sent : List ℕ) (found : List Answered) → bench.since new.spare (bench.moment old.spare) image sent → IsMade image →
      StandsFor image base.secret.shape found → DecideAlike (table_in base) history found
  -- the journal's own file stays at every moment, and fronts of the line are all that is sent
  pub sending : files.told → bench.told → IsQuiet bench old.bench → (base : Database) (history : List Answered) →
      ServesOver (files.left old.schema) (files.left old.table) (bench.file old.bench) base history →
      LeavesOnly bench old.bench new.bench (SendsCounts base.secret.shape history (bench.file old.bench) (bench.sent old.bench))
  pub undisturbed : bench.told → IsQuiet bench old.bench → LeavesOnly bench old.bench new.bench (LeavesFile (bench.file old.bench))
  -- a journal that is made on the spare stays at every moment, and nothing is sent
  pub kept : bench.told → IsMade (bench.file old.spare) → (bench.sent new.bench ≡ bench.sent old.bench) × (bench.file new.spare ≡ bench.file old.spare)
  pub untouched : bench.told → IsMade (bench.file old.spare) → IsQuiet bench old.spare →
      LeavesOnly bench old.spare new.spare (IsUntouched (bench.file old.spare) (bench.sent old.spare))
  pub unsent : bench.told → IsMade (bench.file old.spare) → IsQuiet bench old.bench →
      LeavesOnly bench old.bench new.bench (IsUntouched (bench.file old.bench) (bench.sent old.bench))
  -- over any other files or journal the spare isn't called and nothing is sent, and if memory ran out it isn't called either
  pub uncalled : files.told → bench.told → ((base : Database) (history : List Answered) →
      ServesOver (files.left old.schema) (files.left old.table) (bench.file old.bench) base history → ⊥) →
      (new.spare ≡ old.spare) × (bench.sent new.bench ≡ bench.sent old.bench)
  pub no_memory : status ≡ NoMemory → new.spare ≡ old.spare
  -- it took two calls of the bench to open the journal, and one to send the line; and of the spare those that make a journal
  pub compact_calls : bench.told → status ≡ Done → bench.moment new.bench ≡ bench.moment old.bench + 3
  pub spare_calls : bench.told → status ≡ Done → bench.moment new.spare ≡ bench.moment old.spare + calls_to_make (bench.file old.spare)
  -- if nothing is wrong and nothing fails, it is done
  pub compacts : files.told → bench.told → (IsMade (bench.file old.spare) → ⊥) → (base : Database) (history : List Answered) →
      ServesOver (files.left old.schema) (files.left old.table) (bench.file old.bench) base history →
      NothingFailed (faults_of files lines bench old) (faults_of files lines bench new) →
      (Rose (bench.faults old.spare) (bench.faults new.spare) → ⊥) → IsDoneOrWants status

-- a run of `serve` with two journals
pub record TwinServing {P I B : Type 0} (files : source.Ghosts P) (lines : source.Ghosts I) (bench : Ghosts B) (batch : ℕ) (status : Status)
    (old new : Objects P I B) : Type 0 where
  -- over the files of a table and two journals that stand for histories of it of which one begins the other: which lines were answered
  -- after the longer one, what was sent and what both files stand for, at each end
  pub twins_served : files.told → lines.told → bench.told → (base : Database) (main other whole : List Answered) →
      TwinsOver (files.left old.schema) (files.left old.table) (bench.file old.bench) (bench.file old.spare) base main other whole →
      TwinEnds batch status base main other whole (outside lines bench old.input old.bench) (outside lines bench new.input new.bench) (bench.file new.spare)
  -- at every moment each file is brought up to the longer history, or is at a stop of the answers after it
  pub twin_moment : files.told → lines.told → bench.told → IsQuiet bench old.bench → (base : Database) (main other whole : List Answered) →
      TwinsOver (files.left old.schema) (files.left old.table) (bench.file old.bench) (bench.file old.spare) base main other whole →
      LeavesOnly bench old.bench new.bench (CatchesUpOrStops base batch main whole (counted_lines (lines.left old.input)) (bench.sent old.bench))
  pub spare_moment : files.told → lines.told → bench.told → IsQuiet bench old.spare → (base : Database) (main other whole : List Answered) →
      TwinsOver (files.left old.schema) (files.left old.table) (bench.file old.bench) (bench.file old.spare) base main other whole →
      LeavesOnly bench old.spare new.spare (SpareCatchesUpOrStops base batch other whole (counted_lines (lines.left old.input)) (bench.sent old.spare))
  -- whatever crash comes after the run, each has the record of every reply of which a byte was sent
  pub twins_left : files.told → lines.told → bench.told → IsQuiet bench old.bench → IsQuiet bench old.spare → (base : Database) (main other whole : List Answered) →
      TwinsOver (files.left old.schema) (files.left old.table) (bench.file old.bench) (bench.file old.spare) base main other whole →
      (image spare : List ℕ) → bench.leaves new.bench image → bench.leaves new.spare spare →
      LeavesTwins base batch main other whole (outside lines bench old.input old.bench) (outside lines bench new.input new.bench) image spare
  -- so a life goes on with the run from what a crash leaves of the spare alone, once that isn't behind the longer history
  pub spare_lives : files.told → lines.told → bench.told → IsQuiet bench old.bench → IsQuiet bench old.spare → (base : Database) (at : Standing) →
      GoesOnOver (Serve batch true) (files.left old.schema) (files.left old.table) (bench.file old.bench) (bench.file old.spare) at base →
      (first : Database) (runs : List Run) → IsLife first runs at → (image sent : List ℕ) (left : Standing) → left.base ≡ base →
      bench.leaves new.spare image → bench.sent new.bench ≡ bench.sent old.bench ++ sent →
      StandsFor image (shape_in left) left.history → IsFront at.history left.history →
      GoesOn first runs (record { deed = serves batch (lines.left old.input); left = left; sent = sent })
  -- every history that a crash at any moment leaves in one of them is legal for the table, and discloses no secret of it, whatever the input is
  pub undisclosed : files.told → bench.told → IsQuiet bench old.bench → (base : Database) (main other whole : List Answered) →
      TwinsOver (files.left old.schema) (files.left old.table) (bench.file old.bench) (bench.file old.spare) base main other whole →
      (image sent : List ℕ) (now : List Answered) → bench.since new.bench (bench.moment old.bench) image sent → StandsFor image base.secret.shape now →
      IsLegal (table_in base) now × IsUndisclosed (table_in base) now
  pub spare_undisclosed : files.told → bench.told → IsQuiet bench old.spare → (base : Database) (main other whole : List Answered) →
      TwinsOver (files.left old.schema) (files.left old.table) (bench.file old.bench) (bench.file old.spare) base main other whole →
      (image sent : List ℕ) (now : List Answered) → bench.since new.spare (bench.moment old.spare) image sent → StandsFor image base.secret.shape now →
      IsLegal (table_in base) now × IsUndisclosed (table_in base) now
  -- over any other files both stay, at every moment, and nothing is sent
  pub apart : files.told → bench.told → IsQuiet bench old.bench → ((base : Database) (main other whole : List Answered) →
      TwinsOver (files.left old.schema) (files.left old.table) (bench.file old.bench) (bench.file old.spare) base main other whole → ⊥) →
      LeavesOnly bench old.bench new.bench (IsUntouched (bench.file old.bench) (bench.sent old.bench))
  pub spare_apart : files.told → bench.told → IsQuiet bench old.spare → ((base : Database) (main other whole : List Answered) →
      TwinsOver (files.left old.schema) (files.left old.table) (bench.file old.bench) (bench.file old.spare) base main other whole → ⊥) →
      LeavesOnly bench old.spare new.spare (IsUntouched (bench.file old.spare) (bench.sent old.spare))
  -- each refusal has its cause in both files
  pub cause : files.told → bench.told → (base : Database) → AreSoundFilesOf (files.left old.schema) (files.left old.table) base →
      BothCause status (Serve batch true) (bench.file old.bench) (bench.file old.spare) (table_in base)
  pub spare_quiet : bench.told → IsQuiet bench old.spare → status ≢ Failed Spare → IsQuiet bench new.spare
  pub spare_unsent : bench.sent new.spare ≡ bench.sent old.spare
  -- a run that is refused leaves the spare as it was
  pub spare_unwritten : Before reading_lines status (bench.file new.spare ≡ bench.file old.spare)
  -- it took the calls that read each of them back and bring it up; then one of the bench for each line, and four of both for each group in
  -- which some reply makes a record
  pub twin_calls : files.told → lines.told → bench.told → status ≡ Done → (base : Database) (main other whole : List Answered) →
      TwinsOver (files.left old.schema) (files.left old.table) (bench.file old.bench) (bench.file old.spare) base main other whole →
      TakesCalls base whole batch (counted_lines (lines.left old.input)) (bench.moment old.bench + calls_to_open main whole) (bench.moment new.bench)
  pub spare_calls : files.told → lines.told → bench.told → status ≡ Done → (base : Database) (main other whole : List Answered) →
      TwinsOver (files.left old.schema) (files.left old.table) (bench.file old.bench) (bench.file old.spare) base main other whole →
      KeepsCalls base whole batch (counted_lines (lines.left old.input)) (bench.moment old.spare + calls_to_open other whole) (bench.moment new.spare)
  -- if nothing is wrong and nothing fails, it is done
  pub twins_complete : files.told → lines.told → bench.told → (base : Database) (main other whole : List Answered) →
      TwinsOver (files.left old.schema) (files.left old.table) (bench.file old.bench) (bench.file old.spare) base main other whole →
      length (lines.left old.input) ≤ most_input → NothingFailed (faults_of files lines bench old) (faults_of files lines bench new) →
      (Rose (bench.faults old.spare) (bench.faults new.spare) → ⊥) → IsDoneOrWants status

-- a run of `restore`
pub record Restoring {P I B : Type 0} (files : source.Ghosts P) (lines : source.Ghosts I) (bench : Ghosts B) (status : Status) (old new : Objects P I B) : Type 0 where
  -- over the files of a table, one lost file and one that stands for a legal history of it: then both stand for that history, the one that
  -- wasn't lost is as it was, and neither stands for anything that the other doesn't
  pub restored : files.told → bench.told → status ≡ Done → (base : Database) → AreSoundFilesOf (files.left old.schema) (files.left old.table) base →
      (history : List Answered) × (Restored (table_in base) (bench.file old.spare) (bench.file old.bench) (bench.file new.spare) (bench.file new.bench) history
      ⊎ Restored (table_in base) (bench.file old.bench) (bench.file old.spare) (bench.file new.bench) (bench.file new.spare) history)
  pub same : bench.told → status ≡ Done → StandForTheSame (bench.file new.bench) (bench.file new.spare)
  -- each refusal has its cause in both files
  pub cause : files.told → bench.told → (base : Database) → AreSoundFilesOf (files.left old.schema) (files.left old.table) base →
      BothCause status Restore (bench.file old.bench) (bench.file old.spare) (table_in base)
  -- where memory runs out both files are as they were
  pub no_memory : status ≡ NoMemory → (bench.file new.bench ≡ bench.file old.bench) × (bench.file new.spare ≡ bench.file old.spare)
  -- at every moment a lost file isn't made, or stands for what the other does, and a made one stays
  pub restoring : files.told → bench.told → IsQuiet bench old.bench → (base : Database) (history : List Answered) →
      AreSoundFilesOf (files.left old.schema) (files.left old.table) base → IsLostOf (table_in base) (bench.file old.bench) (bench.file old.spare) history →
      LeavesOnly bench old.bench new.bench (IsUnmadeOrWhole base.secret.shape history (bench.sent old.bench))
  pub spare_restoring : files.told → bench.told → IsQuiet bench old.spare → (base : Database) (history : List Answered) →
      AreSoundFilesOf (files.left old.schema) (files.left old.table) base → IsLostOf (table_in base) (bench.file old.spare) (bench.file old.bench) history →
      LeavesOnly bench old.spare new.spare (IsUnmadeOrWhole base.secret.shape history (bench.sent old.spare))
  pub kept : bench.told → IsQuiet bench old.bench → IsMade (bench.file old.bench) →
      LeavesOnly bench old.bench new.bench (IsUntouched (bench.file old.bench) (bench.sent old.bench))
  pub spare_kept : bench.told → IsQuiet bench old.spare → IsMade (bench.file old.spare) →
      LeavesOnly bench old.spare new.spare (IsUntouched (bench.file old.spare) (bench.sent old.spare))
  -- over any other files both stay at every moment
  pub untouched : files.told → bench.told → IsQuiet bench old.bench → ((base : Database) → AreSoundFilesOf (files.left old.schema) (files.left old.table) base →
      CanRestore (table_in base) (bench.file old.bench) (bench.file old.spare) → ⊥) →
      LeavesOnly bench old.bench new.bench (IsUntouched (bench.file old.bench) (bench.sent old.bench))
  pub spare_untouched : files.told → bench.told → IsQuiet bench old.spare → ((base : Database) → AreSoundFilesOf (files.left old.schema) (files.left old.table) base →
      CanRestore (table_in base) (bench.file old.bench) (bench.file old.spare) → ⊥) →
      LeavesOnly bench old.spare new.spare (IsUntouched (bench.file old.spare) (bench.sent old.spare))
  pub spare_quiet : bench.told → IsQuiet bench old.spare → status ≢ Failed Spare → IsQuiet bench new.spare
  pub unsent : (bench.sent new.bench ≡ bench.sent old.bench) × (bench.sent new.spare ≡ bench.sent old.spare)
  pub uncalled : Before opening_journal status (new.spare ≡ old.spare)
  -- it took eight calls of the lost one, and four of the other
  pub restore_calls : bench.told → status ≡ Done →
      (IsLost (bench.file old.spare) × TakeCalls (bench.moment old.spare) (bench.moment new.spare) (bench.moment old.bench) (bench.moment new.bench))
      ⊎ (IsLost (bench.file old.bench) × TakeCalls (bench.moment old.bench) (bench.moment new.bench) (bench.moment old.spare) (bench.moment new.spare))
  -- if nothing is wrong and nothing fails, it is done
  pub restores : files.told → bench.told → (base : Database) → AreSoundFilesOf (files.left old.schema) (files.left old.table) base →
      CanRestore (table_in base) (bench.file old.bench) (bench.file old.spare) → NothingFailed (faults_of files lines bench old) (faults_of files lines bench new) →
      (Rose (bench.faults old.spare) (bench.faults new.spare) → ⊥) → IsDoneOrWants status

-- what a run of a command does
abbrev pub Does : {P I B : Type 0} → source.Ghosts P → source.Ghosts I → Ghosts B → Command → Status → Objects P I B → Objects P I B → Type 0
Does files lines bench Init status old new = Making files lines bench status old new
Does files lines bench (Serve batch false) status old new = Serving files lines bench batch status old new
Does files lines bench (Serve batch true) status old new = TwinServing files lines bench batch status old new
Does files lines bench Audit status old new = Auditing files lines bench status old new
Does files lines bench Simulate status old new = Simulating files lines bench status old new
Does files lines bench (Drill number) status old new = Drilling files lines bench number status old new
Does files lines bench Grow status old new = Growing files lines bench status old new
Does files lines bench Explain status old new = Explaining files lines bench status old new
Does files lines bench Compact status old new = Compacting files lines bench status old new
Does files lines bench Restore status old new = Restoring files lines bench status old new
