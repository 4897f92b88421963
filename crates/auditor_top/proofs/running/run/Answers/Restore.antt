-- What `run` says of `restore`.
use Rattle.std.proofs.Common.{◌≡◌, ◌⊎◌, List, refl, sym, ap, subst, map, string_bytes}
use Rattle.std.proofs.lemmas.Bool.{false≢true, true≢false}
use Rattle.audit_types.specs.declared.records.Answered.{Answered}
use Rattle.audit_types.specs.History.{Table}
use Rattle.bench_core.specs.Calls.{LeavesOnly}
use Rattle.table_load.specs.Database.{Database, table_in}
use Rattle.answer_journal.specs.Moments.{IsUnmadeOrWhole}
use Rattle.twin_journal.specs.Restoring.{CanRestore, IsLostOf, Restored}
use Rattle.bench_core.specs.declared.stops.Stop.TheVariants as stop
use Rattle.auditor_top.specs.declared.words.Command.TheVariants as command
use Rattle.auditor_top.specs.declared.ready.Ready.{Ready}
use Rattle.auditor_top.specs.declared.ready.Ready.TheVariants as made
use Rattle.auditor_top.specs.Words.{command_of}
use Rattle.auditor_top.specs.Causes.{BothCause}
use Rattle.auditor_top.specs.Commands.{AreSoundFilesOf}
use Rattle.auditor_top.specs.Faults.{restoring_status}
use Rattle.auditor_top.specs.Ready.{base_around}
use Rattle.auditor_top.specs.Runs.{Objects, Restoring, objects}
use Rattle.auditor_top.proofs.Failures.{is_done, step_tells, stopped_by, unread_input}
use Rattle.auditor_top.proofs.LastSteps.{Answers, GoesOnWith, StepEnds, answers, done_or_wants, goes_with, not_of_lines}
use Rattle.auditor_top.proofs.OneRunMore.{goes_on}
use Rattle.auditor_top.proofs.OneTable.{one_base}
use Rattle.auditor_top.proofs.RestoreEndings.{restore_at_lines, restore_cause, restore_file, restore_says, restore_unrefused}
use Rattle.auditor_top.proofs.running.run.Given.{Over}
use Rattle.auditor_top.proofs.running.run.Goals as goal

module _ (g : Over) (c : goal.After-restored g) where
  abbrev old : Objects g.row.P.Denot g.row.I.Denot g.row.B.Denot
  old = objects c.args.schema.now c.args.table.now c.args.input.now c.args.bench.now c.args.spare.now

  abbrev mid : Objects g.row.P.Denot g.row.I.Denot g.row.B.Denot
  mid = objects c.open.new.schema c.open.new.table c.args.input.now c.open.new.bench c.args.spare.now

  abbrev new : Objects g.row.P.Denot g.row.I.Denot g.row.B.Denot
  new = objects c.open.new.schema c.open.new.table c.args.input.now c.restore.new.bench c.restore.new.spare

  abbrev ready : Ready
  ready = made.Restore c.in-Ok-Restore.guarded

  goes : GoesOnWith g.P.Source g.B.Bench (command_of (map string_bytes c.args.words.now.items)) ready old mid
  goes =
      let found = c.in-Ok-Restore in
      let opening = c.open.ensures in
      goes_with g.P.Source g.B.Bench _ _ _ ready old mid found.field-0-is found.ensures.asked c.in-Ok.ensures.command found.ensures.ready
      found.ensures.over opening.reads found.ensures.steady opening.unread opening.unopened found.ensures.ticks

  ends : StepEnds g.I.Source g.B.Bench ready (restoring_status c.restore.result) mid new
  ends =
      let ended = c.restore.result in
      let does = c.restore.ensures in
      let step = restore_says ended does.ends in
      record {
        last = step.last;
        words = step.words;
        file = λ told table for. restore_file ended _ _ c.in-Ok-Restore.guarded does.ends
            (λ refusal is. does.cause refusal told told is);
        spare_file = λ told calls. step.spare_file _;
        input = λ itold reads. absurd (false≢true reads);
        tells = step_tells g.I.Source g.B.Bench _ ended (record {
          input = unread_input g.I.Source old.input _ (λ is. not_of_lines command.Restore _ refl step.words (ap restoring_status is));
          bench = does.fault;
          spare = does.spare_fault;
        });
        quiet = λ told quiet fine. does.quiet told quiet (λ is. fine (ap restoring_status is));
        nothing_began = λ told opens closed quiet table unready. absurd (unready tt);
        before_lines = restore_at_lines _ ended does.ends (λ refuses. (refl, does.sent));
        unwritten = λ told. restore_at_lines _ ended does.ends (λ refuses. (does.reads refuses).0.file);
        before_spare = λ calls other. absurd (other refl);
        never_written = λ told none. absurd (true≢false none);
        no_lines = λ none. refl;
        spare = λ none. absurd (true≢false none);
      }

  -- opening called nothing of the bench
  abbrev begun : g.row.B.Denot → Objects g.row.P.Denot g.row.I.Denot g.row.B.Denot
  begun at = objects old.schema old.table old.input at old.spare

  -- the table of the groups is every table that the files mean
  is_seen : (ptold : g.P.Source.told) (base : Database) →
      AreSoundFilesOf (g.P.Source.left old.schema) (g.P.Source.left old.table) base →
      c.in-Ok-Restore.guarded ≡ table_in base
  is_seen ptold base sound =
      let over = goes.over ptold in
      ap (λ (b : Database). table_in b) (one_base c.groups_of_a_schema.ensures.entries _ _
      (base_around over.0 over.1 c.in-Ok-Restore.guarded) base over.2 sound)

  restoring : Restoring g.P.Source g.I.Source g.B.Bench (restoring_status c.restore.result) (begun mid.bench) new
  restoring =
      let at = mid.bench in
      let later = new.bench in
      let file = g.B.Bench.file at in
      let spare = g.B.Bench.file old.spare in
      let ended = c.restore.result in
      let does = c.restore.ensures in
      let step = restore_says ended does.ends in
      record {
        restored = λ ptold told done base sound.
            subst (λ (t : Table). (history : List Answered) ×
            (Restored t spare file (g.B.Bench.file new.spare) (g.B.Bench.file later) history
            ⊎ Restored t file spare (g.B.Bench.file later) (g.B.Bench.file new.spare) history))
            (is_seen ptold base sound) (is_done _ ended _ done (does.done told told));
        same = λ told done. is_done _ ended _ done (does.alike told told);
        cause = λ ptold told base sound.
            subst (λ (t : Table). BothCause (restoring_status ended) command.Restore file spare t) (is_seen ptold base sound)
            (restore_cause ended file spare _ does.ends (λ refusal is. does.cause refusal told told is));
        no_memory = λ is. let read = does.no_memory (stopped_by _ ended stop.NoMemory is) in (read.0.file, read.1.file);
        restoring = λ ptold told quiet base history sound lost.
            let same = is_seen ptold base sound in
            subst (λ (t : Table). LeavesOnly g.B.Bench at later (IsUnmadeOrWhole t.setting.shape history (g.B.Bench.sent at))) same
            (does.main_moments history told told quiet (subst (λ (t : Table). IsLostOf t file spare history) (sym same) lost));
        spare_restoring = λ ptold told quiet base history sound lost.
            let same = is_seen ptold base sound in
            subst (λ (t : Table). LeavesOnly g.B.Bench old.spare new.spare (IsUnmadeOrWhole t.setting.shape history (g.B.Bench.sent old.spare))) same
            (does.spare_moments history told told quiet (subst (λ (t : Table). IsLostOf t spare file history) (sym same) lost));
        kept = does.main_kept;
        spare_kept = does.spare_kept;
        untouched = λ ptold told quiet none. does.untouched told told quiet (λ can. none _ (goes.over ptold).2 can);
        spare_untouched = λ ptold told quiet none. does.spare_untouched told told quiet (λ can. none _ (goes.over ptold).2 can);
        spare_quiet = λ told quiet fine. does.spare_quiet told quiet
            (λ is. fine (ap restoring_status is));
        unsent = (does.sent, does.spare_sent);
        uncalled = step.at_journal _;
        restore_calls = λ told done. is_done _ ended _ done (does.ticks told told);
        restores = λ ptold told base sound can none fine.
            done_or_wants g.P.Source g.I.Source g.B.Bench _ (begun mid.bench) new (restore_unrefused ended does.ends (does.restores told told
            (subst (λ (t : Table). CanRestore t file spare) (sym (is_seen ptold base sound)) can))) ends.tells none (λ is. fine);
      }

  all : Answers g.P.Source g.I.Source g.B.Bench (command_of (map string_bytes c.args.words.now.items)) c.restored.result old new
  all =
      answers g.P.Source g.I.Source g.B.Bench c.groups_of_a_schema.ensures.entries _ ready _ old mid.schema mid.table mid.bench new.input new.bench new.spare
      goes ends c.restored.ensures
      (subst (λ b. Restoring g.P.Source g.I.Source g.B.Bench (restoring_status c.restore.result) (begun b) new) (goes.unopened refl) restoring)

pub restoration_ends : goal.returns
restoration_ends g c = record {
  says = (all g c).says;
  lives = goes_on g.P.Source g.I.Source g.B.Bench _ _ (old g c) (new g c) c.lives.ensures.longer c.one_reading.ensures c.read_words.ensures.batch
      (all g c).does;
  does = (all g c).does;
  nothing_began = (all g c).nothing_began;
}
