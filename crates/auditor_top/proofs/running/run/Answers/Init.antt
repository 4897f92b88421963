-- What `run` says of `init`.
use Rattle.std.proofs.Common.{◌≡◌, [], refl, sym, ◌∙◌, ap, subst, map, string_bytes}
use Rattle.std.proofs.lemmas.Bool.{false≢true, true≢false}
use Rattle.audit_types.specs.declared.shapes.Shape.{Shape}
use Rattle.bench_core.specs.Calls.{LeavesOnly}
use Rattle.bench_core.specs.Reports.{not_called}
use Rattle.table_load.specs.Cells.{SecretView}
use Rattle.table_load.specs.Database.{Database}
use Rattle.journal_form.specs.Journal.{StandsFor}
use Rattle.answer_journal.specs.Moments.{IsUnmadeOrWhole}
use Rattle.auditor_top.specs.declared.words.Command.TheVariants as command
use Rattle.auditor_top.specs.declared.ready.Ready.{Ready}
use Rattle.auditor_top.specs.declared.ready.Ready.TheVariants as made
use Rattle.auditor_top.specs.Words.{command_of}
use Rattle.auditor_top.specs.Commands.{AreFilesOf}
use Rattle.auditor_top.specs.Faults.{making_status}
use Rattle.auditor_top.specs.Runs.{Making, Objects, objects}
use Rattle.auditor_top.specs.Stages.{reading_lines}
use Rattle.auditor_top.proofs.Failures.{is_done, step_tells, unread_input}
use Rattle.auditor_top.proofs.LastSteps.{Answers, GoesOnWith, StepEnds, answers, done_or_wants, goes_with, not_of_lines, not_of_spare}
use Rattle.auditor_top.proofs.OneRunMore.{goes_on}
use Rattle.auditor_top.proofs.OneTable.{one_secret}
use Rattle.auditor_top.proofs.StepFaults.{made_or_there, making_cause, making_says, making_unrefused, there_is}
use Rattle.auditor_top.proofs.StepStatuses.{always_before}
use Rattle.auditor_top.proofs.running.run.Given.{Over}
use Rattle.auditor_top.proofs.running.run.Goals as goal

module _ (g : Over) (c : goal.After-made g) where
  abbrev old : Objects g.row.P.Denot g.row.I.Denot g.row.B.Denot
  old = objects c.args.schema.now c.args.table.now c.args.input.now c.args.bench.now c.args.spare.now

  abbrev mid : Objects g.row.P.Denot g.row.I.Denot g.row.B.Denot
  mid = objects c.open.new.schema c.open.new.table c.args.input.now c.open.new.bench c.args.spare.now

  abbrev new : Objects g.row.P.Denot g.row.I.Denot g.row.B.Denot
  new = objects c.open.new.schema c.open.new.table c.args.input.now c.make.new.bench c.args.spare.now

  abbrev ready : Ready
  ready = made.Init c.in-Ok-Init.shape

  goes : GoesOnWith g.P.Source g.B.Bench (command_of (map string_bytes c.args.words.now.items)) ready old mid
  goes =
      let found = c.in-Ok-Init in
      let opening = c.open.ensures in
      goes_with g.P.Source g.B.Bench _ _ _ ready old mid found.field-0-is found.ensures.asked c.in-Ok.ensures.command found.ensures.ready
      found.ensures.over opening.reads found.ensures.steady opening.unread opening.unopened found.ensures.ticks

  ends : StepEnds g.I.Source g.B.Bench ready (making_status c.make.result) mid new
  ends =
      let does = c.make.ensures in
      let step = making_says c.make.result c.make.ensures.ends in
      record {
        last = step.last;
        words = step.words;
        file = λ told table for. making_cause c.make.result _ table does.ends (does.refused told) (λ is. (does.already told is).0);
        spare_file = λ told calls. absurd (false≢true calls);
        input = λ itold reads. absurd (false≢true reads);
        tells = step_tells g.I.Source g.B.Bench _ c.make.result (record {
          input = unread_input g.I.Source old.input _ (λ is. not_of_lines command.Init _ refl step.words (ap making_status is));
          bench = does.fault;
          spare = not_called g.B.Bench old.spare _ (λ is. not_of_spare command.Init _ refl step.words (ap making_status is));
        });
        quiet = λ told quiet fine. made_or_there c.make.result does.ends fine (does.quiet told) (λ there image left.
            let already = does.already told there in
            let moments = does.untouched told already.0 quiet in
            (moments.each image (g.B.Bench.sent new.bench) (g.met.B.Bench.counts_now new.bench (g.B.Bench.moment mid.bench) image moments.later left)).1
            ∙ sym already.1);
        nothing_began = λ told opens. absurd (false≢true opens);
        before_lines = always_before reading_lines (making_status c.make.result) (refl, does.sent);
        unwritten = λ told. step.at_lines _ (λ there. (does.already told there).1);
        before_spare = λ calls. absurd (false≢true calls);
        never_written = λ told none. absurd (true≢false none);
        no_lines = λ none. refl;
        spare = λ none. refl;
      }

  -- opening called nothing of the bench
  abbrev begun : g.row.B.Denot → Objects g.row.P.Denot g.row.I.Denot g.row.B.Denot
  begun at = objects old.schema old.table old.input at old.spare

  -- the shape is that of every table that the files mean
  shape : g.P.Source.told → (base : Database) → AreFilesOf (g.P.Source.left old.schema) (g.P.Source.left old.table) base →
      c.in-Ok-Init.shape ≡ base.secret.shape
  shape ptold base files =
      let over = goes.over ptold in
      over.2 ∙ ap (λ (s : SecretView). s.shape) (one_secret _ _ over.0 base over.1 files)

  making : Making g.P.Source g.I.Source g.B.Bench (making_status c.make.result) (begun mid.bench) new
  making =
      let does = c.make.ensures in
      let step = making_says c.make.result c.make.ensures.ends in
      record {
        made = λ ptold told done base files.
            subst (λ (s : Shape). StandsFor (g.B.Bench.file new.bench) s []) (shape ptold base files) (20, is_done _ c.make.result _ done (does.done told));
        kept = λ told undone fine. (does.already told (there_is c.make.result does.ends undone fine)).1;
        unsent = does.sent;
        untouched = does.untouched;
        making = λ ptold told absent quiet base files.
            subst (λ (s : Shape). LeavesOnly g.B.Bench mid.bench new.bench (IsUnmadeOrWhole s [] (g.B.Bench.sent mid.bench))) (shape ptold base files)
            (does.any_moment told absent quiet);
        unmade = λ is. absurd (step.no_memory is);
        init_calls = λ told done. is_done _ c.make.result _ done (does.ticks told);
        makes = λ ptold told base files absent none.
            done_or_wants g.P.Source g.I.Source g.B.Bench _ (begun mid.bench) new
            (making_unrefused c.make.result does.ends (λ is. absent (does.already told is).0)) ends.tells none
            (λ is. absurd (not_of_spare command.Init _ refl step.words is));
      }

  all : Answers g.P.Source g.I.Source g.B.Bench (command_of (map string_bytes c.args.words.now.items)) c.made.result old new
  all =
      answers g.P.Source g.I.Source g.B.Bench c.groups_of_a_schema.ensures.entries _ ready _ old mid.schema mid.table mid.bench new.input new.bench new.spare
      goes ends c.made.ensures (subst (λ b. Making g.P.Source g.I.Source g.B.Bench (making_status c.make.result) (begun b) new)
      (goes.unopened refl) making)

pub init_ends : goal.returns-in-Ok-Init
init_ends g c = record {
  says = (all g c).says;
  lives = goes_on g.P.Source g.I.Source g.B.Bench _ _ (old g c) (new g c) c.lives.ensures.longer c.one_reading.ensures c.read_words.ensures.batch
      (all g c).does;
  does = (all g c).does;
  nothing_began = (all g c).nothing_began;
}
