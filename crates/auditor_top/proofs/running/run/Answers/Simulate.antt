-- What `run` says of `simulate`.
use Rattle.std.proofs.Common.{List, refl, sym, ◌∙◌, ap, subst, map, string_bytes}
use Rattle.std.proofs.lemmas.Bool.{false≢true, true≢false}
use Rattle.audit_types.specs.declared.records.Answered.{Answered}
use Rattle.bench_core.specs.Calls.{LeavesOnly}
use Rattle.bench_core.specs.Reports.{not_called}
use Rattle.set_index.specs.Indexed.{IndexView, public_setting}
use Rattle.line_wire.specs.Lines.{counted_lines}
use Rattle.question_plan.specs.Session.{Replied}
use Rattle.transcript_sim.specs.Beginning.{BeginsWith, EndBegins}
use Rattle.transcript_sim.specs.Ends.{simulation}
use Rattle.line_wire.specs.Talks.{EndDue, EndSends, TalksMeanwhile}
use Rattle.bench_core.specs.declared.stops.Stop.TheVariants as stop
use Rattle.auditor_top.specs.declared.ready.Ready.{Ready}
use Rattle.auditor_top.specs.declared.ready.Ready.TheVariants as made
use Rattle.auditor_top.specs.Words.{command_of}
use Rattle.auditor_top.specs.Commands.{ArePublicFilesOf, SimulatesOver}
use Rattle.auditor_top.specs.Faults.{simulation_status}
use Rattle.auditor_top.specs.Runs.{Objects, Simulating, objects}
use Rattle.auditor_top.proofs.Failures.{is_done, step_tells, stopped_by}
use Rattle.auditor_top.proofs.LastSteps.{Answers, GoesOnWith, StepEnds, answers, done_or_wants, goes_with}
use Rattle.auditor_top.proofs.OneRunMore.{goes_on}
use Rattle.auditor_top.proofs.SimulationEndings.{carried_public, simulation_cause, simulation_ends, simulation_reads, simulation_says, simulation_sends, simulation_unrefused, unbegun_so, unbegun_too}
use Rattle.auditor_top.proofs.running.run.Given.{Over}
use Rattle.auditor_top.proofs.running.run.Goals as goal

module _ (g : Over) (c : goal.After-drop-index-inside-in-Ok-Simulate-7 g) where
  abbrev old : Objects g.row.P.Denot g.row.I.Denot g.row.B.Denot
  old = objects c.args.schema.now c.args.table.now c.args.input.now c.args.bench.now c.args.spare.now

  abbrev mid : Objects g.row.P.Denot g.row.I.Denot g.row.B.Denot
  mid = objects c.open.new.schema c.open.new.table c.args.input.now c.open.new.bench c.args.spare.now

  abbrev new : Objects g.row.P.Denot g.row.I.Denot g.row.B.Denot
  new = objects c.open.new.schema c.open.new.table c.simulate.new.source c.simulate.new.bench c.args.spare.now

  abbrev ready : Ready
  ready = made.Simulate c.in-Ok-Simulate.index

  goes : GoesOnWith g.P.Source g.B.Bench (command_of (map string_bytes c.args.words.now.items)) ready old mid
  goes =
      let found = c.in-Ok-Simulate in
      let opening = c.open.ensures in
      goes_with g.P.Source g.B.Bench _ _ _ ready old mid found.field-0-is found.ensures.asked c.in-Ok.ensures.command found.ensures.ready
      found.ensures.over opening.reads found.ensures.steady opening.unread opening.unopened found.ensures.ticks

  ends : StepEnds g.I.Source g.B.Bench ready (simulation_status c.simulate.result) mid new
  ends =
      let ended = c.simulate.result in
      let does = c.simulate.ensures in
      let step = simulation_says ended in
      record {
        last = step.last;
        words = step.words does.alone;
        file = λ told table for. step.file _ table;
        spare_file = λ told calls. absurd (false≢true calls);
        input = λ itold reads. simulation_reads ended _ _ (does.reads itold) (unbegun_so ended (λ unbegun. ap g.I.Source.left unbegun.0) does.unbegun);
        tells = step_tells g.I.Source g.B.Bench _ ended (record {
          input = does.input;
          bench = does.fault;
          spare = not_called g.B.Bench old.spare _ (λ is. does.alone is);
        });
        quiet = λ told quiet fine image left. quiet image (does.crash image left) ∙ sym does.file;
        nothing_began = λ told opens. absurd (false≢true opens);
        before_lines = step.at_lines _ does.unbegun;
        unwritten = λ told. step.at_lines _ (unbegun_too ended does.file);
        before_spare = λ calls. absurd (false≢true calls);
        never_written = λ told none. does.file;
        no_lines = λ none. absurd (true≢false none);
        spare = λ none. refl;
      }

  -- opening called nothing of the bench
  abbrev begun : g.row.B.Denot → Objects g.row.P.Denot g.row.I.Denot g.row.B.Denot
  begun at = objects old.schema old.table old.input at old.spare

  -- what is said of what was read is said of what the files mean
  given : (Says : IndexView → Type 0) (ptold : g.P.Source.told) (index : IndexView) →
      ArePublicFilesOf (g.P.Source.left old.schema) (g.P.Source.left old.table) index → Says c.in-Ok-Simulate.index → Says index
  given Says ptold index files =
      carried_public c.groups_of_a_schema.ensures.entries Says _ _ c.in-Ok-Simulate.index index (goes.over ptold) files

  verdicts : g.P.Source.told → g.I.Source.told → g.B.Bench.told → (index : IndexView) (history : List Answered) →
      SimulatesOver (g.P.Source.left old.schema) (g.P.Source.left old.table) (g.B.Bench.file mid.bench) index history →
      (verdicts : List (Replied Answered)) × EndDue (simulation index history) c.simulate.result (g.I.Source.left old.input)
      (g.I.Source.left new.input) verdicts
      × EndSends (simulation index history) c.simulate.result verdicts (g.B.Bench.sent mid.bench) (g.B.Bench.sent new.bench)
  verdicts ptold itold told index history over =
      given (λ i. BeginsWith (g.B.Bench.file mid.bench) (public_setting i) history → (verdicts : List (Replied Answered))
      × EndDue (simulation i history) c.simulate.result (g.I.Source.left old.input) (g.I.Source.left new.input) verdicts
      × EndSends (simulation i history) c.simulate.result verdicts (g.B.Bench.sent mid.bench) (g.B.Bench.sent new.bench)) ptold index over.files
      (c.simulate.ensures.verdicts history itold told) over.begins

  simulating : Simulating g.P.Source g.I.Source g.B.Bench (simulation_status c.simulate.result) (begun mid.bench) new
  simulating =
      let text = g.I.Source.left old.input in
      let left = g.I.Source.left new.input in
      let file = g.B.Bench.file mid.bench in
      let sent = g.B.Bench.sent mid.bench in
      let ended = c.simulate.result in
      let does = c.simulate.ensures in
      record {
        simulated = λ ptold itold told index history over.
            let all = verdicts ptold itold told index history over in (
              all.0,
              simulation_ends ended index history text left all.0 all.1,
              simulation_sends ended index history all.0 text left sent (g.B.Bench.sent new.bench) all.1 all.2,
            );
        simulating = λ ptold told quiet index history over.
            given (λ i. BeginsWith file (public_setting i) history →
            LeavesOnly g.B.Bench mid.bench new.bench (TalksMeanwhile g.I.Source.told (simulation i history) (counted_lines text) file sent))
            ptold index over.files (does.moments history told quiet) over.begins;
        cause = λ ptold told index files.
            simulation_cause ended file (public_setting index)
            (given (λ i. EndBegins ended file (public_setting i)) ptold index files (does.begins told));
        undisturbed = does.undisturbed;
        untouched = λ ptold told quiet none. does.untouched told quiet
            (λ history begins. none c.in-Ok-Simulate.index history (record { files = goes.over ptold; begins = begins }));
        simulate_calls = λ itold told done. is_done _ ended _ done (does.calls itold told);
        simulates = λ ptold itold told index history over agreed agree within none.
            let all = verdicts ptold itold told index history over in
            done_or_wants g.P.Source g.I.Source g.B.Bench _ (begun mid.bench) new
            (simulation_unrefused c.one_verdict.ensures.first ended index history text left all.0 agreed all.1 (does.reads itold) agree within) ends.tells none
            (λ is. absurd (does.alone (stopped_by _ ended stop.Spare is)));
      }

  all : Answers g.P.Source g.I.Source g.B.Bench (command_of (map string_bytes c.args.words.now.items)) c.judged.result old new
  all =
      answers g.P.Source g.I.Source g.B.Bench c.groups_of_a_schema.ensures.entries _ ready _ old mid.schema mid.table mid.bench new.input new.bench new.spare
      goes ends c.judged.ensures
      (subst (λ b. Simulating g.P.Source g.I.Source g.B.Bench (simulation_status c.simulate.result) (begun b) new) (goes.unopened refl) simulating)

pub simulate_ends : goal.returns-in-Ok-Simulate
simulate_ends g c = record {
  says = (all g c).says;
  lives = goes_on g.P.Source g.I.Source g.B.Bench _ _ (old g c) (new g c) c.lives.ensures.longer c.one_reading.ensures c.read_words.ensures.batch
      (all g c).does;
  does = (all g c).does;
  nothing_began = (all g c).nothing_began;
}
