-- What `run` says of `drill`.
use Rattle.std.proofs.Common.{◌≡◌, Err, refl, ap, subst, map, string_bytes}
use Rattle.std.proofs.lemmas.Bool.{false≢true}
use Rattle.bench_core.specs.Reports.{not_called}
use Rattle.bench_core.specs.Stops.{IsOfBench}
use Rattle.bench_core.specs.declared.stops.Stop.{Stop}
use Rattle.bench_core.specs.declared.stops.Stop.TheVariants as stop
use Rattle.auditor_top.specs.declared.ready.Ready.{Ready}
use Rattle.auditor_top.specs.declared.ready.Ready.TheVariants as made
use Rattle.auditor_top.specs.Words.{command_of}
use Rattle.auditor_top.specs.Faults.{ended_status}
use Rattle.auditor_top.specs.Runs.{Drilling, Objects, objects}
use Rattle.auditor_top.proofs.DrillEndings.{drill_sends}
use Rattle.auditor_top.proofs.Failures.{ended_by, unread_input}
use Rattle.auditor_top.proofs.LastSteps.{Answers, GoesOnWith, StepEnds, answers, done_or_wants, goes_with}
use Rattle.auditor_top.proofs.OneRunMore.{goes_on}
use Rattle.auditor_top.proofs.StepFaults.{of_bench, stop_says}
use Rattle.auditor_top.proofs.StopEndings.{stop_ends, stop_unrefused}
use Rattle.auditor_top.proofs.running.run.Given.{Over}
use Rattle.auditor_top.proofs.running.run.Goals as goal

module _ (g : Over) (c : goal.After-ended-in-Ok-Drill g) where
  abbrev old : Objects g.row.P.Denot g.row.I.Denot g.row.B.Denot
  old = objects c.args.schema.now c.args.table.now c.args.input.now c.args.bench.now c.args.spare.now

  abbrev mid : Objects g.row.P.Denot g.row.I.Denot g.row.B.Denot
  mid = objects c.open.new.schema c.open.new.table c.args.input.now c.open.new.bench c.args.spare.now

  abbrev new : Objects g.row.P.Denot g.row.I.Denot g.row.B.Denot
  new = objects c.open.new.schema c.open.new.table c.args.input.now c.drill.new.bench c.args.spare.now

  abbrev ready : Ready
  ready = made.Drill c.in-Ok-Drill.number

  goes : GoesOnWith g.P.Source g.B.Bench (command_of (map string_bytes c.args.words.now.items)) ready old mid
  goes =
      let found = c.in-Ok-Drill in
      let opening = c.open.ensures in
      goes_with g.P.Source g.B.Bench _ _ _ ready old mid found.field-0-is found.ensures.asked c.in-Ok.ensures.command found.ensures.ready
      found.ensures.over opening.reads found.ensures.steady opening.unread opening.unopened found.ensures.ticks

  -- no stop of a source or of a spare
  is_of_bench : (why : Stop) → c.drill.result ≡ Err why → IsOfBench why
  is_of_bench why is = of_bench c.drill.result why c.drill.ensures.ends is

  ends : StepEnds g.I.Source g.B.Bench ready (ended_status c.drill.result) mid new
  ends =
      let does = c.drill.ensures in
      stop_ends g.I.Source g.B.Bench ready c.drill.result mid new (record {
        input = λ is. absurd (is_of_bench stop.Input is);
        limit = λ is. absurd (is_of_bench stop.Limit is);
        other = λ is. absurd (is_of_bench stop.Spare is);
        tells = record {
          input = unread_input g.I.Source old.input _ (is_of_bench stop.Input);
          bench = does.fault;
          spare = not_called g.B.Bench old.spare _ (is_of_bench stop.Spare);
        };
        file = λ told table for. tt;
        spare_file = λ told. tt;
        reads = λ itold reads. absurd (false≢true reads);
        quiet = λ told quiet fine. does.quiet quiet;
        never_written = λ told none. does.file;
        no_lines = λ none. refl;
        spare = λ none. refl;
      })

  -- opening called nothing of the bench
  abbrev begun : g.row.B.Denot → Objects g.row.P.Denot g.row.I.Denot g.row.B.Denot
  begun at = objects old.schema old.table old.input at old.spare

  drilling : Drilling g.P.Source g.I.Source g.B.Bench c.in-Ok-Drill.number (ended_status c.drill.result) (begun mid.bench) new
  drilling =
      let does = c.drill.ensures in
      let step = stop_says c.drill.result in
      record {
        drilled = λ told. drill_sends c.drill.result c.in-Ok-Drill.number _ _ does.ends (does.done told) (does.part told)
            (λ is. ap g.B.Bench.sent (does.no_memory is));
        drill_calls = λ told done. step.done _ done (does.ticks told);
        drill_call = does.one_tick;
        undrilled = λ is. does.no_memory (ended_by c.drill.result stop.NoMemory is);
        drills = λ none.
            done_or_wants g.P.Source g.I.Source g.B.Bench _ (begun mid.bench) new (stop_unrefused c.drill.result (is_of_bench stop.Limit)) ends.tells none
            (λ is. absurd (is_of_bench stop.Spare (ended_by c.drill.result stop.Spare is)));
      }

  all : Answers g.P.Source g.I.Source g.B.Bench (command_of (map string_bytes c.args.words.now.items)) c.ended-in-Ok-Drill.result old new
  all =
      answers g.P.Source g.I.Source g.B.Bench c.groups_of_a_schema.ensures.entries _ ready _ old mid.schema mid.table mid.bench new.input new.bench new.spare
      goes ends c.ended-in-Ok-Drill.ensures
      (subst (λ b. Drilling g.P.Source g.I.Source g.B.Bench c.in-Ok-Drill.number (ended_status c.drill.result) (begun b) new) (goes.unopened refl) drilling)

pub drill_ends : goal.returns-in-Ok-Drill
drill_ends g c = record {
  says = (all g c).says;
  lives = goes_on g.P.Source g.I.Source g.B.Bench _ _ (old g c) (new g c) c.lives.ensures.longer c.one_reading.ensures c.read_words.ensures.batch
      (all g c).does;
  does = (all g c).does;
  nothing_began = (all g c).nothing_began;
}
