-- What `run` says of `serve`.
use Rattle.std.proofs.Common.{◌≡◌, List, refl, subst, arith, map, string_bytes}
use Rattle.std.proofs.lemmas.Bool.{true≢false}
use Rattle.audit_types.specs.declared.records.Answered.{Answered}
use Rattle.bench_core.specs.Moments.{still_quiet}
use Rattle.bench_core.specs.Reports.{not_called}
use Rattle.table_load.specs.Cells.{SecretView}
use Rattle.bench_core.specs.declared.stops.Stop.TheVariants as stop
use Rattle.table_load.specs.Database.{Database}
use Rattle.journal_form.specs.Journal.{StandsFor}
use Rattle.audit_session.specs.Ends.{base_over}
use Rattle.auditor_top.specs.declared.ready.Ready.{Ready}
use Rattle.auditor_top.specs.declared.ready.Ready.TheVariants as made
use Rattle.auditor_top.specs.Words.{command_of}
use Rattle.auditor_top.specs.Commands.{ServesOver}
use Rattle.auditor_top.specs.Ends.{outside}
use Rattle.auditor_top.specs.Faults.{ended_status}
use Rattle.auditor_top.specs.Runs.{Objects, objects, Serving}
use Rattle.auditor_top.proofs.Failures.{ended_by, stop_after}
use Rattle.auditor_top.proofs.LastSteps.{Answers, GoesOnWith, StepEnds, answers, done_or_wants, goes_with, stands_so}
use Rattle.auditor_top.proofs.OneRunMore.{goes_on}
use Rattle.auditor_top.proofs.OneTable.{same_given}
use Rattle.auditor_top.proofs.Sessions.{ends_so, stops_so, harmless_so, calls_so}
use Rattle.auditor_top.proofs.StepFaults.{session_ends, stop_reads, stop_says}
use Rattle.auditor_top.proofs.StopEndings.{stop_ends, stop_unrefused}
use Rattle.auditor_top.proofs.running.run.Given.{Over}
use Rattle.auditor_top.proofs.running.run.Goals as goal

module _ (g : Over) (c : goal.After-drop-index-inside-in-Ok-Serve-6 g) where
  abbrev old : Objects g.row.P.Denot g.row.I.Denot g.row.B.Denot
  old = objects c.args.schema.now c.args.table.now c.args.input.now c.args.bench.now c.args.spare.now

  abbrev mid : Objects g.row.P.Denot g.row.I.Denot g.row.B.Denot
  mid = objects c.open.new.schema c.open.new.table c.args.input.now c.open.new.bench c.args.spare.now

  abbrev new : Objects g.row.P.Denot g.row.I.Denot g.row.B.Denot
  new = objects c.open.new.schema c.open.new.table c.serve.new.source c.serve.new.bench c.args.spare.now

  abbrev ready : Ready
  ready = made.Serve c.in-Ok-Serve.index c.in-Ok-Serve.store c.in-Ok-Serve.batch

  goes : GoesOnWith g.P.Source g.B.Bench (command_of (map string_bytes c.args.words.now.items)) ready old mid
  goes =
      let found = c.in-Ok-Serve in
      let opening = c.open.ensures in
      goes_with g.P.Source g.B.Bench _ _ _ ready old mid found.field-0-is found.ensures.asked c.in-Ok.ensures.command found.ensures.ready
      found.ensures.over opening.reads found.ensures.steady opening.unread opening.unopened found.ensures.ticks

  ends : StepEnds g.I.Source g.B.Bench ready (ended_status c.serve.result) mid new
  ends =
      let does = c.serve.ensures.session in
      stop_ends g.I.Source g.B.Bench ready c.serve.result mid new (record {
        input = λ is. refl;
        limit = λ is. refl;
        other = λ is. absurd (c.serve.ensures.alone is);
        tells = record {
          input = record { later = does.later; failed = does.input; last_read = does.last_read; steady = does.steady };
          bench = does.fault;
          spare = not_called g.B.Bench old.spare _ c.serve.ensures.alone;
        };
        file = λ told table for. for refl;
        spare_file = λ told. tt;
        reads = λ itold reads.
            stop_reads c.serve.result _ _ (does.read itold) (does.within itold) (does.input_within itold) (does.limit itold);
        quiet = does.quiet;
        never_written = λ told none. absurd (true≢false none);
        no_lines = λ none. absurd (true≢false none);
        spare = λ none. refl;
      })

  -- the table whose journal was opened, and what was opened is what is given
  abbrev seen : Database
  seen = base_over c.in-Ok-Serve.index c.in-Ok-Serve.store

  given : g.P.Source.told → g.B.Bench.told → (base : Database) (history : List Answered) →
      ServesOver (g.P.Source.left old.schema) (g.P.Source.left old.table) (g.B.Bench.file old.bench) base history →
      (seen ≡ base) × (c.in-Ok-Serve.store.history ≡ history)
  given ptold told base history over =
      let store = c.in-Ok-Serve.store in
      same_given c.one_reading.ensures c.groups_of_a_schema.ensures.entries _ _ (g.B.Bench.file old.bench) seen base store.history history store.journal.gate
      (goes.over ptold) (stands_so g.B.Bench old.bench mid.bench store goes.fit.0 goes.reads.file told) over

  serving : Serving g.P.Source g.I.Source g.B.Bench c.in-Ok-Serve.batch (ended_status c.serve.result) old new
  serving =
      let at = old.bench in
      let opened = mid.bench in
      let later = new.bench in
      let text = g.I.Source.left old.input in
      let n = c.in-Ok-Serve.batch in
      let store = c.in-Ok-Serve.store in
      let kept = store.history in
      let ended = c.serve.result in
      let does = c.serve.ensures.session in
      let after = outside g.I.Source g.B.Bench new.input later in
      record {
        served = λ ptold itold told base history over.
            ends_so g.B.Bench at opened later goes.reads seen base kept history (given ptold told base history over) n text (ended_status ended) after
            (session_ends ended seen n kept c.serve.new.store.history
            (record { input = text; sent = g.B.Bench.sent opened; file = g.B.Bench.file at }) after
            (does.done itold told) (does.input_end itold told) (does.limit_end itold told) (does.memory_end itold told)
            (λ fine. subst (λ (s : SecretView). StandsFor after.file s.shape c.serve.new.store.history) does.table.0 (does.stands told fine))
            c.serve.ensures.alone);
        any_moment = λ ptold itold told quiet base history over.
            stops_so g.B.Bench at opened later goes.reads seen base kept history (given ptold told base history over) n text over.stands
            (goes.reads.untouched quiet) (does.any_moment itold told (still_quiet g.B.Bench at opened goes.reads quiet));
        undisclosed = λ ptold told quiet base history over.
            harmless_so g.B.Bench at opened later goes.reads seen base kept history (given ptold told base history over) n text c.stops_are_legal.ensures _ _
            over (goes.reads.untouched quiet)
            (does.legal told (still_quiet g.B.Bench at opened goes.reads quiet));
        serve_calls = λ ptold itold told done base history over.
            calls_so g.B.Bench at opened later goes.reads seen base kept history (given ptold told base history over) n text
            (goes.ticks told refl) ((stop_says ended).done _ done (does.calls itold told));
        complete = λ ptold itold told base history over within none.
            done_or_wants g.P.Source g.I.Source g.B.Bench _ old new (stop_unrefused ended (λ is. omega (arith, does.limit itold is, within)))
            (stop_after g.B.Bench later goes.steady.2 ends.tells) none (λ is rose. c.serve.ensures.alone (ended_by ended stop.Spare is));
      }

  all : Answers g.P.Source g.I.Source g.B.Bench (command_of (map string_bytes c.args.words.now.items)) c.ended.result old new
  all =
      answers g.P.Source g.I.Source g.B.Bench c.groups_of_a_schema.ensures.entries _ ready _ old mid.schema mid.table mid.bench new.input new.bench new.spare
      goes ends c.ended.ensures serving

pub serve_ends : goal.returns-in-Ok-Serve
serve_ends g c = record {
  says = (all g c).says;
  lives = goes_on g.P.Source g.I.Source g.B.Bench _ _ (old g c) (new g c) c.lives.ensures.longer c.one_reading.ensures c.read_words.ensures.batch
      (all g c).does;
  does = (all g c).does;
  nothing_began = (all g c).nothing_began;
}
