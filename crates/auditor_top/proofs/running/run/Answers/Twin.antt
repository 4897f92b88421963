-- What `run` says of `serve` over two journals that were opened.
use Rattle.std.proofs.Common.{◌≡◌, ◌+◌, ℕ, List, refl, sym, ◌∙◌, ap, subst, arith, inr, true, map, string_bytes}
use Rattle.std.proofs.lemmas.Bool.{true≢false}
use Rattle.audit_types.specs.History.{Table as Guarded}
use Rattle.audit_types.specs.declared.records.Answered.{Answered}
use Rattle.bench_core.specs.Calls.{IsQuiet, LeavesOnly}
use Rattle.bench_core.specs.Moments.{then_tells}
use Rattle.table_load.specs.Cells.{SecretView}
use Rattle.table_load.specs.Database.{Database, table_in}
use Rattle.journal_form.specs.Journal.{StandsFor}
use Rattle.line_wire.specs.Lines.{counted_lines}
use Rattle.audit_store.specs.Stores.{table_of as store_table}
use Rattle.audit_session.specs.Ends.{KeepsCalls, TakesCalls, base_over}
use Rattle.audit_session.specs.Stops.{IsHarmless, LeavesBoth, SpareStops, StopsOver}
use Rattle.twin_journal.specs.Twins.{CatchesUp, KeepTogether, KeepWhole, calls_to_open}
use Rattle.auditor_top.specs.declared.words.Command.TheVariants as command
use Rattle.auditor_top.specs.declared.ready.Ready.{Ready}
use Rattle.auditor_top.specs.declared.ready.Ready.TheVariants as made
use Rattle.auditor_top.specs.Words.{command_of}
use Rattle.auditor_top.specs.Causes.{BothCause}
use Rattle.auditor_top.specs.Commands.{AreSoundFilesOf, TwinsOver}
use Rattle.auditor_top.specs.Ends.{Outside, outside}
use Rattle.auditor_top.specs.Faults.{ended_status}
use Rattle.auditor_top.specs.Ready.{base_around}
use Rattle.auditor_top.specs.Runs.{Objects, TwinServing, objects}
use Rattle.auditor_top.specs.Twins.{LeavesTwins, TwinEnds}
use Rattle.auditor_top.proofs.LastSteps.{Answers, GoesOnWith, StepEnds, answers, done_or_wants, goes_with}
use Rattle.auditor_top.proofs.OneRunMore.{goes_on, left_of_spare, spare_goes_on}
use Rattle.auditor_top.proofs.OneTable.{one_base}
use Rattle.auditor_top.proofs.StepFaults.{not_both, stop_reads, stop_says}
use Rattle.auditor_top.proofs.StopEndings.{stop_ends, stop_unrefused}
use Rattle.auditor_top.proofs.TwinEndings.{front_is_legal, twins_cause, twins_end}
use Rattle.auditor_top.proofs.TwinSessions.{always_harmless, then_spare_stops, then_stops}
use Rattle.auditor_top.proofs.running.run.Given.{Over}
use Rattle.auditor_top.proofs.running.run.Goals as goal

module _ (g : Over) (c : goal.After-drop-index-inside-in-Ok-start-7 g) where
  abbrev old : Objects g.row.P.Denot g.row.I.Denot g.row.B.Denot
  old = objects c.args.schema.now c.args.table.now c.args.input.now c.args.bench.now c.args.spare.now

  abbrev mid : Objects g.row.P.Denot g.row.I.Denot g.row.B.Denot
  mid = objects c.open.new.schema c.open.new.table c.args.input.now c.open.new.bench c.args.spare.now

  abbrev new : Objects g.row.P.Denot g.row.I.Denot g.row.B.Denot
  new = objects c.open.new.schema c.open.new.table c.serve_twin.new.source c.serve_twin.new.bench c.serve_twin.new.spare

  abbrev ready : Ready
  ready = made.Twin c.in-Ok-Twin.index c.in-Ok-Twin.guarded c.in-Ok-Twin.batch

  goes : GoesOnWith g.P.Source g.B.Bench (command_of (map string_bytes c.args.words.now.items)) ready old mid
  goes =
      let found = c.in-Ok-Twin in
      let opening = c.open.ensures in
      goes_with g.P.Source g.B.Bench _ _ _ ready old mid found.field-0-is found.ensures.asked c.in-Ok.ensures.command found.ensures.ready
      found.ensures.over opening.reads found.ensures.steady opening.unread opening.unopened found.ensures.ticks

  -- the journals keep together, and the history is the longer one
  together : g.B.Bench.told → KeepWhole c.in-Ok-Twin.guarded (g.B.Bench.file mid.bench) (g.B.Bench.file old.spare)
      c.in-Ok-start.twin.store.history
  together told = c.in-Ok-start.ensures.together told told

  ends : StepEnds g.I.Source g.B.Bench ready (ended_status c.serve_twin.result) mid new
  ends =
      let begun = c.in-Ok-start.ensures in
      let does = c.serve_twin.ensures.session in
      stop_ends g.I.Source g.B.Bench ready c.serve_twin.result mid new (record {
        input = λ is. refl;
        limit = λ is. refl;
        other = λ is. refl;
        tells = record {
          input = record { later = does.later; failed = does.input; last_read = does.last_read; steady = does.steady };
          bench = then_tells g.B.Bench mid.bench c.start.new.bench new.bench _ _ begun.fault (not_both _ _) does.fault;
          spare = then_tells g.B.Bench old.spare c.start.new.spare new.spare _ _ begun.spare_fault (not_both _ _) c.serve_twin.ensures.spare.fault;
        };
        file = λ told table for. front_is_legal c.in-Ok-Twin.guarded _ _ _ (together told);
        spare_file = λ told. tt;
        reads = λ itold reads. stop_reads c.serve_twin.result _ _ (does.read itold) (does.within itold) (does.input_within itold) (does.limit itold);
        quiet = λ told quiet. does.quiet told (begun.quiet told quiet (not_both _ _));
        never_written = λ told none. absurd (true≢false none);
        no_lines = λ none. absurd (true≢false none);
        spare = λ none. absurd (true≢false none);
      })

  -- opening called nothing of the bench
  abbrev begun : g.row.B.Denot → Objects g.row.P.Denot g.row.I.Denot g.row.B.Denot
  begun at = objects old.schema old.table old.input at old.spare

  -- the table of the groups is every table that the files mean
  abbrev seen : Database
  seen = base_around c.in-Ok-Twin.index.columns c.in-Ok-Twin.index.public c.in-Ok-Twin.guarded

  -- what is given: its files, and two journals of it of which one begins the other
  abbrev IsGiven : Database → List Answered → List Answered → List Answered → Type 0
  IsGiven base main other whole =
      TwinsOver (g.P.Source.left old.schema) (g.P.Source.left old.table) (g.B.Bench.file mid.bench) (g.B.Bench.file old.spare) base main other whole

  keep : g.P.Source.told → (base : Database) (main other whole : List Answered) → IsGiven base main other whole →
      KeepTogether (table_in seen) (g.B.Bench.file mid.bench) (g.B.Bench.file old.spare) main other whole
  keep ptold base main other whole over =
      subst (λ (b : Database). KeepTogether (table_in b) (g.B.Bench.file mid.bench) (g.B.Bench.file old.spare) main other whole)
      (sym (one_base c.groups_of_a_schema.ensures.entries _ _ seen base (goes.over ptold) over.files)) over.together

  -- what the lines are answered over, which is that table
  abbrev asked : Database
  asked = base_over c.in-Ok-Twin.index c.in-Ok-start.twin.store

  asks : asked ≡ seen
  asks =
      ap (λ (t : Guarded). base_around c.in-Ok-Twin.index.columns c.in-Ok-Twin.index.public t) c.in-Ok-start.ensures.store.0

  -- what the session says of it is said of every table that the files mean, and of the longer history
  said : (P : Database → List Answered → Type 0) → g.P.Source.told → g.B.Bench.told → (base : Database) (main other whole : List Answered) →
      IsGiven base main other whole → P asked c.in-Ok-start.twin.store.history → P base whole
  said P ptold told base main other whole over holds =
      subst (λ (h : List Answered). P base h) (c.in-Ok-start.ensures.longer main other whole told told (keep ptold base main other whole over))
      (subst (λ (b : Database). P b c.in-Ok-start.twin.store.history)
      (asks ∙ one_base c.groups_of_a_schema.ensures.entries _ _ seen base (goes.over ptold) over.files) holds)

  -- until both are brought up
  quiet_started : g.B.Bench.told → IsQuiet g.B.Bench mid.bench → IsQuiet g.B.Bench c.start.new.bench
  quiet_started told quiet = c.in-Ok-start.ensures.quiet told quiet (not_both _ _)

  spare_quiet_started : g.B.Bench.told → IsQuiet g.B.Bench old.spare → IsQuiet g.B.Bench c.start.new.spare
  spare_quiet_started told quiet = c.in-Ok-start.ensures.spare_quiet told quiet (not_both _ _)

  catching : g.P.Source.told → g.B.Bench.told → IsQuiet g.B.Bench mid.bench → (base : Database) (main other whole : List Answered) →
      IsGiven base main other whole →
      LeavesOnly g.B.Bench mid.bench c.start.new.bench (CatchesUp base.secret.shape main whole (g.B.Bench.sent mid.bench))
  catching ptold told quiet base main other whole over =
      subst (λ (b : Database). LeavesOnly g.B.Bench mid.bench c.start.new.bench (CatchesUp b.secret.shape main whole (g.B.Bench.sent mid.bench)))
      (one_base c.groups_of_a_schema.ensures.entries _ _ seen base (goes.over ptold) over.files)
      (c.in-Ok-start.ensures.main_moments main other whole told told quiet (keep ptold base main other whole over))

  spare_catching : g.P.Source.told → g.B.Bench.told → IsQuiet g.B.Bench old.spare → (base : Database) (main other whole : List Answered) →
      IsGiven base main other whole →
      LeavesOnly g.B.Bench old.spare c.start.new.spare (CatchesUp base.secret.shape other whole (g.B.Bench.sent old.spare))
  spare_catching ptold told quiet base main other whole over =
      subst (λ (b : Database). LeavesOnly g.B.Bench old.spare c.start.new.spare (CatchesUp b.secret.shape other whole (g.B.Bench.sent old.spare)))
      (one_base c.groups_of_a_schema.ensures.entries _ _ seen base (goes.over ptold) over.files)
      (c.in-Ok-start.ensures.spare_moments main other whole told told quiet (keep ptold base main other whole over))

  both_left : g.P.Source.told → g.I.Source.told → g.B.Bench.told → IsQuiet g.B.Bench mid.bench → IsQuiet g.B.Bench old.spare →
      (base : Database) (main other whole : List Answered) → IsGiven base main other whole → (image spare : List ℕ) →
      g.B.Bench.leaves new.bench image → g.B.Bench.leaves new.spare spare →
      LeavesTwins base c.in-Ok-Twin.batch main other whole (outside g.I.Source g.B.Bench old.input mid.bench)
      (outside g.I.Source g.B.Bench new.input new.bench) image spare
  both_left ptold itold told quiet spare_quiet base main other whole over image spare left spare_left =
      let n = c.in-Ok-Twin.batch in
      let lines = counted_lines (g.I.Source.left old.input) in
      let sent = g.B.Bench.sent mid.bench in
      let later = g.B.Bench.sent new.bench in
      inr (said (λ (b : Database) (h : List Answered). LeavesBoth b n h lines sent later image spare) ptold told base main other whole over
      (subst (λ (bytes : List ℕ). LeavesBoth asked n c.in-Ok-start.twin.store.history lines bytes later image spare) c.in-Ok-start.ensures.sent
      (c.serve_twin.ensures.spare.both itold told told (quiet_started told quiet) (spare_quiet_started told spare_quiet) image spare left spare_left)))

  -- what is harmless for the table that was read is so for every one that the files mean
  harmless_for : g.P.Source.told → (base : Database) → AreSoundFilesOf (g.P.Source.left old.schema) (g.P.Source.left old.table) base →
      (started later : g.row.B.Denot) → LeavesOnly g.B.Bench started later (λ image sent. IsHarmless (store_table c.in-Ok-start.twin.store) image) →
      LeavesOnly g.B.Bench started later (λ image sent. IsHarmless (table_in base) image)
  harmless_for ptold base sound started later harmless =
      subst (λ (b : Database). LeavesOnly g.B.Bench started later (λ image sent. IsHarmless (table_in b) image))
      (one_base c.groups_of_a_schema.ensures.entries _ _ seen base (goes.over ptold) sound)
      (subst (λ (t : Guarded). LeavesOnly g.B.Bench started later (λ image sent. IsHarmless t image)) c.in-Ok-start.ensures.store.0 harmless)

  answering : TwinServing g.P.Source g.I.Source g.B.Bench c.in-Ok-Twin.batch (ended_status c.serve_twin.result) (begun mid.bench) new
  answering =
      let n = c.in-Ok-Twin.batch in
      let ended = c.serve_twin.result in
      let opening = c.in-Ok-start.ensures in
      let does = c.serve_twin.ensures.session in
      let step = stop_says ended in
      let kept = c.in-Ok-start.twin.store.history in
      let now = c.serve_twin.new.twin.store.history in
      let lines = counted_lines (g.I.Source.left old.input) in
      let started = c.start.new.bench in
      let spare_started = c.start.new.spare in
      let before : Outside = outside g.I.Source g.B.Bench old.input mid.bench in
      let after : Outside = outside g.I.Source g.B.Bench new.input new.bench in
      let spare = g.B.Bench.file new.spare in
      let sent = g.B.Bench.sent mid.bench in
      let spare_sent = g.B.Bench.sent old.spare in
      record {
        twins_served = λ ptold itold told base main other whole over.
            said (λ (b : Database) (h : List Answered). TwinEnds n (ended_status ended) b main other h before after spare) ptold told base main other whole over
            (subst (λ (bytes : List ℕ). TwinEnds n (ended_status ended) asked main other kept (record before { sent = bytes }) after spare) opening.sent
            (twins_end ended asked n main other kept now (record before { sent = g.B.Bench.sent started }) after spare
            (does.done itold told) (does.input_end itold told) (does.limit_end itold told) (does.memory_end itold told) (does.spare_end itold told)
            (λ fine. subst (λ (s : SecretView). StandsFor after.file s.shape now) does.table.0 (does.stands told fine))
            (λ fine spare_fine. subst (λ (s : SecretView). StandsFor spare s.shape now) does.table.0
            (c.serve_twin.ensures.spare.stands told fine spare_fine))));
        twin_moment = λ ptold itold told quiet base main other whole over.
            then_stops g.B.Bench mid.bench started new.bench base main whole (catching ptold told quiet base main other whole over) n lines
            (said (λ (b : Database) (h : List Answered). LeavesOnly g.B.Bench started new.bench (StopsOver b n h lines sent)) ptold told base main other whole
            over (subst (λ (bytes : List ℕ). LeavesOnly g.B.Bench started new.bench (StopsOver asked n kept lines bytes)) opening.sent
            (does.any_moment itold told (quiet_started told quiet))));
        spare_moment = λ ptold itold told quiet base main other whole over.
            then_spare_stops g.B.Bench old.spare spare_started new.spare base other whole (spare_catching ptold told quiet base main other whole over) n lines
            (said (λ (b : Database) (h : List Answered). LeavesOnly g.B.Bench spare_started new.spare (SpareStops b n h lines spare_sent)) ptold told base main
            other whole over (subst (λ (bytes : List ℕ). LeavesOnly g.B.Bench spare_started new.spare (SpareStops asked n kept lines bytes)) opening.spare_sent
            (c.serve_twin.ensures.spare.moments itold told (spare_quiet_started told quiet))));
        twins_left = both_left;
        spare_lives = λ ptold itold told quiet spare_quiet.
            spare_goes_on g.P.Source g.I.Source g.B.Bench n (begun mid.bench) new c.lives.ensures.longer c.one_reading.ensures
            (c.read_words.ensures.batch n true goes.named)
            (λ base main other whole over image bytes left all. left_of_spare base n main other whole before after bytes (g.B.Bench.file new.bench) image all
            (both_left ptold itold told quiet spare_quiet base main other whole over (g.B.Bench.file new.bench) image
            (g.met.B.Bench.reads new.bench told) left));
        undisclosed = λ ptold told quiet base main other whole over.
            always_harmless g.B.Bench mid.bench started new.bench base main whole (catching ptold told quiet base main other whole over)
            c.stops_are_legal.ensures _ _ over.files over.together.legal
            (harmless_for ptold base over.files started new.bench (does.legal told (quiet_started told quiet)));
        spare_undisclosed = λ ptold told quiet base main other whole over.
            always_harmless g.B.Bench old.spare spare_started new.spare base other whole (spare_catching ptold told quiet base main other whole over)
            c.stops_are_legal.ensures _ _ over.files over.together.legal
            (harmless_for ptold base over.files spare_started new.spare (c.serve_twin.ensures.spare.legal told (spare_quiet_started told quiet)));
        apart = λ ptold told quiet none. let keeps = together told in
            absurd (none seen keeps.0 keeps.1 kept (record { files = goes.over ptold; together = keeps.2 }));
        spare_apart = λ ptold told quiet none. let keeps = together told in
            absurd (none seen keeps.0 keeps.1 kept (record { files = goes.over ptold; together = keeps.2 }));
        cause = λ ptold told base sound.
            subst (λ (b : Database). BothCause (ended_status ended) (command.Serve n true) (g.B.Bench.file mid.bench) (g.B.Bench.file old.spare) (table_in b))
            (one_base c.groups_of_a_schema.ensures.entries _ _ seen base (goes.over ptold) sound) (twins_cause ended n _ _ _ kept (together told));
        spare_quiet = λ told quiet fine. c.serve_twin.ensures.spare.quiet told (spare_quiet_started told quiet) (λ is. fine (ap ended_status is));
        spare_unsent = c.serve_twin.ensures.spare.sent ∙ opening.spare_sent;
        spare_unwritten = step.at_lines _;
        twin_calls = λ ptold itold told done base main other whole over.
            said (λ (b : Database) (h : List Answered).
            TakesCalls b h n lines (g.B.Bench.moment mid.bench + calls_to_open main whole) (g.B.Bench.moment new.bench)) ptold told base main other whole over
            (subst (λ (m : ℕ). TakesCalls asked kept n lines m (g.B.Bench.moment new.bench))
            (opening.ticks main other whole told told (keep ptold base main other whole over)) (step.done _ done (does.calls itold told)));
        spare_calls = λ ptold itold told done base main other whole over.
            said (λ (b : Database) (h : List Answered).
            KeepsCalls b h n lines (g.B.Bench.moment old.spare + calls_to_open other whole) (g.B.Bench.moment new.spare)) ptold told base main other whole over
            (subst (λ (m : ℕ). KeepsCalls asked kept n lines m (g.B.Bench.moment new.spare))
            (opening.spare_ticks main other whole told told (keep ptold base main other whole over))
            (step.done _ done (c.serve_twin.ensures.spare.calls itold told)));
        twins_complete = λ ptold itold told base main other whole over within none fine.
            done_or_wants g.P.Source g.I.Source g.B.Bench _ (begun mid.bench) new
            (stop_unrefused ended (λ is. omega (arith, does.limit itold is, within))) ends.tells none (λ is. fine);
      }

  all : Answers g.P.Source g.I.Source g.B.Bench (command_of (map string_bytes c.args.words.now.items)) c.ended-in-Ok-start.result old new
  all =
      answers g.P.Source g.I.Source g.B.Bench c.groups_of_a_schema.ensures.entries _ ready _ old mid.schema mid.table mid.bench new.input new.bench new.spare
      goes ends c.ended-in-Ok-start.ensures
      (subst (λ b. TwinServing g.P.Source g.I.Source g.B.Bench c.in-Ok-Twin.batch (ended_status c.serve_twin.result) (begun b) new) (goes.unopened refl)
      answering)

pub twin_ends : goal.returns-in-Ok-start
twin_ends g c = record {
  says = (all g c).says;
  lives = goes_on g.P.Source g.I.Source g.B.Bench _ _ (old g c) (new g c) c.lives.ensures.longer c.one_reading.ensures c.read_words.ensures.batch
      (all g c).does;
  does = (all g c).does;
  nothing_began = (all g c).nothing_began;
}
