-- What `run` says of `serve` whose two journals weren't opened.
use Rattle.std.proofs.Common.{◌≡◌, ℕ, List, refl, sym, ◌∙◌, ap, subst, inl, true, map, string_bytes}
use Rattle.std.specs.Prelude.{⊤}
use Rattle.std.proofs.lemmas.Bool.{true≢false}
use Rattle.audit_types.specs.declared.records.Answered.{Answered}
use Rattle.bench_core.specs.Calls.{IsQuiet, LeavesOnly}
use Rattle.bench_core.specs.Moments.{weakens}
use Rattle.table_load.specs.Database.{Database, table_in}
use Rattle.twin_journal.specs.Twins.{CatchesUp, KeepApart, KeepTogether, TwinCause}
use Rattle.twin_journal.specs.declared.starting.TwinRefusal.{TwinRefusal}
use Rattle.bench_core.specs.Ends.{EndsBy, IsStop}
use Rattle.bench_core.specs.EndLaws.{by_cause}
use Rattle.bench_core.specs.Stops.{IsOfBenches}
use Rattle.bench_core.specs.declared.stops.End.{End}
use Rattle.bench_core.specs.declared.stops.End.TheVariants.{Stopped}
use Rattle.bench_core.specs.declared.stops.Stop.TheVariants as stop
use Rattle.auditor_top.specs.declared.words.Command.TheVariants as command
use Rattle.auditor_top.specs.declared.ready.Ready.{Ready}
use Rattle.auditor_top.specs.declared.ready.Ready.TheVariants as made
use Rattle.auditor_top.specs.Words.{command_of}
use Rattle.auditor_top.specs.Causes.{BothCause}
use Rattle.auditor_top.specs.Commands.{TwinsOver}
use Rattle.auditor_top.specs.Ends.{Outside, outside}
use Rattle.auditor_top.specs.Faults.{end_status, step_status, twin_refusal}
use Rattle.auditor_top.specs.Ready.{base_around}
use Rattle.auditor_top.specs.Runs.{Objects, TwinServing, objects}
use Rattle.auditor_top.specs.Twins.{BothCatchUp}
use Rattle.auditor_top.proofs.Failures.{step_tells, unread_input}
use Rattle.auditor_top.proofs.LastSteps.{Answers, GoesOnWith, StepEnds, answers, done_or_wants, goes_with}
use Rattle.auditor_top.proofs.OneRunMore.{goes_on, left_of_spare, spare_goes_on}
use Rattle.auditor_top.proofs.OneTable.{one_base}
use Rattle.auditor_top.proofs.StepFaults.{end_unrefused}
use Rattle.auditor_top.proofs.TwinEndings.{TwinSays, front_is_legal, refusal, twin_cause, twin_file, twin_gave_up, twin_says, twin_words}
use Rattle.auditor_top.proofs.TwinSessions.{catching_is_harmless, left_between}
use Rattle.auditor_top.proofs.running.run.Given.{Over}
use Rattle.auditor_top.proofs.running.run.Goals as goal

module _ (g : Over) (c : goal.After-drop-index-inside-in-Ok-Twin-7 g) where
  abbrev old : Objects g.row.P.Denot g.row.I.Denot g.row.B.Denot
  old = objects c.args.schema.now c.args.table.now c.args.input.now c.args.bench.now c.args.spare.now

  abbrev mid : Objects g.row.P.Denot g.row.I.Denot g.row.B.Denot
  mid = objects c.open.new.schema c.open.new.table c.args.input.now c.open.new.bench c.args.spare.now

  abbrev new : Objects g.row.P.Denot g.row.I.Denot g.row.B.Denot
  new = objects c.open.new.schema c.open.new.table c.args.input.now c.start.new.bench c.start.new.spare

  abbrev ready : Ready
  ready = made.Twin c.in-Ok-Twin.index c.in-Ok-Twin.guarded c.in-Ok-Twin.batch

  goes : GoesOnWith g.P.Source g.B.Bench (command_of (map string_bytes c.args.words.now.items)) ready old mid
  goes =
      let found = c.in-Ok-Twin in
      let opening = c.open.ensures in
      goes_with g.P.Source g.B.Bench _ _ _ ready old mid found.field-0-is found.ensures.asked c.in-Ok.ensures.command found.ensures.ready
      found.ensures.over opening.reads found.ensures.steady opening.unread opening.unopened found.ensures.ticks

  -- how the opening ended
  abbrev end : End TwinRefusal
  end = c.in-Err-start.end

  step : TwinSays end
  step = twin_says end c.in-Err-start.ensures.ends

  cause : g.B.Bench.told → EndsBy IsOfBenches
      (λ refused. TwinCause refused (g.B.Bench.file mid.bench) (g.B.Bench.file old.spare) c.in-Ok-Twin.guarded) end
  cause told =
      by_cause end IsOfBenches _ (λ _. ⊤) c.in-Err-start.ensures.ends (λ refused is. c.in-Err-start.ensures.cause refused told told is)

  ends : StepEnds g.I.Source g.B.Bench ready (end_status twin_refusal end) mid new
  ends =
      let does = c.in-Err-start.ensures in
      record {
        last = step.last;
        words = twin_words end c.in-Ok-Twin.batch does.ends;
        file = λ told table for. twin_file end c.in-Ok-Twin.batch _ _ _ (cause told) (λ is. does.spare_second told (ap refusal is));
        spare_file = λ told calls. step.spare_file c.in-Ok-Twin.batch _;
        input = λ itold reads. step.input _;
        tells = step_tells g.I.Source g.B.Bench twin_refusal (refusal end) (record {
          input = unread_input g.I.Source old.input _ (λ is. step.no_input (ap (step_status twin_refusal) is));
          bench = does.fault;
          spare = does.spare_fault;
        });
        quiet = λ told quiet fine. does.quiet told quiet (λ is. fine (ap (step_status twin_refusal) is));
        nothing_began = λ told opens closed quiet table unready. does.untouched told told quiet
            (λ main other whole all. unready (front_is_legal _ _ (g.B.Bench.file old.spare) whole (main, other, all)));
        before_lines = step.at_lines _ (λ refuses. (refl, does.sent));
        unwritten = λ told. step.at_lines _ (λ refuses. (does.reads refuses).0.file);
        before_spare = λ calls other. step.at_spare _ (λ f is. does.main_first f (ap refusal is));
        never_written = λ told none. absurd (true≢false none);
        no_lines = λ none. refl;
        spare = λ none. absurd (true≢false none);
      }

  -- opening called nothing of the bench
  abbrev begun : g.row.B.Denot → Objects g.row.P.Denot g.row.I.Denot g.row.B.Denot
  begun at = objects old.schema old.table old.input at old.spare

  -- the table of the groups is every table that the files mean
  abbrev seen : Database
  seen = base_around c.in-Ok-Twin.index.columns c.in-Ok-Twin.index.public c.in-Ok-Twin.guarded

  -- what is given: its files, and two journals of it of which one begins the other
  abbrev IsGiven : Database → List Answered → List Answered → List Answered → Type 0
  IsGiven base main other whole =
      TwinsOver (g.P.Source.left old.schema) (g.P.Source.left old.table) (g.B.Bench.file mid.bench) (g.B.Bench.file old.spare) base main other whole

  keep : g.P.Source.told → (base : Database) (main other whole : List Answered) → IsGiven base main other whole →
      KeepTogether (table_in seen) (g.B.Bench.file mid.bench) (g.B.Bench.file old.spare) main other whole
  keep ptold base main other whole over =
      subst (λ (b : Database). KeepTogether (table_in b) (g.B.Bench.file mid.bench) (g.B.Bench.file old.spare) main other whole)
      (sym (one_base c.groups_of_a_schema.ensures.entries _ _ seen base (goes.over ptold) over.files)) over.together

  gave : g.P.Source.told → g.B.Bench.told → (base : Database) (main other whole : List Answered) → IsGiven base main other whole →
      IsStop end
  gave ptold told base main other whole over = c.in-Err-start.ensures.opens main other whole told told (keep ptold base main other whole over)

  catching : g.P.Source.told → g.B.Bench.told → IsQuiet g.B.Bench mid.bench → (base : Database) (main other whole : List Answered) →
      IsGiven base main other whole →
      LeavesOnly g.B.Bench mid.bench new.bench (CatchesUp base.secret.shape main whole (g.B.Bench.sent mid.bench))
  catching ptold told quiet base main other whole over =
      subst (λ (b : Database). LeavesOnly g.B.Bench mid.bench new.bench (CatchesUp b.secret.shape main whole (g.B.Bench.sent mid.bench)))
      (one_base c.groups_of_a_schema.ensures.entries _ _ seen base (goes.over ptold) over.files)
      (c.in-Err-start.ensures.main_moments main other whole told told quiet (keep ptold base main other whole over))

  spare_catching : g.P.Source.told → g.B.Bench.told → IsQuiet g.B.Bench old.spare → (base : Database) (main other whole : List Answered) →
      IsGiven base main other whole →
      LeavesOnly g.B.Bench old.spare new.spare (CatchesUp base.secret.shape other whole (g.B.Bench.sent old.spare))
  spare_catching ptold told quiet base main other whole over =
      subst (λ (b : Database). LeavesOnly g.B.Bench old.spare new.spare (CatchesUp b.secret.shape other whole (g.B.Bench.sent old.spare)))
      (one_base c.groups_of_a_schema.ensures.entries _ _ seen base (goes.over ptold) over.files)
      (c.in-Err-start.ensures.spare_moments main other whole told told quiet (keep ptold base main other whole over))

  -- what there is of the outside before and after
  abbrev before : Outside
  before = outside g.I.Source g.B.Bench old.input mid.bench

  abbrev after : Outside
  after = outside g.I.Source g.B.Bench old.input new.bench

  -- if memory ran out both files still catch up
  still_caught : g.P.Source.told → g.B.Bench.told → (base : Database) (main other whole : List Answered) → IsGiven base main other whole →
      end ≡ Stopped stop.NoMemory →
      BothCatchUp base main other whole before after (g.B.Bench.file new.bench) (g.B.Bench.file new.spare)
  still_caught ptold told base main other whole over is =
      let does = c.in-Err-start.ensures in
      let found = does.no_memory main other whole told told (keep ptold base main other whole over) (ap refusal is) in
      subst (λ (b : Database). BothCatchUp b main other whole before after (g.B.Bench.file new.bench) (g.B.Bench.file new.spare))
      (one_base c.groups_of_a_schema.ensures.entries _ _ seen base (goes.over ptold) over.files) (refl, does.sent, found.0, found.1)

  -- if the spare failed all but it is as it was
  all_else_same : end ≡ Stopped stop.Spare → after ≡ before
  all_else_same is =
      let text = g.I.Source.left old.input in
      let same = (c.in-Err-start.ensures.spare_failed (ap refusal is)).file in
      ap (λ (sent : List ℕ). record { input = text; sent = sent; file = g.B.Bench.file new.bench }) c.in-Err-start.ensures.sent
      ∙ ap (λ (file : List ℕ). record { input = text; sent = g.B.Bench.sent mid.bench; file = file }) same

  both_left : g.P.Source.told → g.B.Bench.told → IsQuiet g.B.Bench mid.bench → IsQuiet g.B.Bench old.spare →
      (base : Database) (main other whole : List Answered) → IsGiven base main other whole → (image spare : List ℕ) →
      g.B.Bench.leaves new.bench image → g.B.Bench.leaves new.spare spare → BothCatchUp base main other whole before after image spare
  both_left ptold told quiet spare_quiet base main other whole over image spare left spare_left = (
    refl,
    c.in-Err-start.ensures.sent,
    left_between g.B.Bench mid.bench new.bench base.secret.shape main whole image
        (λ later. g.met.B.Bench.counts_now new.bench (g.B.Bench.moment mid.bench) image later left)
        (catching ptold told quiet base main other whole over),
    left_between g.B.Bench old.spare new.spare base.secret.shape other whole spare
        (λ later. g.met.B.Bench.counts_now new.spare (g.B.Bench.moment old.spare) spare later spare_left)
        (spare_catching ptold told spare_quiet base main other whole over),
  )

  -- the files don't keep together
  apart : g.P.Source.told → ((base : Database) (main other whole : List Answered) → IsGiven base main other whole → ⊥) →
      KeepApart (table_in seen) (g.B.Bench.file mid.bench) (g.B.Bench.file old.spare)
  apart ptold none main other whole all = none seen main other whole (record { files = goes.over ptold; together = all })

  refusing : TwinServing g.P.Source g.I.Source g.B.Bench c.in-Ok-Twin.batch (end_status twin_refusal end) (begun mid.bench) new
  refusing =
      let n = c.in-Ok-Twin.batch in
      let does = c.in-Err-start.ensures in
      let sent = g.B.Bench.sent mid.bench in
      let spare_sent = g.B.Bench.sent old.spare in
      record {
        twins_served = λ ptold itold told base main other whole over.
            twin_gave_up end n base main other whole before after (g.B.Bench.file new.spare) does.ends
            (gave ptold told base main other whole over) (still_caught ptold told base main other whole over) all_else_same;
        twin_moment = λ ptold itold told quiet base main other whole over.
            weakens g.B.Bench mid.bench new.bench (CatchesUp base.secret.shape main whole sent) _ (λ image bytes is. inl is)
            (catching ptold told quiet base main other whole over);
        spare_moment = λ ptold itold told quiet base main other whole over.
            weakens g.B.Bench old.spare new.spare (CatchesUp base.secret.shape other whole spare_sent) _ (λ image bytes is. inl is)
            (spare_catching ptold told quiet base main other whole over);
        twins_left = λ ptold itold told quiet spare_quiet base main other whole over image found left left_there.
            inl (both_left ptold told quiet spare_quiet base main other whole over image found left left_there);
        spare_lives = λ ptold itold told quiet spare_quiet.
            spare_goes_on g.P.Source g.I.Source g.B.Bench n (begun mid.bench) new c.lives.ensures.longer c.one_reading.ensures
            (c.read_words.ensures.batch n true goes.named)
            (λ base main other whole over image bytes left all. left_of_spare base n main other whole before after bytes
            (g.B.Bench.file new.bench) image all
            (inl (both_left ptold told quiet spare_quiet base main other whole over (g.B.Bench.file new.bench) image
            (g.met.B.Bench.reads new.bench told) left)));
        undisclosed = λ ptold told quiet base main other whole over image bytes now was.
            catching_is_harmless c.stops_are_legal.ensures _ _ base over.files main whole over.together.legal sent image bytes
            ((catching ptold told quiet base main other whole over).each image bytes was) now;
        spare_undisclosed = λ ptold told quiet base main other whole over image bytes now was.
            catching_is_harmless c.stops_are_legal.ensures _ _ base over.files other whole over.together.legal spare_sent image bytes
            ((spare_catching ptold told quiet base main other whole over).each image bytes was) now;
        apart = λ ptold told quiet none. does.untouched told told quiet (apart ptold none);
        spare_apart = λ ptold told quiet none. does.spare_untouched told told quiet (apart ptold none);
        cause = λ ptold told base sound.
            subst (λ (b : Database). BothCause (end_status twin_refusal end) (command.Serve n true) (g.B.Bench.file mid.bench) (g.B.Bench.file old.spare)
            (table_in b))
            (one_base c.groups_of_a_schema.ensures.entries _ _ seen base (goes.over ptold) sound) (twin_cause end n _ _ _ (cause told));
        spare_quiet = λ told quiet fine. does.spare_quiet told quiet (λ is. fine (ap (step_status twin_refusal) is));
        spare_unsent = does.spare_sent;
        spare_unwritten = step.at_lines _ (λ refuses. (does.reads refuses).1.file);
        twin_calls = λ ptold itold told done. absurd (step.undone done);
        spare_calls = λ ptold itold told done. absurd (step.undone done);
        twins_complete = λ ptold itold told base main other whole over within none fine.
            done_or_wants g.P.Source g.I.Source g.B.Bench _ (begun mid.bench) new
            (end_unrefused twin_refusal end does.ends (gave ptold told base main other whole over)) ends.tells none (λ is. fine);
      }

  all : Answers g.P.Source g.I.Source g.B.Bench (command_of (map string_bytes c.args.words.now.items)) c.from.result old new
  all =
      answers g.P.Source g.I.Source g.B.Bench c.groups_of_a_schema.ensures.entries _ ready _ old mid.schema mid.table mid.bench new.input new.bench new.spare
      goes ends c.from.ensures
      (subst (λ b. TwinServing g.P.Source g.I.Source g.B.Bench c.in-Ok-Twin.batch (end_status twin_refusal end) (begun b) new) (goes.unopened refl)
      refusing)

pub twin_refused : goal.returns-in-Ok-Twin
twin_refused g c = record {
  says = (all g c).says;
  lives = goes_on g.P.Source g.I.Source g.B.Bench _ _ (old g c) (new g c) c.lives.ensures.longer c.one_reading.ensures c.read_words.ensures.batch
      (all g c).does;
  does = (all g c).does;
  nothing_began = (all g c).nothing_began;
}
