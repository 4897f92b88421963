-- What `run` says of `grow`.
use Rattle.std.proofs.Common.{◌≡◌, List, ℕ, refl, sym, ap, subst, map, string_bytes}
use Rattle.std.proofs.lemmas.Bool.{false≢true, true≢false}
use Rattle.audit_types.specs.declared.records.Answered.{Answered}
use Rattle.audit_types.specs.Widening.{over as over_rows, widened}
use Rattle.bench_core.specs.Calls.{LeavesOnly}
use Rattle.bench_core.specs.Reports.{not_called}
use Rattle.table_load.specs.Database.{Database, table_in}
use Rattle.journal_form.specs.Journal.{StandsFor}
use Rattle.answer_journal.specs.Moments.{IsBeforeOrGrown}
use Rattle.audit_store.specs.Growing.{CanGrow}
use Rattle.auditor_top.specs.declared.words.Command.TheVariants as command
use Rattle.auditor_top.specs.declared.ready.Ready.{Ready}
use Rattle.auditor_top.specs.declared.ready.Ready.TheVariants as made
use Rattle.auditor_top.specs.Words.{command_of}
use Rattle.auditor_top.specs.Commands.{AreSoundFilesOf, GrowsOver}
use Rattle.auditor_top.specs.Ends.{GrowEnds}
use Rattle.auditor_top.specs.Faults.{growing_status}
use Rattle.auditor_top.specs.Ready.{base_around}
use Rattle.auditor_top.specs.Runs.{Growing, Objects, objects}
use Rattle.auditor_top.specs.Stages.{reading_lines}
use Rattle.auditor_top.proofs.GrowthEndings.{done_so, growth_ends, growth_file, growth_kept, growth_says, growth_unrefused}
use Rattle.auditor_top.proofs.Failures.{is_done, step_tells, unread_input}
use Rattle.auditor_top.proofs.LastSteps.{Answers, GoesOnWith, StepEnds, answers, done_or_wants, goes_with, not_of_lines, not_of_spare}
use Rattle.auditor_top.proofs.OneRunMore.{goes_on}
use Rattle.auditor_top.proofs.OneTable.{one_base}
use Rattle.auditor_top.proofs.StepStatuses.{always_before}
use Rattle.auditor_top.proofs.running.run.Given.{Over}
use Rattle.auditor_top.proofs.running.run.Goals as goal

module _ (g : Over) (c : goal.After-grown g) where
  abbrev old : Objects g.row.P.Denot g.row.I.Denot g.row.B.Denot
  old = objects c.args.schema.now c.args.table.now c.args.input.now c.args.bench.now c.args.spare.now

  abbrev mid : Objects g.row.P.Denot g.row.I.Denot g.row.B.Denot
  mid = objects c.open.new.schema c.open.new.table c.args.input.now c.open.new.bench c.args.spare.now

  abbrev new : Objects g.row.P.Denot g.row.I.Denot g.row.B.Denot
  new = objects c.open.new.schema c.open.new.table c.args.input.now c.grow.new.bench c.args.spare.now

  abbrev ready : Ready
  ready = made.Grow c.in-Ok-Grow.guarded

  goes : GoesOnWith g.P.Source g.B.Bench (command_of (map string_bytes c.args.words.now.items)) ready old mid
  goes =
      let found = c.in-Ok-Grow in
      let opening = c.open.ensures in
      goes_with g.P.Source g.B.Bench _ _ _ ready old mid found.field-0-is found.ensures.asked c.in-Ok.ensures.command found.ensures.ready
      found.ensures.over opening.reads found.ensures.steady opening.unread opening.unopened found.ensures.ticks

  ends : StepEnds g.I.Source g.B.Bench ready (growing_status c.grow.result) mid new
  ends =
      let does = c.grow.ensures in
      let step = growth_says c.grow.result does.ends in
      record {
        last = step.last;
        words = step.words;
        file = λ told table for. growth_file c.grow.result _ c.in-Ok-Grow.guarded does.ends
            (done_so c.grow.result (λ grown. grown.0) (does.done told)) (λ refusal is. does.cause refusal told is);
        spare_file = λ told calls. absurd (false≢true calls);
        input = λ itold reads. absurd (false≢true reads);
        tells = step_tells g.I.Source g.B.Bench _ c.grow.result (record {
          input = unread_input g.I.Source old.input _ (λ is. not_of_lines command.Grow _ refl step.words (ap growing_status is));
          bench = does.fault;
          spare = not_called g.B.Bench old.spare _ (λ is. not_of_spare command.Grow _ refl step.words (ap growing_status is));
        });
        quiet = λ told quiet fine. does.quiet told quiet (λ is. fine (ap growing_status is));
        nothing_began = λ told opens closed quiet table unready. does.untouched told quiet unready;
        before_lines = always_before reading_lines (growing_status c.grow.result) (refl, does.sent);
        unwritten = λ told. step.at_lines _ _ (λ same. same) does.kept;
        before_spare = λ calls. absurd (false≢true calls);
        never_written = λ told none. absurd (true≢false none);
        no_lines = λ none. refl;
        spare = λ none. refl;
      }

  -- opening called nothing of the bench
  abbrev begun : g.row.B.Denot → Objects g.row.P.Denot g.row.I.Denot g.row.B.Denot
  begun at = objects old.schema old.table old.input at old.spare

  -- what is given is so of the table that was opened
  abbrev seen : g.P.Source.told → Database
  seen ptold = base_around (goes.over ptold).0 (goes.over ptold).1 c.in-Ok-Grow.guarded

  is_seen : (ptold : g.P.Source.told) (base : Database) → AreSoundFilesOf (g.P.Source.left old.schema) (g.P.Source.left old.table) base → seen ptold ≡ base
  is_seen ptold base sound = one_base c.groups_of_a_schema.ensures.entries _ _ (seen ptold) base (goes.over ptold).2 sound

  given : (ptold : g.P.Source.told) (base : Database) (rows : ℕ) (history : List Answered) →
      GrowsOver (g.P.Source.left old.schema) (g.P.Source.left old.table) (g.B.Bench.file mid.bench) base rows history →
      GrowsOver (g.P.Source.left old.schema) (g.P.Source.left old.table) (g.B.Bench.file mid.bench) (seen ptold) rows history
  given ptold base rows history over =
      subst (λ (b : Database). GrowsOver (g.P.Source.left old.schema) (g.P.Source.left old.table) (g.B.Bench.file mid.bench) b rows history)
      (sym (is_seen ptold base over.files)) over

  abbrev can : (ptold : g.P.Source.told) (base : Database) (rows : ℕ) (history : List Answered) →
      GrowsOver (g.P.Source.left old.schema) (g.P.Source.left old.table) (g.B.Bench.file mid.bench) base rows history →
      CanGrow (g.B.Bench.file mid.bench) (table_in (seen ptold))
  can ptold base rows history over =
      let held = given ptold base rows history over in
      record { rows = rows; history = history; fewer = held.fewer; stands = held.stands; has = held.legal }

  growing : Growing g.P.Source g.I.Source g.B.Bench (growing_status c.grow.result) (begun mid.bench) new
  growing =
      let does = c.grow.ensures in
      let shape = c.in-Ok-Grow.guarded.setting.shape in
      let file = g.B.Bench.file mid.bench in
      let later = g.B.Bench.file new.bench in
      record {
        grown = λ ptold told base rows history over.
            let held = given ptold base rows history over in
            subst (λ (b : Database). GrowEnds (growing_status c.grow.result) b history file later) (is_seen ptold base over.files)
            (growth_ends c.grow.result (seen ptold) history file later does.ends
            (done_so c.grow.result (λ grown. subst (λ (h : List Answered). StandsFor later shape (widened shape.rows h))
            (c.one_reading.ensures file _ _ _ _ _ _ grown.0.stands.1 held.stands.1).1 grown.1) (does.done told))
            (does.grows told (can ptold base rows history over)) does.kept);
        growing = λ ptold told quiet base rows history over.
            subst (λ (b : Database). LeavesOnly g.B.Bench mid.bench new.bench
            (IsBeforeOrGrown (over_rows rows b.secret.shape) history b.secret.shape.rows (g.B.Bench.sent mid.bench))) (is_seen ptold base over.files)
            (does.any_moment told quiet (can ptold base rows history over));
        unsent = does.sent;
        kept = λ undone fine. growth_kept c.grow.result undone fine does.kept;
        grow_calls = λ told done. is_done _ c.grow.result _ done (does.ticks told);
        grows = λ ptold told base rows history over none.
            done_or_wants g.P.Source g.I.Source g.B.Bench _ (begun mid.bench) new
            (growth_unrefused c.grow.result does.ends (does.grows told (can ptold base rows history over))) ends.tells none
            (λ is. absurd (not_of_spare command.Grow _ refl (growth_says c.grow.result does.ends).words is));
      }

  all : Answers g.P.Source g.I.Source g.B.Bench (command_of (map string_bytes c.args.words.now.items)) c.grown.result old new
  all =
      answers g.P.Source g.I.Source g.B.Bench c.groups_of_a_schema.ensures.entries _ ready _ old mid.schema mid.table mid.bench new.input new.bench new.spare
      goes ends c.grown.ensures (subst (λ b. Growing g.P.Source g.I.Source g.B.Bench (growing_status c.grow.result) (begun b) new)
      (goes.unopened refl) growing)

pub grow_ends : goal.returns-in-Ok-Grow
grow_ends g c = record {
  says = (all g c).says;
  lives = goes_on g.P.Source g.I.Source g.B.Bench _ _ (old g c) (new g c) c.lives.ensures.longer c.one_reading.ensures c.read_words.ensures.batch
      (all g c).does;
  does = (all g c).does;
  nothing_began = (all g c).nothing_began;
}
