-- What `run` says of `compact`.
use Rattle.std.proofs.Common.{ℕ, List, IsErrOf, OnOk, refl, sym, ◌∙◌, ap, subst, map, string_bytes, arith, inl}
use Rattle.std.proofs.lemmas.Bool.{false≢true, true≢false}
use Rattle.audit_types.specs.declared.records.Answered.{Answered}
use Rattle.bench_core.specs.Calls.{IsQuiet, IsUntouched, LeavesOnly}
use Rattle.bench_core.specs.Moments.{joins, still_quiet, weakens}
use Rattle.table_load.specs.Database.{Database, base_of, secret_table}
use Rattle.answer_journal.specs.Moments.{IsMade}
use Rattle.audit_store.specs.Stores.{IsAsLeft}
use Rattle.journal_compact.specs.Compactions.{Compacts, CompactsFront, IsUnmadeOrKept, SendsCounts}
use Rattle.bench_core.specs.declared.stops.End.TheVariants.{Stopped}
use Rattle.bench_core.specs.declared.stops.Stop.TheVariants as stop
use Rattle.auditor_top.specs.declared.words.Command.TheVariants as command
use Rattle.auditor_top.specs.declared.ready.Ready.{Ready}
use Rattle.auditor_top.specs.declared.ready.Ready.TheVariants as made
use Rattle.auditor_top.specs.Words.{command_of}
use Rattle.auditor_top.specs.Commands.{ServesOver}
use Rattle.auditor_top.specs.Compactions.{CompactEnds}
use Rattle.auditor_top.specs.Ends.{LeavesFile}
use Rattle.auditor_top.specs.Faults.{compacting_status}
use Rattle.auditor_top.specs.Runs.{Compacting, Objects, objects}
use Rattle.auditor_top.specs.Stages.{reading_lines}
use Rattle.auditor_top.proofs.CompactEndings.{compact_ends, compact_says, compact_spare, compact_unrefused, unsent_so}
use Rattle.auditor_top.proofs.Failures.{is_done, step_tells, stop_after, stopped_by, unread_input}
use Rattle.auditor_top.proofs.LastSteps.{Answers, GoesOnWith, StepEnds, answers, done_or_wants, goes_with, not_of_lines, stands_so}
use Rattle.auditor_top.proofs.OneRunMore.{goes_on}
use Rattle.auditor_top.proofs.OneTable.{carried, same_given}
use Rattle.auditor_top.proofs.StepStatuses.{always_before, before_so}
use Rattle.auditor_top.proofs.running.run.Given.{Over}
use Rattle.auditor_top.proofs.running.run.Goals as goal

module _ (g : Over) (c : goal.After-drop-store-inside-in-Ok-Compact-5 g) where
  abbrev old : Objects g.row.P.Denot g.row.I.Denot g.row.B.Denot
  old = objects c.args.schema.now c.args.table.now c.args.input.now c.args.bench.now c.args.spare.now

  abbrev mid : Objects g.row.P.Denot g.row.I.Denot g.row.B.Denot
  mid = objects c.open.new.schema c.open.new.table c.args.input.now c.open.new.bench c.args.spare.now

  abbrev new : Objects g.row.P.Denot g.row.I.Denot g.row.B.Denot
  new = objects c.open.new.schema c.open.new.table c.args.input.now c.compact.new.bench c.compact.new.spare

  abbrev ready : Ready
  ready = made.Compact c.in-Ok-Compact.store

  goes : GoesOnWith g.P.Source g.B.Bench (command_of (map string_bytes c.args.words.now.items)) ready old mid
  goes =
      let found = c.in-Ok-Compact in
      let opening = c.open.ensures in
      goes_with g.P.Source g.B.Bench _ _ _ ready old mid found.field-0-is found.ensures.asked c.in-Ok.ensures.command found.ensures.ready
      found.ensures.over opening.reads found.ensures.steady opening.unread opening.unopened found.ensures.ticks

  ends : StepEnds g.I.Source g.B.Bench ready (compacting_status c.compact.result) mid new
  ends =
      let does = c.compact.ensures in
      let step = compact_says c.compact.result does.ends in
      record {
        last = step.last;
        words = step.words;
        file = λ told table for. step.file _ (secret_table c.in-Ok-Compact.store.secret c.in-Ok-Compact.store.protected) (for refl);
        spare_file = λ told calls. compact_spare c.compact.result _ does.ends (does.already told) (λ made. (does.refused told made).0);
        input = λ itold reads. absurd (false≢true reads);
        tells = step_tells g.I.Source g.B.Bench _ c.compact.result (record {
          input = unread_input g.I.Source old.input _ (λ is. not_of_lines command.Compact _ refl step.words (ap compacting_status is));
          bench = does.fault;
          spare = does.spare_fault;
        });
        quiet = λ told quiet fine image left. quiet image (does.crash image left) ∙ sym does.file;
        nothing_began = λ told opens closed. absurd (true≢false closed);
        before_lines = before_so reading_lines (compacting_status c.compact.result) (λ is. (refl, ap g.B.Bench.sent is)) (step.at_lines _ does.unsent);
        unwritten = λ told. always_before reading_lines (compacting_status c.compact.result) does.file;
        before_spare = λ calls other. step.at_spare _;
        never_written = λ told none. does.file;
        no_lines = λ none. refl;
        spare = λ none. absurd (true≢false none);
      }

  -- the table whose journal was opened, as it stood
  abbrev seen : g.P.Source.told → Database
  seen ptold = base_of (goes.over ptold).0 (goes.over ptold).1 c.in-Ok-Compact.store.protected c.in-Ok-Compact.store.secret

  stands : g.B.Bench.told → IsAsLeft (g.B.Bench.file old.bench) c.in-Ok-Compact.store
  stands told = stands_so g.B.Bench old.bench mid.bench c.in-Ok-Compact.store goes.fit goes.reads.file told

  -- so a history that they are given with is the store's, and what is said of that is said of it
  given : (P : Database → List Answered → Type 0) (ptold : g.P.Source.told) → g.B.Bench.told → (base : Database) (records : List Answered) →
      ServesOver (g.P.Source.left old.schema) (g.P.Source.left old.table) (g.B.Bench.file old.bench) base records →
      P (seen ptold) c.in-Ok-Compact.store.history → P base records
  given P ptold told base records over =
      let store = c.in-Ok-Compact.store in
      carried P (seen ptold) base store.history records
      (same_given c.one_reading.ensures c.groups_of_a_schema.ensures.entries _ _ (g.B.Bench.file old.bench) (seen ptold) base store.history records
      store.journal.gate (goes.over ptold).2 (stands told) over)

  -- what is found on the journal at every moment: its file, and a front of the line sent
  sends : g.B.Bench.told → IsQuiet g.B.Bench old.bench → LeavesOnly g.B.Bench old.bench new.bench
      (SendsCounts c.in-Ok-Compact.store.secret.shape c.in-Ok-Compact.store.history (g.B.Bench.file old.bench) (g.B.Bench.sent old.bench))
  sends told quiet =
      let shape = c.in-Ok-Compact.store.secret.shape in
      let history = c.in-Ok-Compact.store.history in
      let sent = g.B.Bench.sent old.bench in
      let file = g.B.Bench.file old.bench in
      joins g.B.Bench old.bench mid.bench new.bench (SendsCounts shape history file sent)
      (weakens g.B.Bench old.bench mid.bench (IsUntouched file sent) _ (λ image bytes is. (is.1, inl is.0)) (goes.reads.untouched quiet))
      (subst (λ (f : List ℕ). LeavesOnly g.B.Bench mid.bench new.bench (SendsCounts shape history f sent)) goes.reads.file
      (subst (λ (bytes : List ℕ). LeavesOnly g.B.Bench mid.bench new.bench (SendsCounts shape history (g.B.Bench.file mid.bench) bytes)) goes.reads.sent
      (c.compact.ensures.sending told (still_quiet g.B.Bench old.bench mid.bench goes.reads quiet))))

  -- and on the spare
  spare_moments : g.P.Source.told → g.B.Bench.told → (IsMade (g.B.Bench.file old.spare) → ⊥) → IsQuiet g.B.Bench old.spare →
      (base : Database) (records : List Answered) →
      ServesOver (g.P.Source.left old.schema) (g.P.Source.left old.table) (g.B.Bench.file old.bench) base records →
      LeavesOnly g.B.Bench old.spare new.spare (IsUnmadeOrKept base.secret.shape records (g.B.Bench.sent old.spare))
  spare_moments ptold told unmade quiet base records over =
      given (λ (b : Database) (h : List Answered). LeavesOnly g.B.Bench old.spare new.spare (IsUnmadeOrKept b.secret.shape h (g.B.Bench.sent old.spare)))
      ptold told base records over (c.compact.ensures.any_moment told unmade quiet)

  compacting : Compacting g.P.Source g.I.Source g.B.Bench (compacting_status c.compact.result) old new
  compacting =
      let shape = c.in-Ok-Compact.store.secret.shape in
      let history = c.in-Ok-Compact.store.history in
      let sent = g.B.Bench.sent old.bench in
      let file = g.B.Bench.file old.bench in
      let spare = g.B.Bench.file old.spare in
      let spare_new = g.B.Bench.file new.spare in
      let ended = c.compact.result in
      let does = c.compact.ensures in
      let step = compact_says ended does.ends in
      record {
        compacted = λ ptold told base records over.
            given (λ (b : Database) (h : List Answered). CompactEnds (compacting_status ended) b.secret.shape h spare spare_new sent
            (g.B.Bench.sent new.bench)) ptold told base records over
            (compact_ends ended shape history spare spare_new sent (g.B.Bench.sent new.bench) does.ends
            (subst (λ (bytes : List ℕ). OnOk ended (Compacts shape history spare spare_new bytes (g.B.Bench.sent new.bench))) goes.reads.sent
            (does.done told))
            (subst (λ (bytes : List ℕ). IsErrOf ended (Stopped stop.Bench) → CompactsFront shape history spare spare_new bytes (g.B.Bench.sent new.bench))
            goes.reads.sent (does.part told))
            (unsent_so ended (λ is. ap g.B.Bench.sent is ∙ goes.reads.sent) does.unsent));
        compacting = spare_moments;
        stable = λ told done. is_done _ ended _ done (does.quiet told);
        unsent_yet = λ failed. ap g.B.Bench.sent (step.unsent _ failed does.unsent) ∙ goes.reads.sent;
        alike = λ ptold told unmade quiet base records over image bytes found was is_made stands.
            c.compactions.ensures _ _ _ image bytes base records found over.files over.legal
            ((spare_moments ptold told unmade quiet base records over).each image bytes was) is_made stands;
        sending = λ ptold told quiet base records over.
            given (λ (b : Database) (h : List Answered). LeavesOnly g.B.Bench old.bench new.bench (SendsCounts b.secret.shape h file sent))
            ptold told base records over (sends told quiet);
        undisturbed = λ told quiet. weakens g.B.Bench old.bench new.bench (SendsCounts shape history file sent) (LeavesFile file) (λ image bytes is. is.0)
            (sends told quiet);
        kept = λ told is_made. (ap g.B.Bench.sent (does.refused told is_made).1 ∙ goes.reads.sent, (does.refused told is_made).2);
        untouched = does.untouched;
        unsent = λ told is_made quiet.
            subst (λ b. LeavesOnly g.B.Bench old.bench b (IsUntouched file sent)) (sym (does.refused told is_made).1) (goes.reads.untouched quiet);
        uncalled = λ ptold told none. absurd (none (seen ptold) history
            (record { files = (goes.over ptold).2; stands = (c.in-Ok-Compact.store.journal.gate, stands told); legal = goes.fit.is.legal }));
        no_memory = λ is. does.no_memory (stopped_by _ ended stop.NoMemory is);
        compact_calls = λ told done.
            let opening = goes.ticks told refl in
            let send = is_done _ ended _ done (does.ticks told) in
            omega (arith, opening, send);
        spare_calls = λ told done. is_done _ ended _ done (does.spare_ticks told);
        compacts = λ ptold told unmade base records over none fine.
            done_or_wants g.P.Source g.I.Source g.B.Bench _ old new (compact_unrefused ended does.ends (λ is. unmade (does.already told is)))
            (stop_after g.B.Bench new.bench goes.steady.2 ends.tells) none (λ is. fine);
      }

  all : Answers g.P.Source g.I.Source g.B.Bench (command_of (map string_bytes c.args.words.now.items)) c.compacted.result old new
  all =
      answers g.P.Source g.I.Source g.B.Bench c.groups_of_a_schema.ensures.entries _ ready _ old mid.schema mid.table mid.bench new.input new.bench new.spare
      goes ends c.compacted.ensures compacting

pub compaction_ends : goal.returns-in-Ok-Compact
compaction_ends g c = record {
  says = (all g c).says;
  lives = goes_on g.P.Source g.I.Source g.B.Bench _ _ (old g c) (new g c) c.lives.ensures.longer c.one_reading.ensures c.read_words.ensures.batch
      (all g c).does;
  does = (all g c).does;
  nothing_began = (all g c).nothing_began;
}
