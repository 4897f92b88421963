-- What `run` says of `explain`.
use Rattle.std.proofs.Common.{◌+◌, ℕ, List, length, refl, sym, ◌∙◌, ap, subst, arith, map, string_bytes}
use Rattle.std.proofs.lemmas.Bool.{true≢false}
use Rattle.audit_types.specs.declared.records.Answered.{Answered}
use Rattle.bench_core.specs.Calls.{IsQuiet, IsUntouched, LeavesOnly}
use Rattle.bench_core.specs.Moments.{joins, still_quiet, weakens}
use Rattle.bench_core.specs.Reports.{not_called}
use Rattle.bench_core.specs.declared.stops.Stop.TheVariants as stop
use Rattle.table_load.specs.Database.{Database, base_of}
use Rattle.line_wire.specs.Lines.{counted_lines}
use Rattle.line_wire.specs.Talks.{EndReads, EndSends, Talk, TalksMeanwhile, unrefused}
use Rattle.line_wire.specs.TalkSoFar.{done_too, fault_told, input_told, never_spare, nothing_meanwhile}
use Rattle.certificate_lines.specs.Explained.{explanations}
use Rattle.auditor_top.specs.declared.ready.Ready.{Ready}
use Rattle.auditor_top.specs.declared.ready.Ready.TheVariants as made
use Rattle.auditor_top.specs.Words.{command_of}
use Rattle.auditor_top.specs.Commands.{ServesOver}
use Rattle.auditor_top.specs.Ends.{LeavesFile, SendsTexts, TalkEnds, public_part}
use Rattle.auditor_top.specs.Faults.{ended_status}
use Rattle.auditor_top.specs.Runs.{Explaining, Objects, objects}
use Rattle.auditor_top.proofs.Failures.{ended_by, stop_after}
use Rattle.auditor_top.proofs.LastSteps.{Answers, GoesOnWith, StepEnds, answers, done_or_wants, goes_with, stands_so}
use Rattle.auditor_top.proofs.OneRunMore.{goes_on}
use Rattle.auditor_top.proofs.OneTable.{carried, same_given}
use Rattle.auditor_top.proofs.StepFaults.{stop_says}
use Rattle.auditor_top.proofs.StopEndings.{stop_ends, stop_unrefused}
use Rattle.auditor_top.proofs.TalkEndings.{talk_ends, talk_reads, talk_sends}
use Rattle.auditor_top.proofs.running.run.Given.{Over}
use Rattle.auditor_top.proofs.running.run.Goals as goal

module _ (g : Over) (c : goal.After-drop-index-inside-in-Ok-Explain-7 g) where
  abbrev old : Objects g.row.P.Denot g.row.I.Denot g.row.B.Denot
  old = objects c.args.schema.now c.args.table.now c.args.input.now c.args.bench.now c.args.spare.now

  abbrev mid : Objects g.row.P.Denot g.row.I.Denot g.row.B.Denot
  mid = objects c.open.new.schema c.open.new.table c.args.input.now c.open.new.bench c.args.spare.now

  abbrev new : Objects g.row.P.Denot g.row.I.Denot g.row.B.Denot
  new = objects c.open.new.schema c.open.new.table c.explain.new.source c.explain.new.bench c.args.spare.now

  abbrev ready : Ready
  ready = made.Explain c.in-Ok-Explain.index c.in-Ok-Explain.store

  goes : GoesOnWith g.P.Source g.B.Bench (command_of (map string_bytes c.args.words.now.items)) ready old mid
  goes =
      let found = c.in-Ok-Explain in
      let opening = c.open.ensures in
      goes_with g.P.Source g.B.Bench _ _ _ ready old mid found.field-0-is found.ensures.asked c.in-Ok.ensures.command found.ensures.ready
      found.ensures.over opening.reads found.ensures.steady opening.unread opening.unopened found.ensures.ticks

  -- what is due to the lines after the store's history
  abbrev talk : Talk (List ℕ) ⊥
  talk = explanations c.in-Ok-Explain.index c.in-Ok-Explain.store.history

  ends : StepEnds g.I.Source g.B.Bench ready (ended_status c.explain.result) mid new
  ends =
      let does = c.explain.ensures in
      stop_ends g.I.Source g.B.Bench ready c.explain.result mid new (record {
        input = λ is. refl;
        limit = λ is. refl;
        other = λ is. absurd (never_spare c.explain.result does is);
        tells = record {
          input = input_told c.explain.result does;
          bench = fault_told c.explain.result does;
          spare = not_called g.B.Bench old.spare _ (never_spare c.explain.result does);
        };
        file = λ told table for. for refl;
        spare_file = λ told. tt;
        reads = λ itold reads. talk_reads talk c.explain.result _ _ (does.reads itold);
        quiet = λ told quiet fine image left. quiet image (does.crash image left) ∙ sym does.file;
        never_written = λ told none. does.file;
        no_lines = λ none. absurd (true≢false none);
        spare = λ none. refl;
      })

  -- the table whose journal was opened, and what was opened is what is given
  abbrev seen : Database
  seen = base_of c.in-Ok-Explain.index.columns c.in-Ok-Explain.index.public c.in-Ok-Explain.index.protected c.in-Ok-Explain.store.secret

  -- so what is said of it is said of that
  given : (P : Database → List Answered → Type 0) (ptold : g.P.Source.told) → g.B.Bench.told → (base : Database) (history : List Answered) →
      ServesOver (g.P.Source.left old.schema) (g.P.Source.left old.table) (g.B.Bench.file old.bench) base history →
      P seen c.in-Ok-Explain.store.history → P base history
  given P ptold told base history over =
      let store = c.in-Ok-Explain.store in
      carried P seen base store.history history
      (same_given c.one_reading.ensures c.groups_of_a_schema.ensures.entries _ _ (g.B.Bench.file old.bench) seen base store.history history
      store.journal.gate (goes.over ptold) (stands_so g.B.Bench old.bench mid.bench store goes.fit.0 goes.reads.file told) over)

  moments : g.B.Bench.told → IsQuiet g.B.Bench old.bench → LeavesOnly g.B.Bench old.bench new.bench
      (TalksMeanwhile g.I.Source.told talk (counted_lines (g.I.Source.left old.input)) (g.B.Bench.file old.bench) (g.B.Bench.sent old.bench))
  moments told quiet =
      let lines = counted_lines (g.I.Source.left old.input) in
      let file = g.B.Bench.file old.bench in
      let sent = g.B.Bench.sent old.bench in
      let Explains : (List ℕ → List ℕ → List ℕ → List ℕ → Type 0) = TalksMeanwhile g.I.Source.told talk lines in
      joins g.B.Bench old.bench mid.bench new.bench (Explains file sent)
      (weakens g.B.Bench old.bench mid.bench (IsUntouched file sent) _ (nothing_meanwhile talk tt g.I.Source.told lines file sent) (goes.reads.untouched quiet))
      (subst (λ (f : List ℕ). LeavesOnly g.B.Bench mid.bench new.bench (Explains f sent)) goes.reads.file
      (subst (λ (bytes : List ℕ). LeavesOnly g.B.Bench mid.bench new.bench (Explains (g.B.Bench.file mid.bench) bytes)) goes.reads.sent
      (c.explain.ensures.moments told (still_quiet g.B.Bench old.bench mid.bench goes.reads quiet))))

  explaining : Explaining g.P.Source g.I.Source g.B.Bench (ended_status c.explain.result) old new
  explaining =
      let text = g.I.Source.left old.input in
      let left = g.I.Source.left new.input in
      let file = g.B.Bench.file old.bench in
      let sent = g.B.Bench.sent old.bench in
      let ended = c.explain.result in
      let does = c.explain.ensures in
      record {
        explained = λ ptold itold told base history over.
            given (λ (b : Database) (h : List Answered). (lines : List (List ℕ)) ×
            TalkEnds (explanations (public_part b) h) (ended_status ended) text left lines ×
            SendsTexts (explanations (public_part b) h) (ended_status ended) lines sent (g.B.Bench.sent new.bench)) ptold told base history over
            (let all = does.due itold in (
              all.0,
              talk_ends talk ended text left all.0 all.1,
              talk_sends talk ended all.0 sent (g.B.Bench.sent new.bench)
                  (subst (λ (bytes : List ℕ). EndSends talk (unrefused ended) all.0 bytes (g.B.Bench.sent new.bench)) goes.reads.sent (all.2 told)),
            ));
        explaining = λ ptold told quiet base history over.
            given (λ (b : Database) (h : List Answered). LeavesOnly g.B.Bench old.bench new.bench
            (TalksMeanwhile g.I.Source.told (explanations (public_part b) h) (counted_lines text) file sent)) ptold told base history over (moments told quiet);
        undisturbed = λ told quiet. weakens g.B.Bench old.bench new.bench _ (LeavesFile file) (λ image bytes found. found.0) (moments told quiet);
        explain_calls = λ itold told done.
            (stop_says ended).done _ done (done_too _ ended (does.calls itold told)) ∙ ap (λ (n : ℕ). n + length (counted_lines text)) (goes.ticks told refl);
        explains = λ ptold itold told base history over within none.
            done_or_wants g.P.Source g.I.Source g.B.Bench _ old new (stop_unrefused ended
            (λ is. let over = subst (λ r. EndReads talk.Reads (unrefused r) text left) is (does.reads itold) in omega (arith, over, within)))
            (stop_after g.B.Bench new.bench goes.steady.2 ends.tells) none (λ is. absurd (never_spare ended does (ended_by ended stop.Spare is)));
      }

  all : Answers g.P.Source g.I.Source g.B.Bench (command_of (map string_bytes c.args.words.now.items)) c.ended-in-Ok-Explain.result old new
  all =
      answers g.P.Source g.I.Source g.B.Bench c.groups_of_a_schema.ensures.entries _ ready _ old mid.schema mid.table mid.bench new.input new.bench new.spare
      goes ends c.ended-in-Ok-Explain.ensures explaining

pub explanation_ends : goal.returns-in-Ok-Explain
explanation_ends g c = record {
  says = (all g c).says;
  lives = goes_on g.P.Source g.I.Source g.B.Bench _ _ (old g c) (new g c) c.lives.ensures.longer c.one_reading.ensures c.read_words.ensures.batch
      (all g c).does;
  does = (all g c).does;
  nothing_began = (all g c).nothing_began;
}
