-- What `run` says of `audit`.
use Rattle.std.proofs.Common.{◌≡◌, ◌+◌, ℕ, Option, List, Err, OnOk, OnErr, refl, ◌∙◌, sym, subst, map, string_bytes}
use Rattle.std.proofs.lemmas.Bool.{false≢true}
use Rattle.audit_types.specs.declared.records.Answered.{Answered}
use Rattle.bench_core.specs.Calls.{LeavesOnly, IsUntouched}
use Rattle.bench_core.specs.Moments.{joins, still_quiet, weakens}
use Rattle.bench_core.specs.Reports.{not_called}
use Rattle.bench_core.specs.Stops.{IsOfBench}
use Rattle.bench_core.specs.declared.stops.Stop.{Stop}
use Rattle.bench_core.specs.declared.stops.Stop.TheVariants as stop
use Rattle.table_load.specs.Database.{Database, base_of}
use Rattle.journal_audit.specs.Reports.{Subject, audit_of, subjects, Reports, ReportsFront, SendsMeanwhile, TakesOneEach}
use Rattle.auditor_top.specs.declared.ready.Ready.{Ready}
use Rattle.auditor_top.specs.declared.ready.Ready.TheVariants as made
use Rattle.auditor_top.specs.Words.{command_of}
use Rattle.auditor_top.specs.Commands.{ServesOver}
use Rattle.auditor_top.specs.Ends.{AuditEnds, audit_over, subjects_over}
use Rattle.auditor_top.specs.Faults.{ended_status}
use Rattle.auditor_top.specs.Runs.{Auditing, Objects, objects}
use Rattle.auditor_top.proofs.AuditEndings.{untouched_report, report_ends}
use Rattle.auditor_top.proofs.Failures.{ended_by, stop_after, unread_input}
use Rattle.auditor_top.proofs.LastSteps.{Answers, GoesOnWith, StepEnds, answers, done_or_wants, goes_with, stands_so}
use Rattle.auditor_top.proofs.OneRunMore.{goes_on}
use Rattle.auditor_top.proofs.OneTable.{carried, same_given}
use Rattle.auditor_top.proofs.StepFaults.{of_bench, stop_says}
use Rattle.auditor_top.proofs.StopEndings.{stop_ends, stop_unrefused}
use Rattle.auditor_top.proofs.running.run.Given.{Over}
use Rattle.auditor_top.proofs.running.run.Goals as goal

module _ (g : Over) (c : goal.After-drop-schema-inside-in-Ok-Audit-2 g) where
  abbrev old : Objects g.row.P.Denot g.row.I.Denot g.row.B.Denot
  old = objects c.args.schema.now c.args.table.now c.args.input.now c.args.bench.now c.args.spare.now

  abbrev mid : Objects g.row.P.Denot g.row.I.Denot g.row.B.Denot
  mid = objects c.open.new.schema c.open.new.table c.args.input.now c.open.new.bench c.args.spare.now

  abbrev new : Objects g.row.P.Denot g.row.I.Denot g.row.B.Denot
  new = objects c.open.new.schema c.open.new.table c.args.input.now c.audit.new.bench c.args.spare.now

  abbrev ready : Ready
  ready = made.Audit c.in-Ok-Audit.schema c.in-Ok-Audit.people c.in-Ok-Audit.store

  goes : GoesOnWith g.P.Source g.B.Bench (command_of (map string_bytes c.args.words.now.items)) ready old mid
  goes =
      let found = c.in-Ok-Audit in
      let opening = c.open.ensures in
      goes_with g.P.Source g.B.Bench _ _ _ ready old mid found.field-0-is found.ensures.asked c.in-Ok.ensures.command found.ensures.ready
      found.ensures.over opening.reads found.ensures.steady opening.unread opening.unopened found.ensures.ticks

  -- no stop of a source or of a spare
  is_of_bench : (why : Stop) → c.audit.result ≡ Err why → IsOfBench why
  is_of_bench why is = of_bench c.audit.result why c.audit.ensures.ends is

  ends : StepEnds g.I.Source g.B.Bench ready (ended_status c.audit.result) mid new
  ends =
      let does = c.audit.ensures in
      stop_ends g.I.Source g.B.Bench ready c.audit.result mid new (record {
        input = λ is. absurd (is_of_bench stop.Input is);
        limit = λ is. absurd (is_of_bench stop.Limit is);
        other = λ is. absurd (is_of_bench stop.Spare is);
        tells = record {
          input = unread_input g.I.Source old.input _ (is_of_bench stop.Input);
          bench = record { later = does.later; failed = does.failed; last_call = does.last_call; steady = does.steady };
          spare = not_called g.B.Bench old.spare _ (is_of_bench stop.Spare);
        };
        file = λ told table for. for refl;
        spare_file = λ told. tt;
        reads = λ itold reads. absurd (false≢true reads);
        quiet = λ told quiet fine image left. quiet image (does.crash image left) ∙ sym does.file;
        never_written = λ told none. does.file;
        no_lines = λ none. refl;
        spare = λ none. refl;
      })

  -- the table whose journal was opened, and what was opened is what is given
  abbrev seen : g.P.Source.told → Database
  seen ptold = base_of c.in-Ok-Audit.schema.columns (goes.over ptold).0 c.in-Ok-Audit.store.protected c.in-Ok-Audit.store.secret

  -- so what is said of it is said of that
  given : (P : Database → List Answered → Type 0) (ptold : g.P.Source.told) → g.B.Bench.told → (base : Database) (history : List Answered) →
      ServesOver (g.P.Source.left old.schema) (g.P.Source.left old.table) (g.B.Bench.file old.bench) base history →
      P (seen ptold) c.in-Ok-Audit.store.history → P base history
  given P ptold told base history over =
      let store = c.in-Ok-Audit.store in
      carried P (seen ptold) base store.history history
      (same_given c.one_reading.ensures c.groups_of_a_schema.ensures.entries _ _ (g.B.Bench.file old.bench) (seen ptold) base store.history history
      store.journal.gate (goes.over ptold).1 (stands_so g.B.Bench old.bench mid.bench store goes.fit.0 goes.reads.file told) over)

  reporting : Auditing g.P.Source g.I.Source g.B.Bench (ended_status c.audit.result) old new
  reporting =
      let at = old.bench in
      let opened = mid.bench in
      let later = new.bench in
      let store = c.in-Ok-Audit.store in
      let columns = c.in-Ok-Audit.schema.columns in
      let people = c.in-Ok-Audit.people in
      let about : (Option ℕ → List Subject) = λ p. subjects store.secret.shape p in
      let sent = g.B.Bench.sent at in
      let file = g.B.Bench.file at in
      let ended = c.audit.result in
      let does = c.audit.ensures in
      record {
        audited = λ ptold told base history over.
            let same = (goes.over ptold).2 in
            given (λ (b : Database) (h : List Answered). AuditEnds (ended_status ended) b h sent (g.B.Bench.sent later)) ptold told base history over
            (report_ends ended (seen ptold) store.history sent (g.B.Bench.sent later)
            (subst (λ (p : Option ℕ). OnOk ended (Reports (audit_of columns store) p sent (g.B.Bench.sent later))) same
            (subst (λ (bytes : List ℕ). OnOk ended (Reports (audit_of columns store) people bytes (g.B.Bench.sent later))) goes.reads.sent
            (does.report told)))
            (subst (λ (p : Option ℕ). OnErr ended (ReportsFront (audit_of columns store) p sent (g.B.Bench.sent later))) same
            (subst (λ (bytes : List ℕ). OnErr ended (ReportsFront (audit_of columns store) people bytes (g.B.Bench.sent later))) goes.reads.sent
            (does.part told))) does.ends);
        auditing = λ ptold told quiet base history over.
            joins g.B.Bench at opened later (SendsMeanwhile (audit_over base history) (subjects_over base) file sent)
            (weakens g.B.Bench at opened (IsUntouched file sent) _
            (untouched_report (audit_over base history) (subjects_over base) file sent) (goes.reads.untouched quiet))
            (given (λ (b : Database) (h : List Answered). LeavesOnly g.B.Bench opened later
            (SendsMeanwhile (audit_over b h) (subjects_over b) file sent)) ptold told base history over
            (subst (λ (p : Option ℕ). LeavesOnly g.B.Bench opened later (SendsMeanwhile (audit_of columns store) (about p) file sent)) (goes.over ptold).2
            (subst (λ (f : List ℕ). LeavesOnly g.B.Bench opened later (SendsMeanwhile (audit_of columns store) (about people) f sent)) goes.reads.file
            (subst (λ (bytes : List ℕ). LeavesOnly g.B.Bench opened later
            (SendsMeanwhile (audit_of columns store) (about people) (g.B.Bench.file opened) bytes)) goes.reads.sent
            (does.any_moment told (still_quiet g.B.Bench at opened goes.reads quiet))))));
        audit_calls = λ ptold told done base history over.
            given (λ (b : Database) (h : List Answered). TakesOneEach (audit_over b h) (subjects_over b) (g.B.Bench.moment at + 2) (g.B.Bench.moment later))
            ptold told base history over
            (subst (λ (p : Option ℕ). TakesOneEach (audit_of columns store) (about p) (g.B.Bench.moment at + 2) (g.B.Bench.moment later)) (goes.over ptold).2
            (subst (λ (n : ℕ). TakesOneEach (audit_of columns store) (about people) n (g.B.Bench.moment later)) (goes.ticks told refl)
            ((stop_says ended).done _ done (does.ticks told))));
        audits = λ ptold told base history over none.
            done_or_wants g.P.Source g.I.Source g.B.Bench _ old new (stop_unrefused ended (is_of_bench stop.Limit))
            (stop_after g.B.Bench later goes.steady.2 ends.tells) none (λ is. absurd (is_of_bench stop.Spare (ended_by ended stop.Spare is)));
      }

  all : Answers g.P.Source g.I.Source g.B.Bench (command_of (map string_bytes c.args.words.now.items)) c.ended-in-Ok-Audit.result old new
  all =
      answers g.P.Source g.I.Source g.B.Bench c.groups_of_a_schema.ensures.entries _ ready _ old mid.schema mid.table mid.bench new.input new.bench new.spare
      goes ends c.ended-in-Ok-Audit.ensures reporting

pub audit_ends : goal.returns-in-Ok-Audit
audit_ends g c = record {
  says = (all g c).says;
  lives = goes_on g.P.Source g.I.Source g.B.Bench _ _ (old g c) (new g c) c.lives.ensures.longer c.one_reading.ensures c.read_words.ensures.batch
      (all g c).does;
  does = (all g c).does;
  nothing_began = (all g c).nothing_began;
}
