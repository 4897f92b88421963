-- What a run does whose command never went on: its files or its journal were refused, a call failed, or memory ran out.
use Rattle.std.proofs.Common.{◌≡◌, ℕ, Bool, true, false, List, [], Option, Some, refl, sym, ◌∙◌, subst, inl, inr}
use Rattle.std.proofs.lemmas.Bool.{false≢true}
use Rattle.std.proofs.lemmas.List.{append-nil}
use Rattle.audit_types.specs.declared.records.Answered.{Answered}
use Rattle.audit_types.specs.History.{IsLegal, IsUndisclosed}
use Rattle.audit_types.specs.Widening.{over}
use Rattle.bench_core.specs.declared.bench.Bench.{Ghosts}
use Rattle.bench_core.specs.declared.source.Source as source
use Rattle.bench_core.specs.Calls.{IsQuiet, IsUntouched, LeavesOnly, OnlyReads}
use Rattle.bench_core.specs.Moments.{weakens}
use Rattle.set_index.specs.Indexed.{IndexView, public_setting}
use Rattle.table_load.specs.Database.{Database, table_in}
use Rattle.journal_form.specs.Journal.{StandsFor}
use Rattle.answer_journal.specs.Moments.{IsMade}
use Rattle.line_wire.specs.Lines.{CountedLine, counted_lines}
use Rattle.line_wire.specs.TalkSoFar.{nothing_meanwhile}
use Rattle.certificate_lines.specs.Explained.{explanations}
use Rattle.transcript_sim.specs.Ends.{simulation}
use Rattle.audit_session.specs.Stops.{IsBatch, IsFront, StopsOver}
use Rattle.audit_session.specs.Ends.{ServesSome}
use Rattle.journal_audit.specs.Reports.{ReportsFront}
use Rattle.journal_audit.specs.SendLaws.{none_front}
use Rattle.auditor_top.specs.declared.words.Command.{Command}
use Rattle.auditor_top.specs.declared.words.Command.TheVariants.{Init, Serve, Audit, Simulate, Drill, Grow, Explain, Compact, Restore}
use Rattle.auditor_top.specs.declared.status.Object.{Object}
use Rattle.auditor_top.specs.declared.status.Object.TheVariants.{Schema, Table, Bench}
use Rattle.auditor_top.specs.declared.status.Status.{Status}
use Rattle.auditor_top.specs.declared.status.Status.TheVariants.{Done, Failed}
use Rattle.audit_types.specs.declared.shapes.Shape.{Shape}
use Rattle.twin_journal.specs.Fronts.{main_is_legal, spare_is_legal}
use Rattle.twin_journal.specs.Twins.{StandsBetween}
use Rattle.auditor_top.specs.Stages.{opening_journal, reading_lines}
use Rattle.auditor_top.specs.Twins.{TwinEnds}
use Rattle.auditor_top.specs.Causes.{BeginningCause, BothCause, NothingFailed, IsDoneOrWants, TellsFailure}
use Rattle.auditor_top.specs.Commands.{ArePublicFilesOf, AreSoundFilesOf, opens_store}
use Rattle.auditor_top.specs.Compactions.{CompactEnds}
use Rattle.auditor_top.specs.Ends.{AuditEnds, GrowEnds, LeavesFile, ServeEnds, SendsTexts, SimulateEnds, StandsForWhat, TalkEnds, audit_over, people_over, subjects_over, outside, public_part}
use Rattle.auditor_top.specs.Promise.{RunsMakeLives}
use Rattle.auditor_top.specs.Ready.{IsGiven, EndsEarly, GivesUp}
use Rattle.auditor_top.specs.Runs.{Objects, objects, faults_of, last_failed_of, Does, Making, Serving, Auditing, Simulating, Drilling, Growing, Explaining, Compacting, TwinServing, Restoring}
use Rattle.auditor_top.proofs.AuditEndings.{untouched_report}
use Rattle.auditor_top.proofs.OneRunMore.{spare_goes_on}
use Rattle.auditor_top.proofs.OneTable.{OneReading, nothing_served, untouched_stops}
use Rattle.auditor_top.proofs.StepFaults.{not_made}
use Rattle.auditor_top.proofs.StepStatuses.{always_before, by_giving_up}
use Rattle.auditor_top.proofs.TalkEndings.{none_due}

-- every history for which a stop over a legal history leaves an image is legal, and discloses nothing
abbrev pub StopsAreLegal : Type 0
StopsAreLegal =
    (schema table before image sent : List ℕ) (base : Database) (batch : ℕ) (history now : List Answered) (lines : List CountedLine) →
    AreSoundFilesOf schema table base → IsLegal (table_in base) history → StopsOver base batch history lines before image sent →
    StandsFor image base.secret.shape now → IsLegal (table_in base) now × IsUndisclosed (table_in base) now

-- a run isn't done before its command goes on
never_done : {Y : Type 0} (status : Status) → EndsEarly status → status ≡ Done → Y
never_done status early done = absurd (subst EndsEarly done early)

-- a file that is left as it was stands for a history between its own and the whole
pub at_first : (shape : Shape) (first whole : List Answered) {file : List ℕ} → StandsFor file shape first → IsFront first whole → (image : List ℕ) →
    image ≡ file →
    StandsBetween shape first whole image
at_first shape first whole stands front image same = record {
  now = first;
  stands = subst (λ (f : List ℕ). StandsFor f shape first) (sym same) stands;
  from = record { rest = []; is = sym (append-nil first) };
  to = front;
}

module _ {P I B : Type 0} (files : source.Ghosts P) (lines : source.Ghosts I) (bench : Ghosts B) (schema later_schema table later_table : P) (input : I)
    (at later : B) (spare : B) (status : Status) (early : EndsEarly status) (reads : OnlyReads bench at later)
    (failures : (object : Object) → TellsFailure (faults_of files lines bench (objects schema table input at spare) object)
    (faults_of files lines bench (objects later_schema later_table input later spare) object)
    (last_failed_of files lines bench (objects later_schema later_table input later spare) object) (status ≡ Failed object))
    (asked : Option Command)
    (gives_up : (command : Command) → asked ≡ Some command → files.told → (opens_store command ≡ true → bench.told) →
    IsGiven command (files.left schema) (files.left table) (bench.file at) → GivesUp status)
    (unopened : (command : Command) → asked ≡ Some command → opens_store command ≡ false → later ≡ at) where
  abbrev old : Objects P I B
  old = objects schema table input at spare

  abbrev new : Objects P I B
  new = objects later_schema later_table input later spare

  -- if nothing failed there was no memory
  wants : GivesUp status → NothingFailed (faults_of files lines bench old) (faults_of files lines bench new) → IsDoneOrWants status
  wants gave_up none =
      by_giving_up (λ (s : Status). status ≡ s → IsDoneOrWants s) status gave_up (λ is. absurd (none Schema (λ same. cc) ((failures Schema).failed is)))
      (λ is. absurd (none Table (λ same. cc) ((failures Table).failed is))) (λ is. absurd (none Bench (λ same. cc) ((failures Bench).failed is)))
      (λ is. inr refl) refl

  -- a crash finds the file as it was, and nothing sent
  still : {Found : List ℕ → List ℕ → Type 0} → IsQuiet bench at →
      ((image sent : List ℕ) → IsUntouched (bench.file at) (bench.sent at) image sent → Found image sent) → LeavesOnly bench at later Found
  still quiet so = weakens bench at later (IsUntouched (bench.file at) (bench.sent at)) _ so (reads.untouched quiet)

  left_alone : bench.told → IsQuiet bench at → LeavesOnly bench at later (LeavesFile (bench.file at))
  left_alone told quiet = still quiet (λ image sent same. same.1)

  unmade : asked ≡ Some Init → Making files lines bench status old new
  unmade is = record {
    made = λ ptold told done base given. never_done status early done;
    kept = λ told undone fine. reads.file;
    unsent = reads.sent;
    untouched = λ told there quiet. reads.untouched quiet;
    making = λ ptold told absent quiet base given.
        still quiet (λ image sent same. (same.0, inl (subst (λ (bytes : List ℕ). IsMade bytes → ⊥) (sym same.1) (not_made _ absent))));
    unmade = λ wanted. unopened Init is refl;
    init_calls = λ told done. never_done status early done;
    makes = λ ptold told base given absent none. wants (gives_up Init is ptold (λ opens. told) (base, given)) none;
  }

  unserved : StopsAreLegal → (batch : ℕ) → asked ≡ Some (Serve batch false) → Serving files lines bench batch status old new
  unserved legal batch is = record {
    served = λ ptold itold told base history over.
        let text = lines.left input in
        let some : List ℕ → List ℕ → Type 0 =
        λ file sent. StandsForWhat file base (λ now. ServesSome base history batch (counted_lines text) now (bench.sent at) sent) in
        by_giving_up (λ (s : Status). ServeEnds batch s base history (outside lines bench input at) (outside lines bench input later)) status
        (gives_up (Serve batch false) is ptold (λ opens. told) (base, history, over)) (reads.sent, reads.file) (reads.sent, reads.file) tt
        (subst (λ (file : List ℕ). some file (bench.sent later)) (sym reads.file)
        (subst (λ (sent : List ℕ). some (bench.file at) sent) (sym reads.sent)
        (nothing_served base batch history text (bench.sent at) (bench.file at) over.stands)));
    any_moment = λ ptold itold told quiet base history over.
        still quiet (λ image sent. untouched_stops base batch history (counted_lines (lines.left input)) (bench.file at) (bench.sent at) image sent
        over.stands);
    undisclosed = λ ptold told quiet base history over image sent now was stands.
        legal _ _ _ image sent base batch history now [] over.files over.legal
        (untouched_stops base batch history [] (bench.file at) (bench.sent at) image sent over.stands
        ((reads.untouched quiet).each image sent was)) stands;
    serve_calls = λ ptold itold told done base history over. never_done status early done;
    complete = λ ptold itold told base history over within none.
        wants (gives_up (Serve batch false) is ptold (λ opens. told) (base, history, over)) none;
  }

  untwinned : StopsAreLegal → RunsMakeLives → OneReading → OnlyReads bench spare spare → (batch : ℕ) → IsBatch batch → asked ≡ Some (Serve batch true) →
      TwinServing files lines bench batch status old new
  untwinned legal longer one spared batch few is =
      let gave = λ (ptold : files.told) (told : bench.told). gives_up (Serve batch true) is ptold (λ opens. told) in
      record {
        twins_served = λ ptold itold told base main other whole over.
            by_giving_up (λ (s : Status). TwinEnds batch s base main other whole (outside lines bench input at) (outside lines bench input later)
            (bench.file spare))
            status (gave ptold told (base, over.files)) (reads.sent, reads.file) (reads.sent, reads.file) tt (inl (
              refl,
              reads.sent,
              at_first base.secret.shape main whole over.together.main_stands over.together.main_front (bench.file later) reads.file,
              at_first base.secret.shape other whole over.together.spare_stands over.together.spare_front (bench.file spare) refl,
            ));
        twin_moment = λ ptold itold told quiet base main other whole over.
            still quiet (λ image sent same. inl (
              same.0,
              at_first base.secret.shape main whole over.together.main_stands over.together.main_front
                  image same.1,
            ));
        spare_moment = λ ptold itold told quiet base main other whole over.
            weakens bench spare spare (IsUntouched (bench.file spare) (bench.sent spare)) _
            (λ image sent same. inl (same.0, at_first base.secret.shape other whole over.together.spare_stands over.together.spare_front image same.1))
            (spared.untouched quiet);
        twins_left = λ ptold itold told quiet spare_quiet base main other whole over image found left left_there. inl (
          refl,
          reads.sent,
          at_first base.secret.shape main whole over.together.main_stands over.together.main_front image (quiet image (reads.crash image left)),
          at_first base.secret.shape other whole over.together.spare_stands over.together.spare_front found (spare_quiet found left_there),
        );
        spare_lives = λ ptold itold told quiet spare_quiet. spare_goes_on files lines bench batch old new longer one few
            (λ base main other whole over image sent left all. inl (
              sym all ∙ reads.sent,
              at_first base.secret.shape other whole over.together.spare_stands over.together.spare_front image (spare_quiet image left),
            ));
        undisclosed = λ ptold told quiet base main other whole over image sent now was.
            legal _ _ (bench.sent at) image sent base batch main now [] over.files (main_is_legal (table_in base) _ _ main other whole over.together)
            (untouched_stops base batch main [] (bench.file at) (bench.sent at) image sent over.together.main_stands ((reads.untouched quiet).each
            image sent was));
        spare_undisclosed = λ ptold told quiet base main other whole over image sent now was.
            legal _ _ (bench.sent spare) image sent base batch other now [] over.files (spare_is_legal (table_in base) _ _ main other whole over.together)
            (untouched_stops base batch other [] (bench.file spare) (bench.sent spare) image sent over.together.spare_stands
            ((spared.untouched quiet).each image sent was));
        apart = λ ptold told quiet none. reads.untouched quiet;
        spare_apart = λ ptold told quiet none. spared.untouched quiet;
        cause = λ ptold told base sound.
            by_giving_up (λ (s : Status). BothCause s (Serve batch true) (bench.file at) (bench.file spare) (table_in base)) status (gave ptold told
            (base, sound)) tt tt tt tt;
        spare_quiet = λ told quiet fine. quiet;
        spare_unsent = refl;
        spare_unwritten = always_before reading_lines status refl;
        twin_calls = λ ptold itold told done base main other whole over. never_done status early done;
        spare_calls = λ ptold itold told done base main other whole over. never_done status early done;
        twins_complete = λ ptold itold told base main other whole over within none fine. wants (gave ptold told (base, over.files)) none;
      }

  unrestored : OnlyReads bench spare spare → asked ≡ Some Restore → Restoring files lines bench status old new
  unrestored spared is =
      let gave = λ (ptold : files.told) (told : bench.told). gives_up Restore is ptold (λ opens. told) in
      record {
        restored = λ ptold told done base sound. never_done status early done;
        same = λ told done. never_done status early done;
        cause = λ ptold told base sound.
            by_giving_up (λ (s : Status). BothCause s Restore (bench.file at) (bench.file spare) (table_in base)) status (gave ptold told (
              base,
              sound,
            )) tt tt tt tt;
        no_memory = λ is. (reads.file, refl);
        restoring = λ ptold told quiet base history sound lost.
            still quiet (λ image sent same. (same.0, inl (λ made. lost.unmade (subst IsMade same.1 made))));
        spare_restoring = λ ptold told quiet base history sound lost.
            weakens bench spare spare (IsUntouched (bench.file spare) (bench.sent spare)) _
            (λ image sent same. (same.0, inl (λ made. lost.unmade (subst IsMade same.1 made)))) (spared.untouched quiet);
        kept = λ told quiet made. reads.untouched quiet;
        spare_kept = λ told quiet made. spared.untouched quiet;
        untouched = λ ptold told quiet none. reads.untouched quiet;
        spare_untouched = λ ptold told quiet none. spared.untouched quiet;
        spare_quiet = λ told quiet fine. quiet;
        unsent = (reads.sent, refl);
        uncalled = always_before opening_journal status refl;
        restore_calls = λ told done. never_done status early done;
        restores = λ ptold told base sound can none fine. wants (gave ptold told (base, sound)) none;
      }

  unaudited : asked ≡ Some Audit → Auditing files lines bench status old new
  unaudited is = record {
    audited = λ ptold told base history over.
        let none = subst (λ (bytes : List ℕ). ReportsFront (audit_over base history) (people_over base) (bench.sent at) bytes) (sym reads.sent)
        (none_front (audit_over base history) (subjects_over base) (bench.sent at)) in
        by_giving_up (λ (s : Status). AuditEnds s base history (bench.sent at) (bench.sent later)) status
        (gives_up Audit is ptold (λ opens. told) (base, history, over)) reads.sent reads.sent none none;
    auditing = λ ptold told quiet base history over.
        still quiet (untouched_report (audit_over base history) (subjects_over base) (bench.file at) (bench.sent at));
    audit_calls = λ ptold told done base history over. never_done status early done;
    audits = λ ptold told base history over none. wants (gives_up Audit is ptold (λ opens. told) (base, history, over)) none;
  }

  unsimulated : asked ≡ Some Simulate → Simulating files lines bench status old new
  unsimulated is =
      let gave = λ (ptold : files.told) (index : IndexView) (given : ArePublicFilesOf (files.left schema) (files.left table)
      index).
      gives_up Simulate is ptold (λ opens. absurd (false≢true opens)) (index, given) in
      record {
        simulated = λ ptold itold told index history over.
            let text = lines.left input in
            let begun = none_due (simulation index history) tt (counted_lines text) in
            let same = reads.sent ∙ sym (append-nil (bench.sent at)) in
            let gave_up = gave ptold index over.files in (
              [],
              by_giving_up (λ (s : Status). SimulateEnds s index history text text []) status gave_up refl refl begun begun,
              by_giving_up (λ (s : Status). SendsTexts (simulation index history) s [] (bench.sent at) (bench.sent later)) status gave_up same same
                  (0, same) same,
            );
        simulating = λ ptold told quiet index history over.
            still quiet (λ image sent same.
            nothing_meanwhile (simulation index history) tt lines.told (counted_lines (lines.left input)) (bench.file at) (bench.sent at) image sent same);
        cause = λ ptold told index given.
            by_giving_up (λ (s : Status). BeginningCause s (bench.file at) (public_setting index)) status (gave ptold index given)
            tt tt tt tt;
        undisturbed = left_alone;
        untouched = λ ptold told quiet none. reads.untouched quiet;
        simulate_calls = λ itold told done. never_done status early done;
        simulates = λ ptold itold told index history over verdicts agree within none. wants (gave ptold index over.files) none;
      }

  ungrown : asked ≡ Some Grow → Growing files lines bench status old new
  ungrown is = record {
    grown = λ ptold told base rows history given.
        by_giving_up (λ (s : Status). GrowEnds s base history (bench.file at) (bench.file later)) status
        (gives_up Grow is ptold (λ opens. told) (base, given.files)) reads.file reads.file tt reads.file;
    growing = λ ptold told quiet base rows history given.
        still quiet (λ image sent same. (same.0, inl (subst (λ (f : List ℕ). StandsFor f (over rows base.secret.shape) history) (sym same.1) given.stands)));
    unsent = reads.sent;
    kept = λ undone fine. reads.file;
    grow_calls = λ told done. never_done status early done;
    grows = λ ptold told base rows history given none. wants (gives_up Grow is ptold (λ opens. told) (base, given.files)) none;
  }

  unexplained : asked ≡ Some Explain → Explaining files lines bench status old new
  unexplained is = record {
    explained = λ ptold itold told base history over.
        let text = lines.left input in
        let first = none_due (explanations (public_part base) history) tt (counted_lines text) in
        let same = reads.sent ∙ sym (append-nil (bench.sent at)) in
        let gave_up = gives_up Explain is ptold (λ opens. told) (base, history, over) in (
          [],
          by_giving_up (λ (s : Status). TalkEnds (explanations (public_part base) history) s text text []) status gave_up refl refl first first,
          by_giving_up (λ (s : Status). SendsTexts (explanations (public_part base) history) s [] (bench.sent at) (bench.sent later)) status gave_up same same
              (0, same) same,
        );
    explaining = λ ptold told quiet base history over.
        still quiet (nothing_meanwhile (explanations (public_part base) history) tt lines.told (counted_lines (lines.left input)) (bench.file at)
        (bench.sent at));
    undisturbed = left_alone;
    explain_calls = λ itold told done. never_done status early done;
    explains = λ ptold itold told base history over within none. wants (gives_up Explain is ptold (λ opens. told) (base, history, over)) none;
  }

  uncompacted : OnlyReads bench spare spare → asked ≡ Some Compact → Compacting files lines bench status old new
  uncompacted spared is =
      record {
        compacted = λ ptold told base history over.
            by_giving_up (λ (s : Status). CompactEnds s base.secret.shape history (bench.file spare) (bench.file spare) (bench.sent at)
            (bench.sent later)) status
            (gives_up Compact is ptold (λ opens. told) (base, history, over)) reads.sent reads.sent (inl reads.sent) reads.sent;
        compacting = λ ptold told unmade quiet base history over.
            weakens bench spare spare (IsUntouched (bench.file spare) (bench.sent spare)) _
            (λ image sent same. (same.0, inl (λ made. unmade (subst IsMade same.1 made)))) (spared.untouched quiet);
        stable = λ told done. never_done status early done;
        unsent_yet = λ failed. reads.sent;
        alike = λ ptold told unmade quiet base history over image sent found was made stands.
            absurd (unmade (subst IsMade ((spared.untouched quiet).each image sent was).1 made));
        sending = λ ptold told quiet base history over. still quiet (λ image sent same. (same.1, inl same.0));
        undisturbed = left_alone;
        kept = λ told made. (reads.sent, refl);
        untouched = λ told made quiet. spared.untouched quiet;
        unsent = λ told made quiet. reads.untouched quiet;
        uncalled = λ ptold told none. (refl, reads.sent);
        no_memory = λ wanted. refl;
        compact_calls = λ told done. never_done status early done;
        spare_calls = λ told done. never_done status early done;
        compacts = λ ptold told unmade base history over none fine. wants (gives_up Compact is ptold (λ opens. told) (base, history, over)) none;
      }

  pub refused : StopsAreLegal → RunsMakeLives → OneReading → ((batch : ℕ) (twin : Bool) → asked ≡ Some (Serve batch twin) → IsBatch batch) →
      OnlyReads bench spare spare →
      ((number : ℕ) → asked ≡ Some (Drill number) → Drilling files lines bench number status old new) →
      (command : Command) → asked ≡ Some command → Does files lines bench command status old new
  refused legal longer one batches spared drilled Init is = unmade is
  refused legal longer one batches spared drilled (Serve batch false) is = unserved legal batch is
  refused legal longer one batches spared drilled (Serve batch true) is = untwinned legal longer one spared batch (batches batch true is) is
  refused legal longer one batches spared drilled Audit is = unaudited is
  refused legal longer one batches spared drilled Simulate is = unsimulated is
  refused legal longer one batches spared drilled (Drill number) is = drilled number is
  refused legal longer one batches spared drilled Grow is = ungrown is
  refused legal longer one batches spared drilled Explain is = unexplained is
  refused legal longer one batches spared drilled Compact is = uncompacted spared is
  refused legal longer one batches spared drilled Restore is = unrestored spared is
