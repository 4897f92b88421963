use Rattle.std.proofs.Common.{◌≡◌, inl, inr, ◌+◌, List, ℕ, Result, Err, refl, sym, ap, subst, ◌∙◌}
use Rattle.std.specs.Prelude.{⊤, IfErr}
use Rattle.std.proofs.lemmas.Result.{IfErr-at_err, IfErr-weaker, IfOk-from_err, on_ok_weaker}
use Rattle.audit_types.specs.declared.records.Answered.{Answered}
use Rattle.std.proofs.lemmas.Bool.{true≢false}
use Rattle.bench_core.specs.Calls.{IsUntouched, LeavesOnly, OnlyReads}
use Rattle.bench_core.specs.Moments.{still_quiet, then_reads, then_tells}
use Rattle.bench_core.specs.Reports.{done_call, failed_call, is_refusal, not_called, not_written, of_refusal, told_as}
use Rattle.journal_form.specs.Journal.{StandsFor}
use Rattle.answer_journal.specs.Make.{calls_to_make}
use Rattle.answer_journal.specs.MadeFiles.{stands_is_made}
use Rattle.answer_journal.specs.Moments.{IsMade}
use Rattle.answer_journal.specs.Whole.{HoldsWhole}
use Rattle.audit_store.specs.Refusals.{no_refusal}
use Rattle.bench_core.specs.Ends.{DoneUnlessStopped, EndsBy, IsDueUnlessStopped, IsStop, RefusedUnlessStopped, refused_as, turned_end}
use Rattle.bench_core.specs.EndLaws.{EndsBy-weaker, by_cause, renamed_by, renamed_due, renamed_stopped}
use Rattle.bench_core.specs.EndLaws.{turned_back, turned_by, turned_due, turned_on, turned_refused, turned_stopped, turned_tells}
use Rattle.bench_core.specs.Stops.{IsOfBenches, turned_of_benches}
use Rattle.bench_core.specs.declared.stops.End.{End}
use Rattle.bench_core.specs.declared.stops.End.TheVariants.{Stopped, Refused}
use Rattle.bench_core.specs.declared.stops.Stop.TheVariants as stop
use Rattle.answer_journal.specs.declared.refusals.JournalRefusal.{JournalRefusal}
use Rattle.audit_store.specs.Starting.{StartCause}
use Rattle.twin_journal.specs.declared.restoring.RestoreRefusal.{RestoreRefusal}
use Rattle.twin_journal.specs.declared.restoring.RestoreRefusal.TheVariants.{NothingLost, BothLost, Main, Spare}
use Rattle.twin_journal.specs.Copying.{IsKeptFor, IsOfCopy}
use Rattle.twin_journal.specs.Restoring.{IsLost, IsLostOf, RestoreCause, turned_refusal}
use Rattle.twin_journal.proofs.Copies.{both_lost_due, both_made_due, is_kept, is_lost_of, main_is_due, main_refused, on_ok_both, read_and_write, read_lost}
use Rattle.twin_journal.proofs.Copies.{refused_copy, spare_is_due, spare_refused, stand_alike, takes_calls}
use Rattle.twin_journal.proofs.restoring.restore.Goals as goal

-- nothing was restored, for this refusal
abbrev unrestored : RestoreRefusal → Result (Unit {0}) (End RestoreRefusal)
unrestored refusal = Err (Refused refusal)

-- or copied, for this end
abbrev uncopied : End RestoreRefusal → Result (Unit {0}) (End RestoreRefusal)
uncopied end = Err end

-- ---- it wasn't found whether the journal is made

pub returns-in_err-main_is_made : goal.returns-in_err-main_is_made
returns-in_err-main_is_made g c =
    let table = c.args.guarded in
    let file = g.B.Bench.file c.args.bench.now in
    let spare = g.S.Bench.file c.args.spare.now in
    let looked = c.is_made.new.bench in
    let reads = c.is_made.ensures.reads in
    let unwritten = not_written g.S.Bench c.args.spare.now (g.met.S.Bench.only_now c.args.spare.now) in
    let answer = c.from_residual.result in
    let refuses = c.from_residual.ensures in
    let same : answer ≡ Err (Stopped stop.Bench) = is_refusal answer (Stopped stop.Bench) refuses in
    record {
      done = λ told spare_told. IfOk-from_err _ _ refuses.0;
      alike = λ told spare_told. IfOk-from_err _ _ refuses.0;
      cause = λ refusal told spare_told given. absurd (IfErr-at_err (EndsBy IsOfBenches (λ _. ⊥)) (sym same ∙ given) tt);
      due = λ due told spare_told cause. of_refusal answer (Stopped stop.Bench) refuses (RefusedUnlessStopped due) tt;
      restores = λ told spare_told can. of_refusal answer (Stopped stop.Bench) refuses DoneUnlessStopped tt;
      main_moments = λ history told spare_told quiet is. read_lost g.B.Bench c.args.bench.now looked table.setting.shape history reads quiet is.unmade;
      spare_moments = λ history told spare_told quiet is.
          read_lost g.S.Bench c.args.spare.now c.args.spare.now table.setting.shape history unwritten quiet is.unmade;
      main_kept = λ told quiet made. reads.untouched quiet;
      spare_kept = λ told quiet made. unwritten.untouched quiet;
      untouched = λ told spare_told quiet none. reads.untouched quiet;
      spare_untouched = λ told spare_told quiet none. unwritten.untouched quiet;
      reads = λ refused. (reads, unwritten);
      no_memory = λ refused. (reads, unwritten);
      quiet = λ told quiet fine. absurd (fine same);
      spare_quiet = λ told quiet fine. quiet;
      sent = reads.sent;
      spare_sent = refl;
      ticks = λ told spare_told. IfOk-from_err _ _ refuses.0;
      fault = failed_call g.B.Bench c.args.bench.now looked _ _ c.in_err-main_is_made.ensures.cause c.in_err-main_is_made.ensures.last_call same;
      spare_fault = not_called g.S.Bench c.args.spare.now _ (λ refused. let none : ⊥ = cc in absurd none);
      ends = of_refusal answer (Stopped stop.Bench) refuses (λ r. IfErr r (EndsBy IsOfBenches (λ _. ⊤))) tt;
    }

-- ---- or the spare

pub returns-in-Err : goal.returns-in-Err
returns-in-Err g c =
    let table = c.args.guarded in
    let file = g.B.Bench.file c.args.bench.now in
    let spare = g.S.Bench.file c.args.spare.now in
    let looked = c.is_made.new.bench in
    let reads = c.is_made.ensures.reads in
    let spare_looked = c.is_made-2.new.bench in
    let spare_reads = c.is_made-2.ensures.reads in
    record {
      done = λ told spare_told. tt;
      alike = λ told spare_told. tt;
      cause = λ refusal told spare_told given. let none : ⊥ = cc in absurd none;
      due = λ due told spare_told cause. tt;
      restores = λ told spare_told can. tt;
      main_moments = λ history told spare_told quiet is. read_lost g.B.Bench c.args.bench.now looked table.setting.shape history reads quiet is.unmade;
      spare_moments = λ history told spare_told quiet is.
          read_lost g.S.Bench c.args.spare.now spare_looked table.setting.shape history spare_reads quiet is.unmade;
      main_kept = λ told quiet made. reads.untouched quiet;
      spare_kept = λ told quiet made. spare_reads.untouched quiet;
      untouched = λ told spare_told quiet none. reads.untouched quiet;
      spare_untouched = λ told spare_told quiet none. spare_reads.untouched quiet;
      reads = λ refused. (reads, spare_reads);
      no_memory = λ refused. let none : ⊥ = cc in absurd none;
      quiet = λ told quiet fine. still_quiet g.B.Bench c.args.bench.now looked reads quiet;
      spare_quiet = λ told quiet fine. absurd (fine refl);
      sent = reads.sent;
      spare_sent = spare_reads.sent;
      ticks = λ told spare_told. tt;
      fault = done_call g.B.Bench c.args.bench.now looked _ _ c.in_ok-main_is_made.ensures.cause (λ refused. let none : ⊥ = cc in absurd none);
      spare_fault = failed_call g.S.Bench c.args.spare.now spare_looked _ _ c.in-Err.ensures.cause c.in-Err.ensures.last_call refl;
      ends = tt;
    }

-- ---- none is lost

pub returns-then-spare_is_made : goal.returns-then-spare_is_made
returns-then-spare_is_made g c =
    let table = c.args.guarded in
    let file = g.B.Bench.file c.args.bench.now in
    let spare = g.S.Bench.file c.args.spare.now in
    let looked = c.is_made.new.bench in
    let reads = c.is_made.ensures.reads in
    let spare_looked = c.is_made-2.new.bench in
    let spare_reads = c.is_made-2.ensures.reads in
    let made : g.B.Bench.told → IsMade file = λ told. (c.in_ok-main_is_made.ensures.made told).0 c.if-main_is_made.true in
    let spare_made : g.S.Bench.told → IsMade spare = λ told. (c.in-Ok.ensures.made told).0 c.if-spare_is_made.true in
    record {
      done = λ told spare_told. tt;
      alike = λ told spare_told. tt;
      cause = λ refusal told spare_told given.
          let same : NothingLost ≡ refusal = cc in subst (λ (r : RestoreRefusal). RestoreCause r file spare table) same (made told, spare_made spare_told);
      due = λ due told spare_told cause. both_made_due table file spare (made told) (spare_made spare_told) due cause;
      restores = λ told spare_told can.
          elim can.1 [ inl is ↦ is.unmade (spare_made spare_told) | inr is ↦ is.unmade (made told) ];
      main_moments = λ history told spare_told quiet is. read_lost g.B.Bench c.args.bench.now looked table.setting.shape history reads quiet is.unmade;
      spare_moments = λ history told spare_told quiet is.
          read_lost g.S.Bench c.args.spare.now spare_looked table.setting.shape history spare_reads quiet is.unmade;
      main_kept = λ told quiet made. reads.untouched quiet;
      spare_kept = λ told quiet made. spare_reads.untouched quiet;
      untouched = λ told spare_told quiet none. reads.untouched quiet;
      spare_untouched = λ told spare_told quiet none. spare_reads.untouched quiet;
      reads = λ refused. (reads, spare_reads);
      no_memory = λ refused. let none : ⊥ = cc in absurd none;
      quiet = λ told quiet fine. still_quiet g.B.Bench c.args.bench.now looked reads quiet;
      spare_quiet = λ told quiet fine. still_quiet g.S.Bench c.args.spare.now spare_looked spare_reads quiet;
      sent = reads.sent;
      spare_sent = spare_reads.sent;
      ticks = λ told spare_told. tt;
      fault = done_call g.B.Bench c.args.bench.now looked _ _ c.in_ok-main_is_made.ensures.cause (λ refused. let none : ⊥ = cc in absurd none);
      spare_fault = done_call g.S.Bench c.args.spare.now spare_looked _ _ c.in-Ok.ensures.cause (λ refused. let none : ⊥ = cc in absurd none);
      ends = tt;
    }

-- ---- both are

pub returns-then-not-spare_is_made : goal.returns-then-not-spare_is_made
returns-then-not-spare_is_made g c =
    let table = c.args.guarded in
    let file = g.B.Bench.file c.args.bench.now in
    let spare = g.S.Bench.file c.args.spare.now in
    let looked = c.is_made.new.bench in
    let reads = c.is_made.ensures.reads in
    let spare_looked = c.is_made-2.new.bench in
    let spare_reads = c.is_made-2.ensures.reads in
    let unmade : g.B.Bench.told → IsLost file = λ told made. true≢false (sym ((c.in_ok-main_is_made.ensures.made told).1 made) ∙ c.if-main_is_made.false) in
    let spare_unmade : g.S.Bench.told → IsLost spare = λ told made.
    true≢false (sym ((c.in-Ok.ensures.made told).1 made) ∙ c.if-not-spare_is_made.true) in
    record {
      done = λ told spare_told. tt;
      alike = λ told spare_told. tt;
      cause = λ refusal told spare_told given.
          let same : BothLost ≡ refusal = cc in subst (λ (r : RestoreRefusal). RestoreCause r file spare table) same (unmade told, spare_unmade spare_told);
      due = λ due told spare_told cause. both_lost_due table file spare (unmade told) (spare_unmade spare_told) due cause;
      restores = λ told spare_told can.
          let shape = table.setting.shape in
          elim can.1 [
            | inl is ↦ unmade told (stands_is_made file shape can.0 is.stands)
            | inr is ↦ spare_unmade spare_told (stands_is_made spare shape can.0 is.stands)
          ];
      main_moments = λ history told spare_told quiet is. read_lost g.B.Bench c.args.bench.now looked table.setting.shape history reads quiet is.unmade;
      spare_moments = λ history told spare_told quiet is.
          read_lost g.S.Bench c.args.spare.now spare_looked table.setting.shape history spare_reads quiet is.unmade;
      main_kept = λ told quiet made. reads.untouched quiet;
      spare_kept = λ told quiet made. spare_reads.untouched quiet;
      untouched = λ told spare_told quiet none. reads.untouched quiet;
      spare_untouched = λ told spare_told quiet none. spare_reads.untouched quiet;
      reads = λ refused. (reads, spare_reads);
      no_memory = λ refused. let none : ⊥ = cc in absurd none;
      quiet = λ told quiet fine. still_quiet g.B.Bench c.args.bench.now looked reads quiet;
      spare_quiet = λ told quiet fine. still_quiet g.S.Bench c.args.spare.now spare_looked spare_reads quiet;
      sent = reads.sent;
      spare_sent = spare_reads.sent;
      ticks = λ told spare_told. tt;
      fault = done_call g.B.Bench c.args.bench.now looked _ _ c.in_ok-main_is_made.ensures.cause (λ refused. let none : ⊥ = cc in absurd none);
      spare_fault = done_call g.S.Bench c.args.spare.now spare_looked _ _ c.in-Ok.ensures.cause (λ refused. let none : ⊥ = cc in absurd none);
      ends = tt;
    }

-- ---- the journal is kept, and the spare lost

pub returns-then-main_is_made : goal.returns-then-main_is_made
returns-then-main_is_made g c =
    let table = c.args.guarded in
    let file = g.B.Bench.file c.args.bench.now in
    let spare = g.S.Bench.file c.args.spare.now in
    let looked = c.is_made.new.bench in
    let reads = c.is_made.ensures.reads in
    let spare_looked = c.is_made-2.new.bench in
    let spare_reads = c.is_made-2.ensures.reads in
    let made : g.B.Bench.told → IsMade file = λ told. (c.in_ok-main_is_made.ensures.made told).0 c.if-main_is_made.true in
    let spare_unmade : g.S.Bench.told → IsLost spare = λ told made.
    true≢false (sym ((c.in-Ok.ensures.made told).1 made) ∙ c.if-spare_is_made.false) in
    let kept_new = c.copy_journal.new.kept in
    let lost_new = c.copy_journal.new.lost in
    let all_reads = then_reads g.B.Bench c.args.bench.now looked kept_new reads c.copy_journal.ensures.reads in
    let does = c.copy_journal.ensures in
    let answer = c.copy_journal.result in
    let lost_of : (history : List Answered) → g.S.Bench.told → IsKeptFor table (g.B.Bench.file looked) history → IsLostOf table spare file history =
    λ history told kept. is_lost_of table spare file (g.B.Bench.file looked) history reads.file (spare_unmade told) kept in
    let kept_of : (history : List Answered) → IsLostOf table spare file history → IsKeptFor table (g.B.Bench.file looked) history =
    λ history is. is_kept table spare file (g.B.Bench.file looked) history reads.file is in
    let same_cause : (kept : JournalRefusal) → StartCause kept file table → StartCause kept (g.B.Bench.file looked) table =
    λ kept cause. subst (λ (x : List ℕ). StartCause kept x table) (sym reads.file) cause in
    record {
      done = λ told spare_told.
          on_ok_weaker answer (λ copied.
          let whole = subst (λ (f : List ℕ). HoldsWhole table.setting.shape copied.0 f (g.S.Bench.file lost_new)) spare_reads.file copied.3 in
          (copied.0, inl (record { was = lost_of copied.0 spare_told copied.1; same = all_reads.file; stands = copied.2; whole = whole })))
          (does.done told spare_told);
      alike = λ told spare_told.
          on_ok_weaker answer (λ copied.
          let is = lost_of copied.0 spare_told copied.1 in
          let stands = subst (λ (f : List ℕ). StandsFor f table.setting.shape copied.0) (sym all_reads.file) is.stands in
          stand_alike c.one_reading.ensures (g.B.Bench.file kept_new) (g.S.Bench.file lost_new) table.setting.shape copied.0 stands copied.2)
          (does.done told spare_told);
      cause = λ refusal told spare_told given.
          main_refused table file spare refusal (IfErr-at_err (EndsBy IsOfBenches IsOfCopy) given does.ends)
          (λ there. does.already spare_told (given ∙ ap unrestored there)) (spare_unmade spare_told) (made told)
          (λ kept is. subst (λ (x : List ℕ). StartCause kept x table) reads.file (does.cause kept told (given ∙ ap unrestored is)));
      due = λ due told spare_told cause.
          main_is_due table file spare (λ (r : RestoreRefusal). RefusedUnlessStopped r answer) (spare_unmade spare_told) (made told)
          (λ kept why. does.due kept told spare_told (same_cause kept why)) due cause;
      restores = λ told spare_told can.
          elim can.1 [ inl is ↦ does.copies can.0 told spare_told (kept_of can.0 is) | inr is ↦ absurd (is.unmade (made told)) ];
      main_moments = λ history told spare_told quiet is. absurd (is.unmade (made told));
      spare_moments = λ history told spare_told quiet is.
          read_and_write g.S.Bench c.args.spare.now spare_looked table.setting.shape history spare_reads quiet is.unmade lost_new
          (λ still. does.moments history told spare_told still (kept_of history is));
      main_kept = λ told quiet made. all_reads.untouched quiet;
      spare_kept = λ told quiet made. absurd (spare_unmade told made);
      untouched = λ told spare_told quiet none. all_reads.untouched quiet;
      spare_untouched = λ told spare_told quiet none.
          let same = does.apart told (λ history kept. none (history, inl (lost_of history spare_told kept))) in
          subst (λ b. LeavesOnly g.S.Bench c.args.spare.now b (IsUntouched spare (g.S.Bench.sent c.args.spare.now))) (sym same) (spare_reads.untouched quiet);
      reads = λ refused. (
        all_reads,
        refused_copy answer (OnlyReads g.S.Bench c.args.spare.now lost_new) does.ends refused
            (λ there. then_reads g.S.Bench c.args.spare.now spare_looked lost_new spare_reads (does.already_reads there))
            (λ kept is. subst (λ b. OnlyReads g.S.Bench c.args.spare.now b) (sym (does.refused kept is)) spare_reads),
      );
      no_memory = λ given. (all_reads, subst (λ b. OnlyReads g.S.Bench c.args.spare.now b) (sym (does.no_memory given)) spare_reads);
      quiet = λ told quiet fine. still_quiet g.B.Bench c.args.bench.now kept_new all_reads quiet;
      spare_quiet = λ told quiet fine. does.quiet told (still_quiet g.S.Bench c.args.spare.now spare_looked spare_reads quiet) fine;
      sent = all_reads.sent;
      spare_sent = does.sent ∙ spare_reads.sent;
      ticks = λ told spare_told.
          on_ok_both answer (λ written read.
          inl (
            spare_unmade spare_told,
            takes_calls spare file _ _ _ _ _ _ (made told) (c.in-Ok.ensures.ticks spare_told)
                (written ∙ ap (λ (f : List ℕ). g.S.Bench.moment spare_looked + calls_to_make f) spare_reads.file)
                (c.in_ok-main_is_made.ensures.ticks told) read,
          )) (does.ticks spare_told) (does.kept_ticks told);
      fault =
          then_tells g.B.Bench c.args.bench.now looked kept_new ⊥ _
          (done_call g.B.Bench c.args.bench.now looked _ ⊥ c.in_ok-main_is_made.ensures.cause (λ none. none)) (λ none. none) does.kept_fault;
      spare_fault =
          then_tells g.S.Bench c.args.spare.now spare_looked lost_new ⊥ _
          (done_call g.S.Bench c.args.spare.now spare_looked _ ⊥ c.in-Ok.ensures.cause (λ none. none)) (λ none. none) does.fault;
      ends = IfErr-weaker answer (EndsBy IsOfBenches IsOfCopy) (EndsBy IsOfBenches (λ _. ⊤))
          (λ end. EndsBy-weaker end IsOfBenches IsOfBenches IsOfCopy (λ _. ⊤) (λ stop is. is) (λ r is. tt)) does.ends;
    }

-- ---- the spare is kept, and the journal lost

pub returns-in-Ok-copy_journal : goal.returns-in-Ok-copy_journal
returns-in-Ok-copy_journal g c =
    let table = c.args.guarded in
    let file = g.B.Bench.file c.args.bench.now in
    let spare = g.S.Bench.file c.args.spare.now in
    let looked = c.is_made.new.bench in
    let reads = c.is_made.ensures.reads in
    let spare_looked = c.is_made-2.new.bench in
    let spare_reads = c.is_made-2.ensures.reads in
    let unmade : g.B.Bench.told → IsLost file = λ told made. true≢false (sym ((c.in_ok-main_is_made.ensures.made told).1 made) ∙ c.if-main_is_made.false) in
    let spare_made : g.S.Bench.told → IsMade spare = λ told. (c.in-Ok.ensures.made told).0 c.if-not-spare_is_made.false in
    let kept_new = c.copy_journal-2.new.kept in
    let lost_new = c.copy_journal-2.new.lost in
    let all_reads = then_reads g.S.Bench c.args.spare.now spare_looked kept_new spare_reads c.copy_journal-2.ensures.reads in
    record {
      done = λ told spare_told.
          let copied = c.in-Ok-copy_journal.ensures.done spare_told told in
          let is = is_lost_of table file spare (g.S.Bench.file spare_looked) copied.0 spare_reads.file (unmade told) copied.1 in
          let whole = subst (λ (f : List ℕ). HoldsWhole table.setting.shape copied.0 f (g.B.Bench.file lost_new)) reads.file copied.3 in
          (copied.0, inr (record { was = is; same = all_reads.file; stands = copied.2; whole = whole }));
      alike = λ told spare_told.
          let copied = c.in-Ok-copy_journal.ensures.done spare_told told in
          let is = is_lost_of table file spare (g.S.Bench.file spare_looked) copied.0 spare_reads.file (unmade told) copied.1 in
          let stands = subst (λ (f : List ℕ). StandsFor f table.setting.shape copied.0) (sym all_reads.file) is.stands in
          stand_alike c.one_reading.ensures (g.B.Bench.file lost_new) (g.S.Bench.file kept_new) table.setting.shape copied.0 copied.2 stands;
      cause = λ refusal told spare_told given. let none : ⊥ = cc in absurd none;
      due = λ due told spare_told.
          spare_is_due table file spare (λ (r : RestoreRefusal). ⊥) (unmade told) (spare_made spare_told)
          (λ kept cause. c.in-Ok-copy_journal.ensures.due kept spare_told told
          (subst (λ (x : List ℕ). StartCause kept x table) (sym spare_reads.file) cause)) due;
      restores = λ told spare_told can. tt;
      main_moments = λ history told spare_told quiet is.
          read_and_write g.B.Bench c.args.bench.now looked table.setting.shape history reads quiet is.unmade lost_new
          (λ still. c.copy_journal-2.ensures.moments history spare_told told still
          (is_kept table file spare (g.S.Bench.file spare_looked) history spare_reads.file is));
      spare_moments = λ history told spare_told quiet is. absurd (is.unmade (spare_made spare_told));
      main_kept = λ told quiet made. absurd (unmade told made);
      spare_kept = λ told quiet made. all_reads.untouched quiet;
      untouched = λ told spare_told quiet none.
          let copied = c.in-Ok-copy_journal.ensures.done spare_told told in
          absurd (none (copied.0, inr (is_lost_of table file spare (g.S.Bench.file spare_looked) copied.0 spare_reads.file (unmade told) copied.1)));
      spare_untouched = λ told spare_told quiet none. all_reads.untouched quiet;
      reads = λ refused. absurd refused;
      no_memory = λ refused. no_refusal _ _ refused;
      quiet = λ told quiet fine.
          c.in-Ok-copy_journal.ensures.quiet told (still_quiet g.B.Bench c.args.bench.now looked reads quiet) (λ is. no_refusal _ _ is);
      spare_quiet = λ told quiet fine. still_quiet g.S.Bench c.args.spare.now kept_new all_reads quiet;
      sent = c.copy_journal-2.ensures.sent ∙ reads.sent;
      spare_sent = all_reads.sent;
      ticks = λ told spare_told.
          inr (
            unmade told,
            takes_calls file spare _ _ _ _ _ _ (spare_made spare_told) (c.in_ok-main_is_made.ensures.ticks told)
                (c.in-Ok-copy_journal.ensures.ticks told ∙ ap (λ (f : List ℕ). g.B.Bench.moment looked + calls_to_make f) reads.file)
                (c.in-Ok.ensures.ticks spare_told) (c.in-Ok-copy_journal.ensures.kept_ticks spare_told),
          );
      fault =
          then_tells g.B.Bench c.args.bench.now looked lost_new ⊥ _
          (done_call g.B.Bench c.args.bench.now looked _ ⊥ c.in_ok-main_is_made.ensures.cause (λ none. none))
          (λ none. none)
          (told_as g.B.Bench looked lost_new _ _ (λ is. no_refusal _ _ is) (λ is. no_refusal _ _ is) c.in-Ok-copy_journal.ensures.fault);
      spare_fault =
          then_tells g.S.Bench c.args.spare.now spare_looked kept_new ⊥ _
          (done_call g.S.Bench c.args.spare.now spare_looked _ ⊥ c.in-Ok.ensures.cause (λ none. none)) (λ none. none)
          (told_as g.S.Bench spare_looked kept_new _ _ (λ is. no_refusal _ _ is) (λ is. no_refusal _ _ is) c.in-Ok-copy_journal.ensures.kept_fault);
      ends = tt;
    }

pub returns-in-Err-copy_journal : goal.returns-in-Err-copy_journal
returns-in-Err-copy_journal g c =
    let table = c.args.guarded in
    let file = g.B.Bench.file c.args.bench.now in
    let spare = g.S.Bench.file c.args.spare.now in
    let looked = c.is_made.new.bench in
    let reads = c.is_made.ensures.reads in
    let spare_looked = c.is_made-2.new.bench in
    let spare_reads = c.is_made-2.ensures.reads in
    let unmade : g.B.Bench.told → IsLost file = λ told made. true≢false (sym ((c.in_ok-main_is_made.ensures.made told).1 made) ∙ c.if-main_is_made.false) in
    let spare_made : g.S.Bench.told → IsMade spare = λ told. (c.in-Ok.ensures.made told).0 c.if-not-spare_is_made.false in
    let kept_new = c.copy_journal-2.new.kept in
    let lost_new = c.copy_journal-2.new.lost in
    let all_reads = then_reads g.S.Bench c.args.spare.now spare_looked kept_new spare_reads c.copy_journal-2.ensures.reads in
    let end = c.in-Err-copy_journal.end in
    let does = c.in-Err-copy_journal.ensures in
    let answer = c.turned.result in
    let turns : answer ≡ refused_as turned_refusal (turned_end end) = c.turned.ensures in
    let lost_of : (history : List Answered) → g.B.Bench.told → IsKeptFor table (g.S.Bench.file spare_looked) history → IsLostOf table file spare history =
    λ history told kept. is_lost_of table file spare (g.S.Bench.file spare_looked) history spare_reads.file (unmade told) kept in
    let kept_of : (history : List Answered) → IsLostOf table file spare history → IsKeptFor table (g.S.Bench.file spare_looked) history =
    λ history is. is_kept table file spare (g.S.Bench.file spare_looked) history spare_reads.file is in
    record {
      done = λ told spare_told. tt;
      alike = λ told spare_told. tt;
      cause = λ refusal told spare_told given.
          let caused = by_cause end IsOfBenches (λ r. RestoreCause (turned_refusal r) file spare table) IsOfCopy does.ends
          (λ r is. spare_refused table file spare r (IfErr-at_err (EndsBy IsOfBenches IsOfCopy) is does.ends)
          (λ there. does.already told (is ∙ ap unrestored there)) (unmade told) (spare_made spare_told)
          (λ kept at. subst (λ (x : List ℕ). StartCause kept x table) spare_reads.file (does.cause kept spare_told (is ∙ ap unrestored at)))) in
          IfErr-at_err (EndsBy IsOfBenches (λ r. RestoreCause r file spare table)) given
          (subst (λ (e : End RestoreRefusal). EndsBy IsOfBenches (λ r. RestoreCause r file spare table) e) (sym turns)
          (renamed_by turned_refusal (turned_end end) IsOfBenches _ (turned_by end IsOfBenches IsOfBenches _ turned_of_benches caused)));
      due = λ due told spare_told cause.
          spare_is_due table file spare (λ (r : RestoreRefusal). IsDueUnlessStopped r answer) (unmade told) (spare_made spare_told)
          (λ kept why. subst (λ (e : End RestoreRefusal). IsDueUnlessStopped (Spare kept) e) (sym turns)
          (renamed_due turned_refusal (turned_end end) (Main kept) (turned_due end (Main kept)
          (does.due kept spare_told told (subst (λ (x : List ℕ). StartCause kept x table) (sym spare_reads.file) why))))) due cause;
      restores = λ told spare_told can.
          subst (λ (e : End RestoreRefusal). IsStop e) (sym turns)
          (renamed_stopped turned_refusal (turned_end end) (turned_stopped end (elim can.1 [
            | inr is ↦ does.copies can.0 spare_told told (kept_of can.0 is)
            | inl is ↦ absurd (is.unmade (spare_made spare_told))
          ])));
      main_moments = λ history told spare_told quiet is.
          read_and_write g.B.Bench c.args.bench.now looked table.setting.shape history reads quiet is.unmade lost_new
          (λ still. c.copy_journal-2.ensures.moments history spare_told told still (kept_of history is));
      spare_moments = λ history told spare_told quiet is. absurd (is.unmade (spare_made spare_told));
      main_kept = λ told quiet made. absurd (unmade told made);
      spare_kept = λ told quiet made. all_reads.untouched quiet;
      untouched = λ told spare_told quiet none.
          let same = does.apart spare_told (λ history kept. none (history, inr (lost_of history told kept))) in
          subst (λ b. LeavesOnly g.B.Bench c.args.bench.now b (IsUntouched file (g.B.Bench.sent c.args.bench.now))) (sym same) (reads.untouched quiet);
      spare_untouched = λ told spare_told quiet none. all_reads.untouched quiet;
      reads = λ refused. (
        refused_copy (uncopied end) (OnlyReads g.B.Bench c.args.bench.now lost_new) does.ends (turned_refused turned_refusal end answer turns refused)
            (λ there. then_reads g.B.Bench c.args.bench.now looked lost_new reads (does.already_reads there))
            (λ kept is. subst (λ b. OnlyReads g.B.Bench c.args.bench.now b) (sym (does.refused kept is)) reads),
        all_reads,
      );
      no_memory = λ given. (
        subst (λ b. OnlyReads g.B.Bench c.args.bench.now b) (sym (does.no_memory (turned_back turned_refusal end answer turns stop.NoMemory given))) reads,
        all_reads,
      );
      quiet = λ told quiet fine.
          does.quiet told (still_quiet g.B.Bench c.args.bench.now looked reads quiet)
          (λ failed. fine (turned_on turned_refusal end answer turns stop.Spare failed));
      spare_quiet = λ told quiet fine. still_quiet g.S.Bench c.args.spare.now kept_new all_reads quiet;
      sent = c.copy_journal-2.ensures.sent ∙ reads.sent;
      spare_sent = all_reads.sent;
      ticks = λ told spare_told. tt;
      fault =
          then_tells g.B.Bench c.args.bench.now looked lost_new ⊥ _
          (done_call g.B.Bench c.args.bench.now looked _ ⊥ c.in_ok-main_is_made.ensures.cause (λ none. none)) (λ none. none)
          (turned_tells turned_refusal end answer turns g.B.Bench looked lost_new stop.Spare does.fault);
      spare_fault =
          then_tells g.S.Bench c.args.spare.now spare_looked kept_new ⊥ _
          (done_call g.S.Bench c.args.spare.now spare_looked _ ⊥ c.in-Ok.ensures.cause (λ none. none)) (λ none. none)
          (turned_tells turned_refusal end answer turns g.S.Bench spare_looked kept_new stop.Bench does.kept_fault);
      ends = subst (λ (e : End RestoreRefusal). EndsBy IsOfBenches (λ _. ⊤) e) (sym turns)
          (renamed_by turned_refusal (turned_end end) IsOfBenches (λ _. ⊤) (turned_by end IsOfBenches IsOfBenches (λ _. ⊤) turned_of_benches
          (EndsBy-weaker end IsOfBenches IsOfBenches IsOfCopy (λ _. ⊤) (λ stop is. is) (λ r is. tt) does.ends)));
    }
