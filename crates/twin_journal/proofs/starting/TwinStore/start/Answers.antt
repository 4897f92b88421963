use Rattle.std.proofs.Common.{◌≡◌, ℕ, List, Result, refl, sym, ap, subst, ◌∙◌}
use Rattle.std.specs.Prelude.{⊤, Err, IfErr}
use Rattle.std.proofs.lemmas.Result.{IfErr-at_err, IfOk-from_err}
use Rattle.audit_types.specs.declared.records.Answered.{Answered}
use Rattle.audit_types.specs.declared.shapes.Shape.{Shape}
use Rattle.audit_types.specs.History.{Protection, Table, IsLegal}
use Rattle.bench_core.specs.Calls.{IsUntouched, LeavesOnly, OnlyReads}
use Rattle.bench_core.specs.Moments.{still_quiet, then_tells}
use Rattle.bench_core.specs.Reports.{is_refusal, not_called, not_written, of_refusal, told_as}
use Rattle.journal_form.specs.Journal.{StandsAt, StandsFor}
use Rattle.table_load.specs.Cells.{SecretView}
use Rattle.table_load.specs.Database.{secret_table}
use Rattle.audit_store.specs.Refusals.{no_refusal, same_fault}
use Rattle.bench_core.specs.Ends.{DoneUnlessStopped, EndsBy, IsDueUnlessStopped, IsStop, RefusedUnlessStopped, refused_as, turned_end}
use Rattle.bench_core.specs.EndLaws.{EndsBy-weaker, by_cause, not_stopped_by, renamed_by, renamed_stopped, renamed_tells, turned_by, turned_stopped, turned_tells}
use Rattle.bench_core.specs.Stops.{IsOfBench, IsOfBenches, IsOfSpare, of_benches, spare_of_benches, turned_of_bench}
use Rattle.bench_core.specs.declared.stops.End.{End}
use Rattle.bench_core.specs.declared.stops.End.TheVariants.{Stopped, Refused}
use Rattle.bench_core.specs.declared.stops.Stop.TheVariants as stop
use Rattle.answer_journal.specs.declared.refusals.JournalRefusal.{JournalRefusal}
use Rattle.audit_store.specs.Starting.{StartCause}
use Rattle.audit_store.specs.Stores.{table_of}
use Rattle.twin_journal.specs.declared.starting.TwinRefusal.{TwinRefusal}
use Rattle.twin_journal.specs.declared.starting.TwinRefusal.TheVariants.{Main, Spare, Differ}
use Rattle.twin_journal.specs.Fronts.{main_is_legal, spare_is_legal}
use Rattle.twin_journal.specs.Twins.{CatchesUp, IsDiffer, StandsBetween, TwinCause, TwinContents}
use Rattle.twin_journal.proofs.CatchingUp.{still_there}
use Rattle.twin_journal.proofs.TwinCauses.{IsNotMain, main_due, only_read, spare_due}
use Rattle.twin_journal.proofs.TwinMoments.{apart_never_meet, caught_due, caught_longer, caught_together, left_between, main_calls, main_catches, read_between, refused_cause, refused_due, refused_opens, spare_calls, spare_catches, while_read}
use Rattle.twin_journal.proofs.starting.TwinStore.start.Goals as goal

-- no twin store was started, for this end
abbrev err : End TwinRefusal → Result TwinContents (End TwinRefusal)
err end = Err end

end_of : {end other : End TwinRefusal} → err end ≡ err other → end ≡ other
end_of is = cc

-- and the histories weren't brought together
abbrev unmet : End TwinRefusal → Result (Unit {0}) (End TwinRefusal)
unmet end = Err end

-- ---- the journal isn't gone on from

pub returns-in-Err : goal.returns-in-Err
returns-in-Err g c =
    let table = c.args.guarded in
    let bench = c.args.bench.now in
    let spare_at = c.args.spare.now in
    let file = g.B.Bench.file bench in
    let spare = g.S.Bench.file spare_at in
    let started = c.start.new.bench in
    let reads = c.start.ensures.reads in
    let unwritten = not_written g.S.Bench spare_at (g.met.S.Bench.only_now spare_at) in
    let end = c.in-Err.end in
    let does = c.in-Err.ensures in
    let answer = c.of_main.result in
    let is : answer ≡ refused_as Main end = c.of_main.ensures in
    let by : EndsBy IsOfBench (λ _. ⊤) answer = subst (λ (e : End TwinRefusal). EndsBy IsOfBench (λ _. ⊤) e) (sym is)
    (renamed_by Main end IsOfBench (λ _. ⊤) does.ends) in
    record {
      store = tt;
      stands = λ told. tt;
      spare_stands = λ told. tt;
      together = λ told spare_told. tt;
      longer = λ m o whole told spare_told keep. tt;
      cause = λ refusal told spare_told given.
          let caused = by_cause end IsOfBench (λ r. TwinCause (Main r) file spare table) (λ _. ⊤) does.ends (λ r is. does.cause r told is) in
          IfErr-at_err (EndsBy IsOfBench (λ r. TwinCause r file spare table)) given
          (subst (λ (e : End TwinRefusal). EndsBy IsOfBench (λ r. TwinCause r file spare table) e) (sym is) (renamed_by Main end IsOfBench _ caused));
      due = λ due told spare_told cause.
          subst (λ (e : End TwinRefusal). IsDueUnlessStopped due e) (sym is)
          (main_due file spare table end due (λ d why. does.due d told why) (λ history stands legal. does.opens history told stands legal) cause);
      opens = λ m o whole told spare_told keep.
          subst (λ (e : End TwinRefusal). IsStop e) (sym is)
          (renamed_stopped Main end (does.opens m told keep.main_stands (main_is_legal table file spare m o whole keep)));
      main_moments = λ m o whole told spare_told quiet keep.
          while_read g.B.Bench bench started table.setting.shape m whole reads quiet keep.main_stands keep.main_front;
      spare_moments = λ m o whole told spare_told quiet keep.
          still_there g.S.Bench table.setting.shape o whole spare_at keep.spare_stands.0 (λ image sent was. g.met.S.Bench.only_now spare_at image sent was)
          quiet keep.spare_stands.1 keep.spare_front;
      no_memory = λ m o whole told spare_told keep refusal.
          read_between table file spare (g.B.Bench.file started) spare m o whole reads.file refl keep;
      untouched = λ told spare_told quiet apart. reads.untouched quiet;
      spare_untouched = λ told spare_told quiet apart. unwritten.untouched quiet;
      quiet = λ told quiet fine. still_quiet g.B.Bench bench started reads quiet;
      spare_quiet = λ told quiet fine. quiet;
      sent = reads.sent;
      spare_sent = refl;
      reads = λ refused. (reads, unwritten);
      main_failed = λ refusal. unwritten;
      spare_failed = λ refusal. reads;
      spare_second = λ told refusal. absurd (not_stopped_by answer IsOfBench _ stop.Spare (λ no. no) by refusal);
      main_first = λ fault refusal. refl;
      ticks = λ m o whole told spare_told keep. tt;
      spare_ticks = λ m o whole told spare_told keep. tt;
      fault = renamed_tells g.B.Bench bench started Main end stop.Bench (err answer) (ap err is) does.fault;
      spare_fault = not_called g.S.Bench spare_at _ (λ refusal. not_stopped_by answer IsOfBench _ stop.Spare (λ no. no) by refusal);
      ends = EndsBy-weaker answer IsOfBench IsOfBenches _ _ of_benches (λ r is. tt) by;
    }

-- ---- the spare isn't

pub returns-in-Err-open_other : goal.returns-in-Err-open_other
returns-in-Err-open_other g c =
    let table = c.args.guarded in
    let bench = c.args.bench.now in
    let spare_at = c.args.spare.now in
    let file = g.B.Bench.file bench in
    let spare = g.S.Bench.file spare_at in
    let started = c.start.new.bench in
    let reads = c.start.ensures.reads in
    let store = c.in-Ok.store in
    let opened = c.in-Ok.ensures in
    let of_store = opened.store in
    let same_table : table_of store ≡ table = of_store.0 in
    let same_shape : store.secret.shape ≡ table.setting.shape = ap (λ (t : Table). t.setting.shape) same_table in
    let main = store.history in
    let legal : IsLegal table main = subst (λ (t : Table). IsLegal t main) same_table of_store.2.legal in
    let stands : g.B.Bench.told → StandsFor file table.setting.shape main = λ told.
    (store.journal.gate, subst (λ (s : Shape). StandsAt file s main store.journal.gate) same_shape (opened.stands told)) in
    let none : g.B.Bench.told → (d : JournalRefusal) → StartCause d file table → ⊥ = λ told d cause. opened.due d told cause in
    let spare_opened = c.open_other.new.spare in
    let spare_reads = c.open_other.ensures.reads in
    let end = c.in-Err-open_other.end in
    let does = c.in-Err-open_other.ensures in
    let answer = c.of_spare.result in
    let is : answer ≡ refused_as Spare (turned_end end) = c.of_spare.ensures in
    let by : EndsBy IsOfSpare IsNotMain answer = subst (λ (e : End TwinRefusal). EndsBy IsOfSpare IsNotMain e) (sym is)
    (renamed_by Spare (turned_end end) IsOfSpare IsNotMain (turned_by end IsOfBench IsOfSpare (λ _. ⊤) turned_of_bench does.ends)) in
    record {
      store = tt;
      stands = λ told. tt;
      spare_stands = λ told. tt;
      together = λ told spare_told. tt;
      longer = λ m o whole told spare_told keep. tt;
      cause = λ refusal told spare_told given.
          let caused = by_cause end IsOfBench (λ r. TwinCause (Spare r) file spare table) (λ _. ⊤) does.ends
          (λ r is. ((main, stands told, legal), subst (λ (t : Table). StartCause r spare t) same_table (does.cause r spare_told is))) in
          IfErr-at_err (EndsBy IsOfSpare (λ r. TwinCause r file spare table)) given
          (subst (λ (e : End TwinRefusal). EndsBy IsOfSpare (λ r. TwinCause r file spare table) e) (sym is)
          (renamed_by Spare (turned_end end) IsOfSpare _ (turned_by end IsOfBench IsOfSpare _ turned_of_bench caused)));
      due = λ due told spare_told cause.
          subst (λ (e : End TwinRefusal). IsDueUnlessStopped due e) (sym is)
          (spare_due file spare table (none told) end due
          (λ d why. does.due d spare_told (subst (λ (t : Table). StartCause d spare t) (sym same_table) why))
          (λ history is_of are. does.opens history spare_told (subst (λ (s : Shape). StandsFor spare s history) (sym same_shape) is_of)
          (subst (λ (t : Table). IsLegal t history) (sym same_table) are)) cause);
      opens = λ m o whole told spare_told keep.
          subst (λ (e : End TwinRefusal). IsStop e) (sym is)
          (renamed_stopped Spare (turned_end end) (turned_stopped end
          (does.opens o spare_told (subst (λ (s : Shape). StandsFor spare s o) (sym same_shape) keep.spare_stands)
          (subst (λ (t : Table). IsLegal t o) (sym same_table) (spare_is_legal table file spare m o whole keep)))));
      main_moments = λ m o whole told spare_told quiet keep.
          while_read g.B.Bench bench started table.setting.shape m whole reads quiet keep.main_stands keep.main_front;
      spare_moments = λ m o whole told spare_told quiet keep.
          while_read g.S.Bench spare_at spare_opened table.setting.shape o whole spare_reads quiet keep.spare_stands keep.spare_front;
      no_memory = λ m o whole told spare_told keep refusal.
          read_between table file spare (g.B.Bench.file started) (g.S.Bench.file spare_opened) m o whole reads.file spare_reads.file keep;
      untouched = λ told spare_told quiet apart. reads.untouched quiet;
      spare_untouched = λ told spare_told quiet apart. spare_reads.untouched quiet;
      quiet = λ told quiet fine. still_quiet g.B.Bench bench started reads quiet;
      spare_quiet = λ told quiet fine. still_quiet g.S.Bench spare_at spare_opened spare_reads quiet;
      sent = reads.sent;
      spare_sent = spare_reads.sent;
      reads = λ refused. (reads, spare_reads);
      main_failed = λ refusal. spare_reads;
      spare_failed = λ refusal. reads;
      spare_second = λ told refusal. (main, stands told, legal);
      main_first = λ refusal given. absurd (IfErr-at_err (EndsBy IsOfSpare IsNotMain) given by);
      ticks = λ m o whole told spare_told keep. tt;
      spare_ticks = λ m o whole told spare_told keep. tt;
      fault =
          told_as g.B.Bench bench started _ _ (λ failed. no_refusal _ _ failed)
          (λ refusal. absurd (not_stopped_by answer IsOfSpare _ stop.Bench (λ no. no) by refusal)) opened.fault;
      spare_fault = turned_tells Spare end answer is g.S.Bench spare_at spare_opened stop.Bench does.fault;
      ends = EndsBy-weaker answer IsOfSpare IsOfBenches _ _ spare_of_benches (λ r is. tt) by;
    }

-- ---- one was to be brought up to the other

pub returns-in_err-catch_up : goal.returns-in_err-catch_up
returns-in_err-catch_up g c =
    let table = c.args.guarded in
    let bench = c.args.bench.now in
    let spare_at = c.args.spare.now in
    let file = g.B.Bench.file bench in
    let spare = g.S.Bench.file spare_at in
    let started = c.start.new.bench in
    let reads = c.start.ensures.reads in
    let store = c.in-Ok.store in
    let opened = c.in-Ok.ensures in
    let of_store = opened.store in
    let same_table : table_of store ≡ table = of_store.0 in
    let same_shape : store.secret.shape ≡ table.setting.shape = ap (λ (t : Table). t.setting.shape) same_table in
    let main = store.history in
    let legal : IsLegal table main = subst (λ (t : Table). IsLegal t main) same_table of_store.2.legal in
    let stands : g.B.Bench.told → StandsFor file table.setting.shape main = λ told.
    (store.journal.gate, subst (λ (s : Shape). StandsAt file s main store.journal.gate) same_shape (opened.stands told)) in
    let none : g.B.Bench.told → (d : JournalRefusal) → StartCause d file table → ⊥ = λ told d cause. opened.due d told cause in
    let spare_opened = c.open_other.new.spare in
    let spare_reads = c.open_other.ensures.reads in
    let found = c.in-Ok-open_other.found in
    let other = c.deref.result.now in
    let listed : found.1.items ≡ other = sym c.deref.ensures.value in
    let other_legal : IsLegal table other = subst (λ (t : Table). IsLegal t other) same_table
    (subst (λ (h : List Answered). IsLegal (table_of store) h) listed c.in-Ok-open_other.ensures.legal) in
    let spare_stands : g.S.Bench.told → StandsFor spare table.setting.shape other = λ told. (
      found.0.gate,
      subst (λ (s : Shape). StandsAt spare s other found.0.gate) same_shape
          (subst (λ (h : List Answered). StandsAt spare store.secret.shape h found.0.gate) listed (c.in-Ok-open_other.ensures.stands told)),
    ) in
    let spare_none : g.S.Bench.told → (d : JournalRefusal) → StartCause d spare table → ⊥ = λ told d cause.
    c.in-Ok-open_other.ensures.due d told (subst (λ (t : Table). StartCause d spare t) (sym same_table) cause) in
    let one = c.one_reading.ensures in
    let caught = c.catch_up.new.bench in
    let spare_caught = c.catch_up.new.spare in
    let given = c.in_err-catch_up.field-0.0 in
    let does = c.in_err-catch_up.ensures in
    let answer = c.from_residual.result in
    let refuses = c.from_residual.ensures in
    let same : answer ≡ Err given = is_refusal answer given refuses in
    let by = does.ends in
    let differ = λ (place : ℕ). λ (is : given ≡ Refused (Differ place)). does.differ place (ap unmet is) in
    record {
      store = IfOk-from_err _ _ refuses.0;
      stands = λ told. IfOk-from_err _ _ refuses.0;
      spare_stands = λ told. IfOk-from_err _ _ refuses.0;
      together = λ told spare_told. IfOk-from_err _ _ refuses.0;
      longer = λ m o whole told spare_told keep. IfOk-from_err _ _ refuses.0;
      cause = λ refusal told spare_told is.
          let end_is : given ≡ Refused refusal = end_of (sym same ∙ is) in
          refused_cause one table file spare main other (stands told) (spare_stands spare_told) legal other_legal refusal
          (subst (λ (e : End TwinRefusal). EndsBy IsOfBenches IsDiffer e) end_is by)
          (λ place at. differ place (end_is ∙ ap (λ (r : TwinRefusal). Refused r) at));
      due = λ due told spare_told cause.
          of_refusal answer given refuses (RefusedUnlessStopped due)
          (refused_due one table file spare main other (stands told) (spare_stands spare_told) legal other_legal given due by differ (none told)
          (spare_none spare_told) cause);
      opens = λ m o whole told spare_told keep.
          of_refusal answer given refuses DoneUnlessStopped
          (refused_opens one table file spare main other (stands told) (spare_stands spare_told) legal other_legal given by differ m o whole keep);
      main_moments = λ m o whole told spare_told quiet keep.
          main_catches one table file spare main other (stands told) (spare_stands spare_told) legal other_legal g.B.Bench bench started caught refl reads quiet
          (λ w still meet. subst (λ (s : Shape). LeavesOnly g.B.Bench started caught (CatchesUp s main w (g.B.Bench.sent started))) same_shape
          (c.catch_up.ensures.moments w told still meet)) m o whole keep;
      spare_moments = λ m o whole told spare_told quiet keep.
          spare_catches one table file spare main other (stands told)
          (spare_stands spare_told) legal other_legal g.S.Bench spare_at spare_opened spare_caught refl spare_reads quiet
          (λ w still meet. subst (λ (s : Shape). LeavesOnly g.S.Bench spare_opened spare_caught (CatchesUp s other w (g.S.Bench.sent spare_opened))) same_shape
          (c.catch_up.ensures.spare_moments w spare_told still meet)) m o whole keep;
      no_memory = λ m o whole told spare_told keep refusal.
          let memory = same_fault given (Stopped stop.NoMemory) (sym same ∙ refusal) in
          left_between one table file spare main other (stands told) (spare_stands spare_told) legal other_legal (g.B.Bench.file caught)
          (g.S.Bench.file spare_caught)
          (λ w meet. subst (λ (s : Shape). StandsBetween s main w (g.B.Bench.file caught)) same_shape (does.no_memory w told meet memory))
          (λ w meet. subst (λ (s : Shape). StandsBetween s other w (g.S.Bench.file spare_caught)) same_shape
          (does.spare_no_memory w spare_told meet memory)) m o whole keep;
      untouched = λ told spare_told quiet apart.
          subst (λ b. LeavesOnly g.B.Bench bench b (IsUntouched file (g.B.Bench.sent bench)))
          (sym (c.catch_up.ensures.apart
          (apart_never_meet one table file spare main other (stands told) (spare_stands spare_told) legal other_legal apart)).0) (reads.untouched quiet);
      spare_untouched = λ told spare_told quiet apart.
          subst (λ b. LeavesOnly g.S.Bench spare_at b (IsUntouched spare (g.S.Bench.sent spare_at)))
          (sym (c.catch_up.ensures.apart
          (apart_never_meet one table file spare main other (stands told) (spare_stands spare_told) legal other_legal apart)).1)
          (spare_reads.untouched quiet);
      quiet = λ told quiet fine.
          does.quiet told (still_quiet g.B.Bench bench started reads quiet)
          (λ failed. fine (same ∙ same_fault given (Stopped stop.Bench) failed));
      spare_quiet = λ told quiet fine.
          does.spare_quiet told (still_quiet g.S.Bench spare_at spare_opened spare_reads quiet)
          (λ failed. fine (same ∙ same_fault given (Stopped stop.Spare) failed));
      sent = c.catch_up.ensures.sent ∙ reads.sent;
      spare_sent = c.catch_up.ensures.spare_sent ∙ spare_reads.sent;
      reads = λ refused.
          only_read given (OnlyReads g.B.Bench bench caught × OnlyReads g.S.Bench spare_at spare_caught) by (rw same at refused)
          (λ place is. let left = does.reads place (ap unmet is) in (
            subst (λ b. OnlyReads g.B.Bench bench b) (sym left.0) reads,
            subst (λ b. OnlyReads g.S.Bench spare_at b) (sym left.1) spare_reads,
          ));
      main_failed = λ refusal.
          subst (λ b. OnlyReads g.S.Bench spare_at b) (sym (does.main_failed (same_fault given (Stopped stop.Bench) (sym same ∙ refusal)))) spare_reads;
      spare_failed = λ refusal.
          subst (λ b. OnlyReads g.B.Bench bench b) (sym (does.spare_failed (same_fault given (Stopped stop.Spare) (sym same ∙ refusal)))) reads;
      spare_second = λ told refusal. (main, stands told, legal);
      main_first = λ refusal is. absurd (IfErr-at_err (EndsBy IsOfBenches IsDiffer) (sym same ∙ is) by);
      ticks = λ m o whole told spare_told keep. IfOk-from_err _ _ refuses.0;
      spare_ticks = λ m o whole told spare_told keep. IfOk-from_err _ _ refuses.0;
      fault =
          then_tells g.B.Bench bench started caught ⊥ _
          (told_as g.B.Bench bench started _ ⊥ (λ failed. no_refusal _ _ failed) (λ none. absurd none) opened.fault) (λ none. none)
          (told_as g.B.Bench started caught _ _ (λ is. same ∙ same_fault given (Stopped stop.Bench) is)
          (λ is. same_fault given (Stopped stop.Bench) (sym same ∙ is)) does.fault);
      spare_fault =
          then_tells g.S.Bench spare_at spare_opened spare_caught ⊥ _
          (told_as g.S.Bench spare_at spare_opened _ ⊥ (λ failed. no_refusal _ _ failed) (λ none. absurd none) c.in-Ok-open_other.ensures.fault)
          (λ none. none)
          (told_as g.S.Bench spare_opened spare_caught _ _ (λ is. same ∙ same_fault given (Stopped stop.Spare) is)
          (λ is. same_fault given (Stopped stop.Spare) (sym same ∙ is)) does.spare_fault);
      ends = of_refusal answer given refuses (λ r. IfErr r (EndsBy IsOfBenches (λ _. ⊤)))
          (EndsBy-weaker given IsOfBenches IsOfBenches _ _ (λ stop is. is) (λ r is. tt) by);
    }

-- ---- it was

pub returns : goal.returns
returns g c =
    let table = c.args.guarded in
    let bench = c.args.bench.now in
    let spare_at = c.args.spare.now in
    let file = g.B.Bench.file bench in
    let spare = g.S.Bench.file spare_at in
    let started = c.start.new.bench in
    let reads = c.start.ensures.reads in
    let store = c.in-Ok.store in
    let opened = c.in-Ok.ensures in
    let of_store = opened.store in
    let same_table : table_of store ≡ table = of_store.0 in
    let same_shape : store.secret.shape ≡ table.setting.shape = ap (λ (t : Table). t.setting.shape) same_table in
    let main = store.history in
    let legal : IsLegal table main = subst (λ (t : Table). IsLegal t main) same_table of_store.2.legal in
    let stands : g.B.Bench.told → StandsFor file table.setting.shape main = λ told.
    (store.journal.gate, subst (λ (s : Shape). StandsAt file s main store.journal.gate) same_shape (opened.stands told)) in
    let none : g.B.Bench.told → (d : JournalRefusal) → StartCause d file table → ⊥ = λ told d cause. opened.due d told cause in
    let spare_opened = c.open_other.new.spare in
    let spare_reads = c.open_other.ensures.reads in
    let found = c.in-Ok-open_other.found in
    let other = c.deref.result.now in
    let listed : found.1.items ≡ other = sym c.deref.ensures.value in
    let other_legal : IsLegal table other = subst (λ (t : Table). IsLegal t other) same_table
    (subst (λ (h : List Answered). IsLegal (table_of store) h) listed c.in-Ok-open_other.ensures.legal) in
    let spare_stands : g.S.Bench.told → StandsFor spare table.setting.shape other = λ told. (
      found.0.gate,
      subst (λ (s : Shape). StandsAt spare s other found.0.gate) same_shape
          (subst (λ (h : List Answered). StandsAt spare store.secret.shape h found.0.gate) listed (c.in-Ok-open_other.ensures.stands told)),
    ) in
    let spare_none : g.S.Bench.told → (d : JournalRefusal) → StartCause d spare table → ⊥ = λ told d cause.
    c.in-Ok-open_other.ensures.due d told (subst (λ (t : Table). StartCause d spare t) (sym same_table) cause) in
    let one = c.one_reading.ensures in
    let caught = c.catch_up.new.bench in
    let spare_caught = c.catch_up.new.spare in
    let does = c.in_ok-catch_up.ensures in
    let now = c.catch_up.new.store.history in
    let usable = does.usable in
    record {
      store = (
        ap (λ (s : SecretView). secret_table s c.catch_up.new.store.protected) c.catch_up.ensures.table.0
            ∙ ap (λ (p : Protection). secret_table store.secret p) c.catch_up.ensures.table.1 ∙ same_table,
        usable.0,
        c.catch_up.ensures.is,
        record { spare_usable = λ is. usable.1.usable; same_shape = λ is. usable.1.same_shape; counted = λ is. usable.1.counted },
      );
      stands = λ told. does.stands told;
      spare_stands = λ told. does.spare_stands told;
      together = λ told spare_told.
          caught_together one table file spare main other (stands told) (spare_stands spare_told) legal other_legal now does.meet;
      longer = λ m o whole told spare_told keep.
          caught_longer one table file spare main other (stands told) (spare_stands spare_told) legal other_legal now does.meet m o whole keep;
      cause = λ refusal told spare_told given. let none : ⊥ = cc in absurd none;
      due = λ due told spare_told cause.
          caught_due one table file spare main other (stands told) (spare_stands spare_told) legal other_legal now does.meet (none told)
          (spare_none spare_told) due cause;
      opens = λ m o whole told spare_told keep. tt;
      main_moments = λ m o whole told spare_told quiet keep.
          main_catches one table file spare main other (stands told) (spare_stands spare_told) legal other_legal g.B.Bench bench started caught refl reads quiet
          (λ w still meet. subst (λ (s : Shape). LeavesOnly g.B.Bench started caught (CatchesUp s main w (g.B.Bench.sent started))) same_shape
          (c.catch_up.ensures.moments w told still meet)) m o whole keep;
      spare_moments = λ m o whole told spare_told quiet keep.
          spare_catches one table file spare main other (stands told)
          (spare_stands spare_told) legal other_legal g.S.Bench spare_at spare_opened spare_caught refl spare_reads quiet
          (λ w still meet. subst (λ (s : Shape). LeavesOnly g.S.Bench spare_opened spare_caught (CatchesUp s other w (g.S.Bench.sent spare_opened))) same_shape
          (c.catch_up.ensures.spare_moments w spare_told still meet)) m o whole keep;
      no_memory = λ m o whole told spare_told keep refusal. no_refusal _ _ refusal;
      untouched = λ told spare_told quiet apart.
          subst (λ b. LeavesOnly g.B.Bench bench b (IsUntouched file (g.B.Bench.sent bench)))
          (sym (c.catch_up.ensures.apart
          (apart_never_meet one table file spare main other (stands told) (spare_stands spare_told) legal other_legal apart)).0) (reads.untouched quiet);
      spare_untouched = λ told spare_told quiet apart.
          subst (λ b. LeavesOnly g.S.Bench spare_at b (IsUntouched spare (g.S.Bench.sent spare_at)))
          (sym (c.catch_up.ensures.apart
          (apart_never_meet one table file spare main other (stands told) (spare_stands spare_told) legal other_legal apart)).1)
          (spare_reads.untouched quiet);
      quiet = λ told quiet fine. does.quiet told (still_quiet g.B.Bench bench started reads quiet) (λ is. no_refusal _ _ is);
      spare_quiet = λ told quiet fine. does.spare_quiet told (still_quiet g.S.Bench spare_at spare_opened spare_reads quiet) (λ is. no_refusal _ _ is);
      sent = c.catch_up.ensures.sent ∙ reads.sent;
      spare_sent = c.catch_up.ensures.spare_sent ∙ spare_reads.sent;
      reads = λ refused. absurd refused;
      main_failed = λ refusal. no_refusal _ _ refusal;
      spare_failed = λ refusal. no_refusal _ _ refusal;
      spare_second = λ told refusal. no_refusal _ _ refusal;
      main_first = λ refusal given. let none : ⊥ = cc in absurd none;
      ticks = λ m o whole told spare_told keep.
          main_calls one table file spare main other (stands told) (spare_stands spare_told) legal other_legal now does.meet (g.B.Bench.moment bench)
          (g.B.Bench.moment started) (g.B.Bench.moment caught) (opened.ticks told)
          (does.ticks told) m o whole keep;
      spare_ticks = λ m o whole told spare_told keep.
          spare_calls one table file spare main other (stands told) (spare_stands spare_told) legal other_legal now does.meet (g.S.Bench.moment spare_at)
          (g.S.Bench.moment spare_opened) (g.S.Bench.moment spare_caught)
          (c.in-Ok-open_other.ensures.ticks spare_told) (does.spare_ticks spare_told) m o whole keep;
      fault =
          then_tells g.B.Bench bench started caught ⊥ _
          (told_as g.B.Bench bench started _ ⊥ (λ failed. no_refusal _ _ failed) (λ none. absurd none) opened.fault) (λ none. none)
          (told_as g.B.Bench started caught _ _ (λ is. no_refusal _ _ is) (λ is. no_refusal _ _ is) does.fault);
      spare_fault =
          then_tells g.S.Bench spare_at spare_opened spare_caught ⊥ _
          (told_as g.S.Bench spare_at spare_opened _ ⊥ (λ failed. no_refusal _ _ failed) (λ none. absurd none) c.in-Ok-open_other.ensures.fault)
          (λ none. none)
          (told_as g.S.Bench spare_opened spare_caught _ _ (λ is. no_refusal _ _ is) (λ is. no_refusal _ _ is) does.spare_fault);
      ends = tt;
    }
