use Rattle.std.proofs.Common.{◌≡◌, List, All, Result, refl, sym, ap, subst, ◌∙◌}
use Rattle.std.specs.Prelude.{⊤, Err, IsErrOf}
use Rattle.std.proofs.lemmas.Result.{IfErr-at_err}
use Rattle.audit_types.specs.declared.records.Answered.{Answered}
use Rattle.audit_types.specs.declared.shapes.Shape.{Shape}
use Rattle.audit_types.specs.History.{FitsShape, IsLegal, Table}
use Rattle.bench_core.specs.Calls.{IsQuiet}
use Rattle.bench_core.specs.Moments.{still_quiet}
use Rattle.bench_core.specs.Reports.{not_called, not_written, told_as}
use Rattle.journal_form.specs.Journal.{StandsAt, StandsFor}
use Rattle.answer_journal.specs.Whole.{HoldsWhole}
use Rattle.bench_core.specs.Ends.{EndsBy, IsDueUnlessStopped, IsRefusal, IsStop, refused_as, turned_end}
use Rattle.bench_core.specs.EndLaws.{EndsBy-weaker, by_cause, each_way, not_stopped_by, renamed_by, renamed_due, renamed_stopped, renamed_tells}
use Rattle.bench_core.specs.EndLaws.{stopped_unless_refused, turned_back, turned_by, turned_on, turned_stopped, turned_tells}
use Rattle.bench_core.specs.Stops.{IsOfBench, IsOfBenches, IsOfSpare, of_benches, spare_of_benches, turned_of_bench}
use Rattle.bench_core.specs.declared.stops.End.{End}
use Rattle.bench_core.specs.declared.stops.End.TheVariants.{Stopped, Refused}
use Rattle.bench_core.specs.declared.stops.Stop.TheVariants as stop
use Rattle.answer_journal.specs.declared.refusals.AlreadyThere.{AlreadyThere}
use Rattle.audit_core.specs.LegalFronts.{legal_fits}
use Rattle.audit_store.specs.Refusals.{no_refusal}
use Rattle.audit_store.specs.Stores.{table_of}
use Rattle.twin_journal.specs.declared.restoring.RestoreRefusal.{RestoreRefusal}
use Rattle.twin_journal.specs.declared.restoring.RestoreRefusal.TheVariants.{NothingLost, Main}
use Rattle.twin_journal.proofs.Copies.{IsOfKept, IsOfLost, KeptCause, kept_for_one, kept_of_copy, lost_of_copy, read_lost, wholes_of}
use Rattle.twin_journal.proofs.copying.copy_journal.Goals as goal

pub write_whole-requires-clause-fit : goal.write_whole-requires-clause-fit
write_whole-requires-clause-fit g c =
    let store = c.in-Ok.store in
    let shape : c.shape-shape.result ≡ store.secret.shape = c.shape-shape.ensures.shape in
    subst (λ (s : Shape). All (λ (r : Answered). FitsShape s r.column r.rows) c.history.result.now) (sym shape)
    (subst (λ (h : List Answered). All (λ (r : Answered). FitsShape store.secret.shape r.column r.rows) h) (sym c.history.ensures.history)
    (legal_fits (table_of store) store.history c.history.ensures.is.legal))

abbrev err : End RestoreRefusal → Result (Unit {0}) (End RestoreRefusal)
err end = Err end

-- ---- the kept one wasn't opened

pub returns-in-Err : goal.returns-in-Err
returns-in-Err g c =
    let table = c.args.guarded in
    let file = g.K.Bench.file c.args.kept.now in
    let lost = c.args.lost.now in
    let end = c.in-Err.end in
    let does = c.in-Err.ensures in
    let answer = c.of_kept.result in
    let is : answer ≡ refused_as Main end = c.of_kept.ensures in
    let by : EndsBy IsOfBench IsOfKept answer = subst (λ (e : End RestoreRefusal). EndsBy IsOfBench IsOfKept e) (sym is)
    (renamed_by Main end IsOfBench IsOfKept does.ends) in
    let unwritten = not_written g.L.Bench lost (g.met.L.Bench.only_now lost) in
    record {
      done = λ told lost_told. tt;
      reads = c.start.ensures.reads;
      cause = λ refusal told given.
          let caused = by_cause end IsOfBench (λ r. KeptCause file table (Main r)) (λ _. ⊤) does.ends (λ r here. does.cause r told here) in
          IfErr-at_err (EndsBy IsOfBench (KeptCause file table)) given
          (subst (λ (e : End RestoreRefusal). EndsBy IsOfBench (KeptCause file table) e) (sym is) (renamed_by Main end IsOfBench _ caused));
      due = λ refusal told lost_told cause.
          subst (λ (e : End RestoreRefusal). IsDueUnlessStopped (Main refusal) e) (sym is) (renamed_due Main end refusal (does.due refusal told cause));
      copies = λ history told lost_told kept.
          subst (λ (e : End RestoreRefusal). IsStop e) (sym is) (renamed_stopped Main end (does.opens history told kept.stands kept.legal));
      already = λ told given. IfErr-at_err (EndsBy IsOfBench IsOfKept) given by;
      moments = λ history told lost_told quiet kept.
          read_lost g.L.Bench lost lost table.setting.shape history unwritten quiet (c.requires.lost lost_told);
      apart = λ told none. refl;
      refused = λ refusal given. refl;
      already_reads = λ given. unwritten;
      no_memory = λ given. refl;
      quiet = λ told quiet fine. quiet;
      sent = refl;
      kept_ticks = λ told. tt;
      ticks = λ told. tt;
      kept_fault = renamed_tells g.K.Bench c.args.kept.now c.start.new.bench Main end stop.Bench (err answer) (ap err is) does.fault;
      fault = not_called g.L.Bench lost _ (λ given. not_stopped_by answer IsOfBench _ stop.Spare (λ no. no) by given);
      ends = EndsBy-weaker answer IsOfBench IsOfBenches _ _ of_benches kept_of_copy by;
    }

-- ---- it was, and the lost one was written

pub returns-in-Ok-write_whole : goal.returns-in-Ok-write_whole
returns-in-Ok-write_whole g c =
    let table = c.args.guarded in
    let file = g.K.Bench.file c.args.kept.now in
    let lost = c.args.lost.now in
    let new = c.write_whole.new.bench in
    let store = c.in-Ok.store in
    let opened = c.in-Ok.ensures in
    let is = opened.store in
    let same : store.secret.shape ≡ table.setting.shape = ap (λ (t : Table). t.setting.shape) is.0 in
    let shape : c.shape-shape.result ≡ table.setting.shape = c.shape-shape.ensures.shape ∙ same in
    let stands : g.K.Bench.told → StandsFor file table.setting.shape store.history = λ told.
    (store.journal.gate, subst (λ (s : Shape). StandsAt file s store.history store.journal.gate) same (opened.stands told)) in
    let same_table : table_of store ≡ table = is.0 in
    let legal : IsLegal table store.history = subst (λ (t : Table). IsLegal t store.history) same_table is.2.legal in
    record {
      done = λ told lost_told.
          let written = c.in-Ok-write_whole.ensures in
          let found = g.L.Bench.file new in
          let named = c.history.ensures.history in (
            store.history,
            record { stands = stands told; legal = legal },
            subst (λ (s : Shape). StandsFor found s store.history) shape
                (subst (λ (h : List Answered). StandsFor found c.shape-shape.result h) named (written.done lost_told)),
            subst (λ (s : Shape). HoldsWhole s store.history (g.L.Bench.file lost) found) shape
                (subst (λ (h : List Answered). HoldsWhole c.shape-shape.result h (g.L.Bench.file lost) found) named (written.written lost_told)),
          );
      reads = c.start.ensures.reads;
      cause = λ refusal told answered. let none : ⊥ = cc in absurd none;
      due = λ refusal told lost_told cause. absurd (opened.due refusal told cause);
      copies = λ history told lost_told kept. tt;
      already = λ told answered. no_refusal _ _ answered;
      moments = λ history told lost_told quiet kept.
          let list = c.history.ensures.history ∙ sym (kept_for_one c.one_reading.ensures table file history store.history kept (stands told)) in
          wholes_of g.L.Bench lost new _ table.setting.shape _ history shape list
          (c.write_whole.ensures.any_moment lost_told (c.requires.lost lost_told) quiet);
      apart = λ told none. absurd (none store.history (record { stands = stands told; legal = legal }));
      refused = λ refusal answered. let none : ⊥ = cc in absurd none;
      already_reads = λ answered. no_refusal _ _ answered;
      no_memory = λ answered. no_refusal _ _ answered;
      quiet = λ told quiet fine. c.in-Ok-write_whole.ensures.quiet told;
      sent = c.write_whole.ensures.sent;
      kept_ticks = λ told. opened.ticks told;
      ticks = λ told. c.in-Ok-write_whole.ensures.ticks told;
      kept_fault = told_as g.K.Bench c.args.kept.now c.start.new.bench _ _ (λ failed. no_refusal _ _ failed) (λ answered. no_refusal _ _ answered) opened.fault;
      fault = told_as g.L.Bench lost new _ _ (λ failed. no_refusal _ _ failed) (λ answered. no_refusal _ _ answered) c.in-Ok-write_whole.ensures.fault;
      ends = tt;
    }

-- ---- it wasn't

-- it was found to be made
lost_is_made : {X : Type 0} (end : End AlreadyThere) (answer : End RestoreRefusal) → answer ≡ refused_as (λ _. NothingLost) (turned_end end) →
    IsErrOf {T = X} (Err answer) (Refused NothingLost) → IsRefusal end
lost_is_made (Stopped stop) answer is given = let none : ⊥ = cc in none
lost_is_made (Refused there) answer is given = tt

pub returns : goal.returns
returns g c =
    let table = c.args.guarded in
    let file = g.K.Bench.file c.args.kept.now in
    let lost = c.args.lost.now in
    let new = c.write_whole.new.bench in
    let store = c.in-Ok.store in
    let opened = c.in-Ok.ensures in
    let is = opened.store in
    let same : store.secret.shape ≡ table.setting.shape = ap (λ (t : Table). t.setting.shape) is.0 in
    let shape : c.shape-shape.result ≡ table.setting.shape = c.shape-shape.ensures.shape ∙ same in
    let stands : g.K.Bench.told → StandsFor file table.setting.shape store.history = λ told.
    (store.journal.gate, subst (λ (s : Shape). StandsAt file s store.history store.journal.gate) same (opened.stands told)) in
    let same_table : table_of store ≡ table = is.0 in
    let legal : IsLegal table store.history = subst (λ (t : Table). IsLegal t store.history) same_table is.2.legal in
    let end = c.in-Err-write_whole.end in
    let does = c.in-Err-write_whole.ensures in
    let answer = c.of_lost.result in
    let turns : answer ≡ refused_as (λ _. NothingLost) (turned_end end) = c.of_lost.ensures in
    let by : EndsBy IsOfSpare IsOfLost answer = subst (λ (e : End RestoreRefusal). EndsBy IsOfSpare IsOfLost e) (sym turns)
    (renamed_by (λ _. NothingLost) (turned_end end) IsOfSpare IsOfLost (turned_by end IsOfBench IsOfSpare (λ _. ⊤) turned_of_bench does.ends)) in
    record {
      done = λ told lost_told. tt;
      reads = c.start.ensures.reads;
      cause = λ refusal told given. absurd (IfErr-at_err (EndsBy IsOfSpare IsOfLost) given by);
      due = λ refusal told lost_told cause. absurd (opened.due refusal told cause);
      copies = λ history told lost_told kept.
          subst (λ (e : End RestoreRefusal). IsStop e) (sym turns)
          (renamed_stopped (λ _. NothingLost) (turned_end end) (turned_stopped end
          (stopped_unless_refused end (λ there. c.requires.lost lost_told (does.already lost_told there)))));
      already = λ told given. c.requires.lost told (does.already told (lost_is_made end answer turns given));
      moments = λ history told lost_told quiet kept.
          let list = c.history.ensures.history ∙ sym (kept_for_one c.one_reading.ensures table file history store.history kept (stands told)) in
          wholes_of g.L.Bench lost new _ table.setting.shape _ history shape list
          (c.write_whole.ensures.any_moment lost_told (c.requires.lost lost_told) quiet);
      apart = λ told none. absurd (none store.history (record { stands = stands told; legal = legal }));
      refused = λ refusal given. absurd (IfErr-at_err (EndsBy IsOfSpare IsOfLost) given by);
      already_reads = λ given. does.reads (lost_is_made end answer turns given);
      no_memory = λ given. does.no_memory (turned_back (λ _. NothingLost) end answer turns stop.NoMemory given);
      quiet = λ told quiet fine.
          each_way end (IsQuiet g.L.Bench new) does.ends (λ there. still_quiet g.L.Bench lost new (does.reads there) quiet)
          (λ memory. subst (λ b. IsQuiet g.L.Bench b) (sym (does.no_memory memory)) quiet)
          (λ failed. absurd (fine (turned_on (λ _. NothingLost) end answer turns stop.Bench failed)));
      sent = c.write_whole.ensures.sent;
      kept_ticks = λ told. tt;
      ticks = λ told. tt;
      kept_fault =
          told_as g.K.Bench c.args.kept.now c.start.new.bench _ _ (λ failed. no_refusal _ _ failed)
          (λ given. absurd (not_stopped_by answer IsOfSpare _ stop.Bench (λ no. no) by given)) opened.fault;
      fault = turned_tells (λ _. NothingLost) end answer turns g.L.Bench lost new stop.Bench does.fault;
      ends = EndsBy-weaker answer IsOfSpare IsOfBenches _ _ spare_of_benches lost_of_copy by;
    }
