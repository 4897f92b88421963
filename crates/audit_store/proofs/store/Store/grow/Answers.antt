use Rattle.std.proofs.Common.{◌≡◌, ℕ, inl, List, Result, Err, refl, sym, ap, subst, ◌∙◌, arith}
use Rattle.std.specs.Prelude.{⊤, IfErr, IsErrOf}
use Rattle.std.proofs.lemmas.Result.{IfErr-at_err}
use Rattle.bench_core.specs.declared.bench.Bench.{Ghosts}
use Rattle.bench_core.specs.Calls.{LeavesOnly, IsUntouched}
use Rattle.bench_core.specs.Moments.{joins, weakens, still_quiet, then_tells}
use Rattle.audit_types.specs.declared.shapes.Shape.{Shape}
use Rattle.audit_types.specs.declared.records.Answered.{Answered}
use Rattle.audit_types.specs.Widening.{over, widened}
use Rattle.journal_form.specs.Journal.{StandsAt, StandsFor}
use Rattle.answer_journal.specs.Moments.{IsBeforeOrGrown}
use Rattle.bench_core.specs.Ends.{DoneUnlessStopped, EndsBy, IsDueUnlessStopped, IsStop, RefusedUnlessStopped, refused_as}
use Rattle.bench_core.specs.EndLaws.{EndsBy-weaker, by_cause, due_of_one, not_stopped_by, renamed_by, renamed_stopped, renamed_tells, stopped_of_none}
use Rattle.bench_core.specs.Stops.{IsOfBench, IsOfMemory, of_bench}
use Rattle.bench_core.specs.declared.stops.End.{End}
use Rattle.bench_core.specs.declared.stops.End.TheVariants.{Stopped}
use Rattle.bench_core.specs.declared.stops.Stop.TheVariants.{Bench}
use Rattle.answer_journal.specs.Refusals.{IsOfReading}
use Rattle.audit_store.specs.declared.growing.GrowRefusal.{GrowRefusal}
use Rattle.audit_store.specs.declared.growing.GrowRefusal.TheVariants.{Journal}
use Rattle.audit_store.specs.Growing.{GrowCause, GrowHistoryCause, GrowsFrom}
use Rattle.audit_store.specs.Refusals.{no_refusal}
use Rattle.bench_core.specs.Reports.{is_refusal, told_as}
use Rattle.audit_store.proofs.GrowCauses.{grow_cause_of_reading, grow_due_of_reading, grow_cause_in_file, grow_due_of_history, one_grow_cause, grows_has_no_cause, grows_from, can_grow}
use Rattle.audit_store.proofs.StoreFaults.{no_answer, on_refusal}
use Rattle.audit_store.proofs.store.Store.grow.Goals as goal

module _ {D : Type 0} (bench : Ghosts D) (old : D) (other : Shape) (history : List Answered) (more : ℕ)
    (stands : StandsFor (bench.file old) other history) where
  -- the journal was read, and its history stands as before
  read_alone : (mid : D) → LeavesOnly bench old mid (IsUntouched (bench.file old) (bench.sent old)) →
      LeavesOnly bench old mid (IsBeforeOrGrown other history more (bench.sent old))
  read_alone mid reading =
      weakens bench old mid (IsUntouched (bench.file old) (bench.sent old)) (IsBeforeOrGrown other history more (bench.sent old))
      (λ image sent is. (is.0, inl (stands.0, subst (λ (f : List ℕ). StandsAt f other history stands.0) (sym is.1) stands.1))) reading

  -- and then the growth was appended
  in_two_steps : (mid new : D) (shape : Shape) (list : List Answered) (rows : ℕ) → shape ≡ other → list ≡ history → rows ≡ more → bench.sent mid
      ≡ bench.sent old
      → LeavesOnly bench old mid (IsUntouched (bench.file old) (bench.sent old)) → LeavesOnly bench mid new (IsBeforeOrGrown shape list rows (bench.sent mid))
      → LeavesOnly bench old new (IsBeforeOrGrown other history more (bench.sent old))
  in_two_steps mid new shape list rows same_shape same_list same_rows same_sent reading growing =
      joins bench old mid new (IsBeforeOrGrown other history more (bench.sent old)) (read_alone mid reading)
      (subst (λ (b : List ℕ). LeavesOnly bench mid new (IsBeforeOrGrown other history more b)) same_sent
      (subst (λ (k : ℕ). LeavesOnly bench mid new (IsBeforeOrGrown other history k (bench.sent mid))) same_rows
      (subst (λ (h : List Answered). LeavesOnly bench mid new (IsBeforeOrGrown other h rows (bench.sent mid))) same_list
      (subst (λ (s : Shape). LeavesOnly bench mid new (IsBeforeOrGrown s list rows (bench.sent mid))) same_shape growing))))

abbrev err : End GrowRefusal → Result (Unit {0}) (End GrowRefusal)
err end = Err end

-- ---- the journal was not read

pub returns-in-Err : goal.returns-in-Err
returns-in-Err g c =
    let bench = g.B.Bench in
    let old = c.args.bench.now in
    let mid = c.read_back.new.bench in
    let file = bench.file old in
    let table = c.args.guarded in
    let reads = c.read_back.ensures.reads in
    let end = c.in-Err.end in
    let is_as : c.of_journal.result ≡ refused_as Journal end = c.of_journal.ensures in
    record {
      cause = λ refusal told is.
          let read = by_cause end IsOfBench (λ r. GrowCause (Journal r) file table) IsOfReading c.in-Err.ensures.ends
          (λ r given. grow_cause_of_reading file table r (c.in-Err.ensures.cause r told given)) in
          IfErr-at_err (EndsBy IsOfBench (λ r. GrowCause r file table)) is
          (subst (λ (e : End GrowRefusal). EndsBy IsOfBench (λ r. GrowCause r file table) e) (sym is_as) (renamed_by Journal end IsOfBench _ read));
      due = λ refusal told cause.
          subst (λ (e : End GrowRefusal). IsDueUnlessStopped refusal e) (sym is_as)
          (grow_due_of_reading file table end refusal (λ r. c.in-Err.ensures.due r told) (λ shape history gate. c.in-Err.ensures.whole shape history gate told)
          cause);
      grows = λ told can.
          subst (λ (e : End GrowRefusal). IsStop e) (sym is_as)
          (renamed_stopped Journal end (c.in-Err.ensures.whole (over can.rows table.setting.shape) can.history can.stands.0 told can.stands.1));
      done = λ told. tt;
      any_moment = λ told quiet grown.
          read_alone bench old (over grown.rows table.setting.shape) grown.history table.setting.shape.rows grown.stands mid (reads.untouched quiet);
      untouched = λ told quiet no. reads.untouched quiet;
      kept = λ other. reads.file;
      quiet = λ told quiet other. still_quiet bench old mid reads quiet;
      sent = reads.sent;
      ticks = λ told. tt;
      fault = renamed_tells bench old mid Journal end Bench _ (ap err is_as) c.in-Err.ensures.fault;
      ends =
          subst (λ (e : End GrowRefusal). EndsBy IsOfBench (λ _. ⊤) e) (sym is_as)
          (renamed_by Journal end IsOfBench _ (EndsBy-weaker end IsOfBench IsOfBench _ _ (λ stop is. is) (λ refusal is. tt) c.in-Err.ensures.ends));
    }

-- ---- its history doesn't go on over all rows

pub returns-in_err-may_grow-in-Ok : goal.returns-in_err-may_grow-in-Ok
returns-in_err-may_grow-in-Ok g c =
    let bench = g.B.Bench in
    let old = c.args.bench.now in
    let mid = c.read_back.new.bench in
    let file = bench.file old in
    let table = c.args.guarded in
    let journal = c.in-Ok.journal in
    let list = c.in-Ok.list.items in
    let reads = c.read_back.ensures.reads in
    let e = c.in_err-may_grow-in-Ok.field-0.0 in
    let answer = c.from_residual.result in
    let same : answer ≡ Err e = is_refusal answer e c.from_residual.ensures in
    let here = subst (λ (s : Shape). EndsBy IsOfMemory (λ r. GrowHistoryCause r s list table) e) c.shape-kept.ensures.shape
    (subst (λ (l : List Answered). EndsBy IsOfMemory (λ r. GrowHistoryCause r c.shape-kept.result l table) e) c.deref_mut.ensures.value
    c.in_err-may_grow-in-Ok.ensures.err) in
    record {
      cause = λ refusal told is.
          let given = IfErr-at_err (EndsBy IsOfMemory (λ r. GrowHistoryCause r journal.shape list table)) (sym same ∙ is) here in
          grow_cause_in_file file journal.shape list journal.gate table refusal (c.in-Ok.ensures.stands told) given;
      due = λ refusal told cause.
          let due = grow_due_of_history file table journal.shape list
          (λ other others gate stands. let is = c.in-Ok.ensures.whole other others gate told stands in (is.0, is.1))
          refusal (λ r. c.in-Ok.ensures.due r told) cause in
          subst (λ (r : Result (Unit {0}) (End GrowRefusal)). RefusedUnlessStopped refusal r) (sym same)
          (due_of_one e IsOfMemory _ refusal (λ r. one_grow_cause journal.shape list table refusal r due) here);
      grows = λ told can.
          let from = grows_from file table journal.shape list
          (λ other others gate stands. let is = c.in-Ok.ensures.whole other others gate told stands in (is.0, is.1)) can in
          subst (λ (r : Result (Unit {0}) (End GrowRefusal)). DoneUnlessStopped r) (sym same)
          (stopped_of_none e IsOfMemory _ (λ r. grows_has_no_cause journal.shape list table r from) here);
      done = λ told. no_answer answer e same _;
      any_moment = λ told quiet grown.
          read_alone bench old (over grown.rows table.setting.shape) grown.history table.setting.shape.rows grown.stands mid (reads.untouched quiet);
      untouched = λ told quiet no. reads.untouched quiet;
      kept = on_refusal answer e same _ (λ other. reads.file);
      quiet = λ told quiet other. still_quiet bench old mid reads quiet;
      sent = reads.sent;
      ticks = λ told. no_answer answer e same _;
      fault = told_as bench old mid _ _ (λ is. no_refusal _ _ is)
          (λ is. absurd (not_stopped_by e IsOfMemory _ Bench (λ no. no) here
          (subst (λ (r : Result (Unit {0}) (End GrowRefusal)). IsErrOf r (Stopped Bench)) same is))) c.in-Ok.ensures.fault;
      ends = subst (λ (r : Result (Unit {0}) (End GrowRefusal)). IfErr r (EndsBy IsOfBench (λ _. ⊤))) (sym same)
          (EndsBy-weaker e IsOfMemory IsOfBench _ _ of_bench (λ r is. tt) here);
    }

-- ---- the growth was not appended

pub returns-in_err-append_growth-in-Ok : goal.returns-in_err-append_growth-in-Ok
returns-in_err-append_growth-in-Ok g c =
    let bench = g.B.Bench in
    let old = c.args.bench.now in
    let mid = c.read_back.new.bench in
    let new = c.append_growth.new.bench in
    let file = bench.file old in
    let table = c.args.guarded in
    let journal = c.in-Ok.journal in
    let list = c.in-Ok.list.items in
    let reads = c.read_back.ensures.reads in
    let rows = c.shape-rows.result.rows in
    let answer = c.from_residual-in_err-append_growth-in-Ok.result in
    let same : answer ≡ Err (Stopped Bench) = is_refusal answer (Stopped Bench) c.from_residual-in_err-append_growth-in-Ok.ensures in
    let found : GrowsFrom c.shape-kept.result c.deref_mut.result.now table = c.in_ok-may_grow-in-Ok.ensures.ok in
    let here = subst (λ (s : Shape). GrowsFrom s list table) c.shape-kept.ensures.shape
    (subst (λ (l : List Answered). GrowsFrom c.shape-kept.result l table) c.deref_mut.ensures.value found) in
    record {
      cause = λ refusal told is. IfErr-at_err (EndsBy IsOfBench (λ r. GrowCause r file table)) (sym same ∙ is) tt;
      due = λ refusal told cause. subst (λ (r : Result (Unit {0}) (End GrowRefusal)). RefusedUnlessStopped refusal r) (sym same) tt;
      grows = λ told can. subst (λ (r : Result (Unit {0}) (End GrowRefusal)). DoneUnlessStopped r) (sym same) tt;
      done = λ told. no_answer answer (Stopped Bench) same _;
      any_moment = λ told quiet grown.
          let read = c.in-Ok.ensures.whole (over grown.rows table.setting.shape) grown.history grown.stands.0 told grown.stands.1 in
          let same_rows : rows ≡ table.setting.shape.rows = ap (λ (s : Shape). s.rows) c.shape-rows.ensures.shape in
          let stands = subst (λ (f : List ℕ). StandsAt f journal.shape list journal.gate) (sym reads.file) (c.in-Ok.ensures.stands told) in
          in_two_steps bench old (over grown.rows table.setting.shape) grown.history table.setting.shape.rows grown.stands mid new journal.shape list rows
          read.0 read.1 same_rows reads.sent (reads.untouched quiet)
          (c.append_growth.ensures.any_moment list told stands (still_quiet bench old mid reads quiet));
      untouched = λ told quiet no. absurd (no (can_grow file journal.shape list journal.gate table (c.in-Ok.ensures.stands told) here));
      kept = on_refusal answer (Stopped Bench) same _ (λ other. absurd (other same));
      quiet = λ told quiet other. absurd (other same);
      sent = c.append_growth.ensures.sent ∙ reads.sent;
      ticks = λ told. no_answer answer (Stopped Bench) same _;
      fault = then_tells bench old mid new _ _ c.in-Ok.ensures.fault (λ is. no_refusal _ _ is) (record {
        later = c.append_growth.ensures.cause.later;
        failed = λ is. c.in_err-append_growth-in-Ok.ensures.cause.failed;
        last_call = λ is. c.in_err-append_growth-in-Ok.ensures.last_call;
        steady = λ other. absurd (other (subst (λ (r : Result (Unit {0}) (End GrowRefusal)). IsErrOf r (Stopped Bench)) (sym same) refl));
      });
      ends = subst (λ (r : Result (Unit {0}) (End GrowRefusal)). IfErr r (EndsBy IsOfBench (λ _. ⊤))) (sym same) tt;
    }

-- ---- it was

pub returns-in_ok-append_growth-in-Ok : goal.returns-in_ok-append_growth-in-Ok
returns-in_ok-append_growth-in-Ok g c =
    let bench = g.B.Bench in
    let old = c.args.bench.now in
    let mid = c.read_back.new.bench in
    let new = c.append_growth.new.bench in
    let file = bench.file old in
    let table = c.args.guarded in
    let journal = c.in-Ok.journal in
    let list = c.in-Ok.list.items in
    let reads = c.read_back.ensures.reads in
    let rows = c.shape-rows.result.rows in
    let found : GrowsFrom c.shape-kept.result c.deref_mut.result.now table = c.in_ok-may_grow-in-Ok.ensures.ok in
    let here = subst (λ (s : Shape). GrowsFrom s list table) c.shape-kept.ensures.shape
    (subst (λ (l : List Answered). GrowsFrom c.shape-kept.result l table) c.deref_mut.ensures.value found) in
    let same_rows : rows ≡ table.setting.shape.rows = ap (λ (s : Shape). s.rows) c.shape-rows.ensures.shape in
    record {
      cause = λ refusal told is. let none : ⊥ = cc in absurd none;
      due = λ refusal told cause.
          grows_has_no_cause journal.shape list table refusal here
          (grow_due_of_history file table journal.shape list
          (λ other others gate stands. let is = c.in-Ok.ensures.whole other others gate told stands in (is.0, is.1))
          refusal (λ r. c.in-Ok.ensures.due r told) cause);
      grows = λ told can. tt;
      done = λ told.
          let stands = subst (λ (f : List ℕ). StandsAt f journal.shape list journal.gate) (sym reads.file) (c.in-Ok.ensures.stands told) in
          let after = c.in_ok-append_growth-in-Ok.ensures.done list told stands in
          let shape : c.append_growth.new.self.shape ≡ table.setting.shape = c.in_ok-append_growth-in-Ok.ensures.shape
          ∙ ap (λ (s : Shape). over rows s) here.fewer.columns ∙ ap (λ k. over k table.setting.shape) same_rows in (
            can_grow file journal.shape list journal.gate table (c.in-Ok.ensures.stands told) here,
            (
              c.append_growth.new.self.gate,
              subst (λ (s : Shape). StandsAt (bench.file new) s (widened table.setting.shape.rows list) c.append_growth.new.self.gate) shape
                  (subst (λ (k : ℕ). StandsAt (bench.file new) c.append_growth.new.self.shape (widened k list) c.append_growth.new.self.gate) same_rows after),
            ),
          );
      any_moment = λ told quiet grown.
          let read = c.in-Ok.ensures.whole (over grown.rows table.setting.shape) grown.history grown.stands.0 told grown.stands.1 in
          let stands = subst (λ (f : List ℕ). StandsAt f journal.shape list journal.gate) (sym reads.file) (c.in-Ok.ensures.stands told) in
          in_two_steps bench old (over grown.rows table.setting.shape) grown.history table.setting.shape.rows grown.stands mid new journal.shape list rows
          read.0 read.1 same_rows reads.sent (reads.untouched quiet)
          (c.append_growth.ensures.any_moment list told stands (still_quiet bench old mid reads quiet));
      untouched = λ told quiet no. absurd (no (can_grow file journal.shape list journal.gate table (c.in-Ok.ensures.stands told) here));
      kept = tt;
      quiet = λ told quiet other. c.in_ok-append_growth-in-Ok.ensures.quiet told;
      sent = c.append_growth.ensures.sent ∙ reads.sent;
      ticks = λ told. omega (arith, c.in-Ok.ensures.ticks told, c.in_ok-append_growth-in-Ok.ensures.ticks told);
      fault = then_tells bench old mid new _ _ c.in-Ok.ensures.fault (λ is. no_refusal _ _ is) (record {
        later = c.append_growth.ensures.cause.later;
        failed = λ is. no_refusal _ _ is;
        last_call = λ is. no_refusal _ _ is;
        steady = λ other. c.in_ok-append_growth-in-Ok.ensures.cause.steady;
      });
      ends = tt;
    }
