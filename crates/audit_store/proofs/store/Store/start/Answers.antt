use Rattle.std.proofs.Common.{◌≡◌, Err, ℕ, List, length, take, refl, sym, ap, subst, ◌∙◌}
use Rattle.std.proofs.Math.Seq.{take-length}
use Rattle.std.specs.Prelude.{⊤, IfErr, IsErrOf}
use Rattle.std.proofs.lemmas.Result.{IfErr-at_err, IfOk-from_err}
use Rattle.audit_types.specs.declared.records.Answered.{Answered}
use Rattle.audit_types.specs.declared.shapes.Shape.{Shape}
use Rattle.audit_types.specs.History.{Table, IsLegal}
use Rattle.bench_core.specs.Reports.{is_refusal, of_refusal, passed_on, told_as}
use Rattle.bench_core.specs.Ends.{DoneUnlessStopped, EndsBy, RefusedUnlessStopped}
use Rattle.bench_core.specs.EndLaws.{EndsBy-weaker}
use Rattle.bench_core.specs.Stops.{IsOfBench, IsOfMemory, of_bench}
use Rattle.bench_core.specs.declared.stops.End.TheVariants.{Stopped, Refused}
use Rattle.bench_core.specs.declared.stops.Stop.TheVariants.{Bench}
use Rattle.journal_form.specs.Journal.{StandsAt}
use Rattle.audit_store.specs.Refusals.{no_refusal, same_fault}
use Rattle.audit_store.specs.Starting.{HistoryCause}
use Rattle.audit_store.specs.StoreLaws.{sealed_store}
use Rattle.audit_store.proofs.Causes.{cause_in_file, cause_of_reading, due_of_reading, due_of_history}
use Rattle.audit_store.proofs.store.Store.start.Goals as goal

pub invariant_of-result : goal.invariant_of-result
invariant_of-result g c =
    let sealed = c.in_ok-sealed.sealed in
    let opened = c.in_ok-sealed.ensures in
    let usable = c.in_ok-journal.ensures.usable in
    sealed_store c.args.guarded c.deref.result.now sealed.secret sealed.core c.in_ok-journal.journal c.count.result opened.ok usable.0
    (sym c.shape.ensures.shape ∙ opened.same) (sym (ap length c.deref.ensures.value ∙ usable.2)) c.count.ensures.count

-- ---- the journal wasn't read

pub returns-in_err-journal : goal.returns-in_err-journal
returns-in_err-journal g c =
    let file = g.B.Bench.file c.args.bench.now in
    let table = c.args.guarded in
    let end = c.in_err-journal.field-0.0 in
    let read = c.in_err-journal.ensures in
    let answer = c.from_residual.result in
    let refuses = c.from_residual.ensures in
    let same : answer ≡ Err end = is_refusal answer end refuses in
    record {
      store = IfOk-from_err _ _ refuses.0;
      stands = λ told. IfOk-from_err _ _ refuses.0;
      cause = λ refusal told is. cause_of_reading file table refusal (read.cause refusal told (same_fault end (Refused refusal) (sym same ∙ is)));
      due = λ refusal told cause.
          of_refusal answer end refuses (RefusedUnlessStopped refusal)
          (due_of_reading file table end refusal (λ r. read.due r told) (λ shape history gate. read.whole shape history gate told) cause);
      opens = λ history told stands legal.
          of_refusal answer end refuses DoneUnlessStopped (read.whole table.setting.shape history stands.0 told stands.1);
      reads = read.reads;
      ticks = λ told. IfOk-from_err _ _ refuses.0;
      fault = passed_on g.B.Bench c.args.bench.now c.read_back.new.bench end (Stopped Bench) answer same read.fault;
      ends = of_refusal answer end refuses (λ r. IfErr r (EndsBy IsOfBench (λ _. ⊤)))
          (EndsBy-weaker end IsOfBench IsOfBench _ _ (λ stop is. is) (λ refusal is. tt) read.ends);
    }

-- ---- its history isn't that of the table

pub returns-in_err-sealed : goal.returns-in_err-sealed
returns-in_err-sealed g c =
    let file = g.B.Bench.file c.args.bench.now in
    let table = c.args.guarded in
    let list = c.in_ok-journal.list.items in
    let read = c.in_ok-journal.ensures in
    let shown = c.deref.result.now in
    let given = c.in_err-sealed.field-0.0 in
    let answer = c.from_residual-in_err-sealed.result in
    let refuses = c.from_residual-in_err-sealed.ensures in
    let why = of_refusal answer given refuses (λ r. IfErr r (EndsBy IsOfMemory (λ f. HistoryCause f c.shape.result shown table))) c.in_err-sealed.ensures.err in
    record {
      store = IfOk-from_err _ _ refuses.0;
      stands = λ told. IfOk-from_err _ _ refuses.0;
      cause = λ refusal told is.
          let cause = IfErr-at_err (EndsBy IsOfMemory (λ f. HistoryCause f c.shape.result shown table)) is why in
          cause_in_file file c.in_ok-journal.journal.shape list c.in_ok-journal.journal.gate table refusal (read.stands told)
          (subst (λ (s : Shape). HistoryCause refusal s list table) c.shape.ensures.shape
          (subst (λ (h : List Answered). HistoryCause refusal c.shape.result h table) c.deref.ensures.value cause));
      due = λ refusal told cause.
          let found =
          due_of_history file table c.in_ok-journal.journal.shape list refusal (λ r. read.due r told)
          (λ other others gate stands. let same = read.whole other others gate told stands in (same.0, same.1)) cause in
          let here : HistoryCause refusal c.shape.result shown table =
          subst (λ (s : Shape). HistoryCause refusal s shown table) (sym c.shape.ensures.shape)
          (subst (λ (h : List Answered). HistoryCause refusal c.in_ok-journal.journal.shape h table) (sym c.deref.ensures.value) found) in
          of_refusal answer given refuses (RefusedUnlessStopped refusal) (c.in_err-sealed.ensures.due refusal here);
      opens = λ history told stands legal.
          let same = read.whole table.setting.shape history stands.0 told stands.1 in
          of_refusal answer given refuses DoneUnlessStopped
          (c.in_err-sealed.ensures.opens (c.shape.ensures.shape ∙ same.0)
          (subst (λ (h : List Answered). IsLegal table h) (sym (c.deref.ensures.value ∙ same.1)) legal));
      reads = read.reads;
      ticks = λ told. IfOk-from_err _ _ refuses.0;
      fault =
          told_as g.B.Bench c.args.bench.now c.read_back.new.bench _ (IsErrOf answer (Stopped Bench))
          (λ is. no_refusal _ _ is)
          (λ is. absurd (IfErr-at_err (EndsBy IsOfMemory (λ f. HistoryCause f c.shape.result shown table)) is why)) read.fault;
      ends = of_refusal answer given refuses (λ r. IfErr r (EndsBy IsOfBench (λ _. ⊤)))
          (EndsBy-weaker given IsOfMemory IsOfBench _ _ of_bench (λ refusal is. tt) c.in_err-sealed.ensures.err);
    }

-- ---- it is

pub returns : goal.returns
returns g c =
    let file = g.B.Bench.file c.args.bench.now in
    let table = c.args.guarded in
    let list = c.in_ok-journal.list.items in
    let read = c.in_ok-journal.ensures in
    let shown = c.deref.result.now in
    let opened = c.in_ok-sealed.ensures in
    let journal = c.in_ok-journal.journal in
    let secret = c.in_ok-sealed.sealed.secret in
    let core = c.in_ok-sealed.sealed.core in
    let shape : journal.shape ≡ secret.shape =
    sym c.shape.ensures.shape ∙ opened.same ∙ ap (λ (t : Table). t.setting.shape) (sym opened.ok.same_table) in
    let all : c.count.result ≡ length core.history =
    c.count.ensures.count ∙ sym (ap length (opened.ok.same_history ∙ c.deref.ensures.value) ∙ read.usable.2) in
    let history : take c.count.result core.history ≡ list =
    ap (λ (n : ℕ). take n core.history) all ∙ take-length core.history ∙ opened.ok.same_history ∙ c.deref.ensures.value in
    record {
      store = (
        opened.ok.same_table,
        refl,
        (sealed_store table shown secret core journal c.count.result opened.ok read.usable.0 (sym c.shape.ensures.shape ∙ opened.same)
            (sym (ap length c.deref.ensures.value ∙ read.usable.2)) c.count.ensures.count).0,
      );
      stands = λ told.
          subst (λ (s : Shape). StandsAt file s (take c.count.result core.history) journal.gate) shape
          (subst (λ (h : List Answered). StandsAt file journal.shape h journal.gate) (sym history) (read.stands told));
      cause = λ refusal told is. let none : ⊥ = cc in absurd none;
      due = λ refusal told cause.
          let found =
          due_of_history file table journal.shape list refusal (λ r. read.due r told)
          (λ other others gate stands. let same = read.whole other others gate told stands in (same.0, same.1)) cause in
          let here : HistoryCause refusal c.shape.result shown table =
          subst (λ (s : Shape). HistoryCause refusal s shown table) (sym c.shape.ensures.shape)
          (subst (λ (h : List Answered). HistoryCause refusal journal.shape h table) (sym c.deref.ensures.value) found) in
          c.in_ok-sealed.ensures.due refusal here;
      opens = λ history told stands legal. tt;
      reads = read.reads;
      ticks = λ told. read.ticks told;
      fault =
          told_as g.B.Bench c.args.bench.now c.read_back.new.bench _ _ (λ is. no_refusal _ _ is) (λ is. no_refusal _ _ is) read.fault;
      ends = tt;
    }
