use Rattle.std.proofs.Common.{◌≡◌, Err, List, sym, subst, ◌∙◌}
use Rattle.std.specs.Prelude.{⊤, IfErr, IsErrOf}
use Rattle.std.proofs.lemmas.Result.{IfErr-at_err, IfOk-from_err}
use Rattle.audit_types.specs.declared.records.Answered.{Answered}
use Rattle.audit_types.specs.declared.shapes.Shape.{Shape}
use Rattle.audit_types.specs.History.{IsLegal}
use Rattle.bench_core.specs.Reports.{is_refusal, of_refusal, passed_on, told_as}
use Rattle.journal_form.specs.Journal.{StandsAt}
use Rattle.bench_core.specs.Ends.{DoneUnlessStopped, EndsBy, RefusedUnlessStopped}
use Rattle.bench_core.specs.EndLaws.{EndsBy-weaker}
use Rattle.bench_core.specs.Stops.{IsOfBench, IsOfMemory, of_bench}
use Rattle.bench_core.specs.declared.stops.End.TheVariants.{Stopped}
use Rattle.bench_core.specs.declared.stops.Stop.TheVariants.{Bench}
use Rattle.audit_store.specs.Refusals.{no_refusal}
use Rattle.audit_store.specs.Starting.{HistoryCause}
use Rattle.audit_store.specs.Stores.{table_by}
use Rattle.audit_store.proofs.Causes.{cause_in_file, cause_of_reading, due_of_reading, due_of_history}
use Rattle.audit_store.proofs.sealed.Sealed+Secret.open_other.Goals as goal

-- ---- the journal wasn't read

pub returns-in_err-journal : goal.returns-in_err-journal
returns-in_err-journal g c =
    let file = g.B.Bench.file c.args.spare.now in
    let table = table_by c.args.self.now.secret c.args.self.now.core in
    let end = c.in_err-journal.field-0.0 in
    let read = c.in_err-journal.ensures in
    let answer = c.from_residual.result in
    let refuses = c.from_residual.ensures in
    let same : answer ≡ Err end = is_refusal answer end refuses in
    record {
      journal = IfOk-from_err _ _ refuses.0;
      legal = IfOk-from_err _ _ refuses.0;
      stands = λ told. IfOk-from_err _ _ refuses.0;
      cause = λ refusal told is. cause_of_reading file table refusal (read.cause refusal told (sym same ∙ is));
      due = λ refusal told cause.
          of_refusal answer end refuses (RefusedUnlessStopped refusal)
          (due_of_reading file table end refusal (λ r. read.due r told) (λ shape history gate. read.whole shape history gate told) cause);
      opens = λ history told stands legal.
          of_refusal answer end refuses DoneUnlessStopped (read.whole c.args.self.now.secret.shape history stands.0 told stands.1);
      reads = read.reads;
      ticks = λ told. IfOk-from_err _ _ refuses.0;
      fault = passed_on g.B.Bench c.args.spare.now c.read_back.new.bench end (Stopped Bench) answer same read.fault;
      ends = of_refusal answer end refuses (λ r. IfErr r (EndsBy IsOfBench (λ _. ⊤)))
          (EndsBy-weaker end IsOfBench IsOfBench _ _ (λ stop is. is) (λ refusal is. tt) read.ends);
    }

-- ---- its history isn't that of the table

pub returns-in_err-test_other : goal.returns-in_err-test_other
returns-in_err-test_other g c =
    let file = g.B.Bench.file c.args.spare.now in
    let table = table_by c.args.self.now.secret c.args.self.now.core in
    let list = c.in_ok-journal.list.items in
    let read = c.in_ok-journal.ensures in
    let shown = c.deref.result.now in
    let given = c.in_err-test_other.field-0.0 in
    let answer = c.from_residual-in_err-test_other.result in
    let refuses = c.from_residual-in_err-test_other.ensures in
    let why = of_refusal answer given refuses (λ r. IfErr r (EndsBy IsOfMemory (λ f. HistoryCause f c.shape.result shown table)))
    c.in_err-test_other.ensures.err in
    record {
      journal = IfOk-from_err _ _ refuses.0;
      legal = IfOk-from_err _ _ refuses.0;
      stands = λ told. IfOk-from_err _ _ refuses.0;
      cause = λ refusal told is.
          let cause = IfErr-at_err (EndsBy IsOfMemory (λ f. HistoryCause f c.shape.result shown table)) is why in
          cause_in_file file c.in_ok-journal.journal.shape list c.in_ok-journal.journal.gate table refusal (read.stands told)
          (subst (λ (s : Shape). HistoryCause refusal s list table) c.shape.ensures.shape
          (subst (λ (h : List Answered). HistoryCause refusal c.shape.result h table) c.deref.ensures.value cause));
      due = λ refusal told cause.
          let found =
          due_of_history file table c.in_ok-journal.journal.shape list refusal (λ r. read.due r told)
          (λ other others gate stands. let same = read.whole other others gate told stands in (same.0, same.1)) cause in
          let here : HistoryCause refusal c.shape.result shown table =
          subst (λ (s : Shape). HistoryCause refusal s shown table) (sym c.shape.ensures.shape)
          (subst (λ (h : List Answered). HistoryCause refusal c.in_ok-journal.journal.shape h table) (sym c.deref.ensures.value) found) in
          of_refusal answer given refuses (RefusedUnlessStopped refusal) (c.in_err-test_other.ensures.due refusal here);
      opens = λ history told stands legal.
          let same = read.whole c.args.self.now.secret.shape history stands.0 told stands.1 in
          of_refusal answer given refuses DoneUnlessStopped
          (c.in_err-test_other.ensures.opens (c.shape.ensures.shape ∙ same.0)
          (subst (λ (h : List Answered). IsLegal table h) (sym (c.deref.ensures.value ∙ same.1)) legal));
      reads = read.reads;
      ticks = λ told. IfOk-from_err _ _ refuses.0;
      fault =
          told_as g.B.Bench c.args.spare.now c.read_back.new.bench _ (IsErrOf answer (Stopped Bench))
          (λ is. no_refusal _ _ is)
          (λ is. absurd (IfErr-at_err (EndsBy IsOfMemory (λ f. HistoryCause f c.shape.result shown table)) is why)) read.fault;
      ends = of_refusal answer given refuses (λ r. IfErr r (EndsBy IsOfBench (λ _. ⊤)))
          (EndsBy-weaker given IsOfMemory IsOfBench _ _ of_bench (λ refusal is. tt) c.in_err-test_other.ensures.err);
    }

-- ---- it is

pub returns : goal.returns
returns g c =
    let file = g.B.Bench.file c.args.spare.now in
    let table = table_by c.args.self.now.secret c.args.self.now.core in
    let list = c.in_ok-journal.list.items in
    let read = c.in_ok-journal.ensures in
    let shown = c.deref.result.now in
    let tested = c.in_ok-test_other.ensures in
    let journal = c.in_ok-journal.journal in
    let shape : journal.shape ≡ c.args.self.now.secret.shape = sym c.shape.ensures.shape ∙ tested.ok.0 in
    record {
      journal = record { usable = read.usable.0; same_shape = shape; counted = sym read.usable.2 };
      legal = subst (λ (h : List Answered). IsLegal table h) c.deref.ensures.value tested.ok.1;
      stands = λ told. subst (λ (s : Shape). StandsAt file s list journal.gate) shape (read.stands told);
      cause = λ refusal told is. let none : ⊥ = cc in absurd none;
      due = λ refusal told cause.
          let found =
          due_of_history file table c.in_ok-journal.journal.shape list refusal (λ r. read.due r told)
          (λ other others gate stands. let same = read.whole other others gate told stands in (same.0, same.1)) cause in
          let here : HistoryCause refusal c.shape.result shown table =
          subst (λ (s : Shape). HistoryCause refusal s shown table) (sym c.shape.ensures.shape)
          (subst (λ (h : List Answered). HistoryCause refusal c.in_ok-journal.journal.shape h table) (sym c.deref.ensures.value) found) in
          c.in_ok-test_other.ensures.due refusal here;
      opens = λ history told stands legal. tt;
      reads = read.reads;
      ticks = λ told. read.ticks told;
      fault =
          told_as g.B.Bench c.args.spare.now c.read_back.new.bench _ _ (λ is. no_refusal _ _ is) (λ is. no_refusal _ _ is) read.fault;
      ends = tt;
    }
