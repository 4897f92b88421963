use Rattle.std.proofs.Common.{rules, ◌≡◌, List, [], Err, IfErr, sym, ap, subst, inl}
use Rattle.audit_types.specs.History.{Protection, setting_of}
use Rattle.audit_types.specs.declared.records.Answered.{Answered}
use Rattle.audit_types.specs.declared.shapes.Shape.{Shape}
use Rattle.answer_journal.specs.Refusals.{IsOfReading, ReadCause}
use Rattle.answer_journal.specs.declared.refusals.JournalRefusal.{JournalRefusal}
use Rattle.bench_core.specs.Ends.{EndsBy}
use Rattle.bench_core.specs.Reports.{told_as}
use Rattle.bench_core.specs.Stops.{IsOfBench}
use Rattle.journal_form.specs.Journal.{StandsAt}
use Rattle.transcript_sim.specs.Beginning.{IsOfBeginning, UnbegunCause}
use Rattle.transcript_sim.proofs.Beginnings.{of_reading, told_by_audit, told_by_reading}
use Rattle.transcript_sim.proofs.beginning.begin.Goals as goal

pub returns-in-Ok-clause-cause : goal.returns-in-Ok-clause-cause
returns-in-Ok-clause-cause g c =
    let file = g.B.Bench.file c.args.bench.now in
    let journal = c.in-Ok.journal in
    let same : c.in_ok-protected.protected ≡ c.args.protected.now = search rules in
    let stands = λ (told : g.B.Bench.told).
    subst (λ (s : Shape). StandsAt file s c.deref.result.now journal.gate) (sym c.shape.ensures.shape)
    (subst (λ (h : List Answered). StandsAt file journal.shape h journal.gate) (sym c.deref.ensures.value) (c.in-Ok.ensures.stands told)) in
    subst
    (λ (p : Protection). IfErr c.audited.result (EndsBy IsOfBench (λ refusal. IsOfBeginning refusal × (g.B.Bench.told →
    UnbegunCause refusal file (setting_of c.args.shape p))))) same
    (told_by_audit g.B.Bench.told file (setting_of c.args.shape c.in_ok-protected.protected) c.shape.result c.deref.result.now journal.gate stands
    c.audited.result c.audited.ensures.cause)

pub returns-in_ok-new-in-NotMade-clause-begins : goal.returns-in_ok-new-in-NotMade-clause-begins
returns-in_ok-new-in-NotMade-clause-begins g c = λ told.
    let refusal = c.in-Err-Refused.refusal in
    let cause : ReadCause refusal (g.B.Bench.file c.args.bench.now) = c.in-Err-Refused.ensures.cause refusal told (ap Err c.in-Err-Refused.field-0-is) in
    let none : c.in_ok-new-in-NotMade.field-0.history ≡ [] = search rules in
    inl (subst (λ (r : JournalRefusal). ReadCause r (g.B.Bench.file c.args.bench.now)) c.in-NotMade.is cause, none)

pub returns-in_default : goal.returns-in_default
returns-in_default g c =
    let refusal = c.in-Err-Refused.refusal in
    record {
      setting = tt;
      begins = λ told. tt;
      cause = (
        of_reading refusal c.in_default.not-NotMade (subst (EndsBy IsOfBench IsOfReading) c.in-Err-Refused.field-0-is c.in-Err-Refused.ensures.ends),
        λ told. told_by_reading (g.B.Bench.file c.args.bench.now) (setting_of c.args.shape c.args.protected.now) refusal c.in_default.not-NotMade
            (c.in-Err-Refused.ensures.cause refusal told (ap Err c.in-Err-Refused.field-0-is)),
      );
      reads = c.read_back.ensures.reads;
      ticks = λ told. tt;
      fault = told_as g.B.Bench c.args.bench.now c.read_back.new.bench _ _ (λ is. absurd cc) (λ is. absurd cc) c.in-Err-Refused.ensures.fault;
    }
