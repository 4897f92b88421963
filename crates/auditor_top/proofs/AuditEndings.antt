-- What a report comes to, by cases on how it ended.
use Rattle.std.proofs.Common.{ℕ, List, Result, Ok, Err, IfErr, OnOk, OnErr, sym, subst}
use Rattle.audit_types.specs.declared.records.Answered.{Answered}
use Rattle.table_load.specs.Database.{Database}
use Rattle.bench_core.specs.Calls.{IsUntouched}
use Rattle.bench_core.specs.Stops.{IsOfBench}
use Rattle.bench_core.specs.declared.stops.Stop.{Stop}
use Rattle.bench_core.specs.declared.stops.Stop.TheVariants as stop
use Rattle.journal_audit.specs.Reports.{Audit, Subject, SendsFront, SendsMeanwhile, Reports, ReportsFront}
use Rattle.journal_audit.specs.SendLaws.{none_front}
use Rattle.auditor_top.specs.Faults.{ended_status}
use Rattle.auditor_top.specs.Ends.{AuditEnds, audit_over, people_over}

-- a file that is left as it was is what a crash may find before the first line
pub untouched_report : (audit : Audit) (about : List Subject) (file before image sent : List ℕ) → IsUntouched file before image sent →
    SendsMeanwhile audit about file before image sent
untouched_report audit about file before image sent same =
    record { same = same.1; front = subst (λ (bytes : List ℕ). SendsFront audit about before bytes) (sym same.0) (none_front audit about before) }

-- the ends of a report are those of the run
pub report_ends : {X : Type 0} (ended : Result X Stop) (base : Database) (history : List Answered) (before after : List ℕ)
    → OnOk ended (Reports (audit_over base history) (people_over base) before after) → OnErr ended
    (ReportsFront (audit_over base history) (people_over base) before after)
    → IfErr ended IsOfBench → AuditEnds (ended_status ended) base history before after
report_ends (Ok done) base history before after all part ends = all
report_ends (Err stop.Bench) base history before after all part ends = part
report_ends (Err stop.NoMemory) base history before after all part ends = part
report_ends (Err why) base history before after all part ends = absurd ends
