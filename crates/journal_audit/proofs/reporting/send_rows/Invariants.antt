use Rattle.std.proofs.Common.{Ok}
use Rattle.journal_audit.specs.Reports.{audit_of, SendsLinesOn}
use Rattle.journal_audit.proofs.Subjects.{rows_before}
use Rattle.journal_audit.proofs.reporting.send_rows.Given as goal

abbrev pub invariant-loop-row : goal.invariant-loop-row
invariant-loop-row g l = SendsLinesOn g.B.Bench (audit_of l.schema.columns l.store) (rows_before l.column l.row)
    l.initial.bench l.bench (Ok tt)
