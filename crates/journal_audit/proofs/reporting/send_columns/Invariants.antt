use Rattle.std.proofs.Common.{Ok, take}
use Rattle.schema_json.specs.Columns.{secret_count}
use Rattle.journal_audit.specs.Reports.{audit_of, subjects_before, SendsLinesOn}
use Rattle.journal_audit.proofs.reporting.send_columns.Given as goal

abbrev pub invariant-loop-place : goal.invariant-loop-place
invariant-loop-place g l =
    SendsLinesOn g.B.Bench (audit_of l.schema.columns l.store)
    (subjects_before l.store.secret.shape (secret_count (take l.place l.schema.columns))) l.initial.bench l.bench (Ok tt)
