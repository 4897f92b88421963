use Rattle.audit_core.proofs.column.ColumnColumnAudit.probe.Goals as goal

pub returns-in-Sum-clause-judged : goal.returns-in-Sum-clause-judged
returns-in-Sum-clause-judged c = rw c.in-Sum.is c.probe.ensures.judged

pub returns-in-Max-clause-judged : goal.returns-in-Max-clause-judged
returns-in-Max-clause-judged c = rw c.in-Max.is c.probe-in-Max.ensures.judged
