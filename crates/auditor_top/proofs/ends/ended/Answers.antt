use Rattle.std.proofs.Common.{sym, ap}
use Rattle.auditor_top.specs.Faults.{ended_status}
use Rattle.auditor_top.proofs.ends.ended.Goals as goal

pub returns-in-Ok : goal.returns-in-Ok
returns-in-Ok c = sym (ap ended_status c.in-Ok.is)
