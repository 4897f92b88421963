use Rattle.std.proofs.Common.{sym, ap}
use Rattle.auditor_top.specs.Faults.{making_status}
use Rattle.auditor_top.proofs.ends.made.Goals as goal

pub returns-in-Ok : goal.returns-in-Ok
returns-in-Ok c = sym (ap making_status c.in-Ok.is)
