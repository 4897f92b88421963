use Rattle.std.proofs.Common.{sym, ap}
use Rattle.auditor_top.specs.Faults.{simulation_status}
use Rattle.auditor_top.proofs.ends.judged.Goals as goal

pub returns-in-Ok : goal.returns-in-Ok
returns-in-Ok c = sym (ap simulation_status c.in-Ok.is)
