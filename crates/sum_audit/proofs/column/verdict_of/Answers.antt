use Rattle.std.proofs.Common.{rules}
use Rattle.sum_audit.proofs.column.verdict_of.Goals as goal

pub returns-in-Wide : goal.returns-in-Wide
returns-in-Wide c = search rules

pub returns-in-Fixing : goal.returns-in-Fixing
returns-in-Fixing c = search rules

pub returns-in-Open : goal.returns-in-Open
returns-in-Open c = search rules
