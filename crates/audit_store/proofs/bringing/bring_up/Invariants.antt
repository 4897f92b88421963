use Rattle.std.proofs.Common.{◌-◌, length}
use Rattle.audit_store.proofs.Appended.{AreAppended}
use Rattle.audit_store.proofs.bringing.bring_up.Given as goal

abbrev pub invariant-loop-at : goal.invariant-loop-at
invariant-loop-at g l = AreAppended g.B.Bench l.missing l.fn.bench l.fn.journal l.at l.bench l.journal

abbrev pub decreases-loop-at : goal.decreases-loop-at
decreases-loop-at g l = length l.missing - l.at
