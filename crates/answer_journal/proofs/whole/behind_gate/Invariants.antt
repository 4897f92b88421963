use Rattle.std.proofs.Common.{◌-◌, length}
use Rattle.answer_journal.proofs.Gathering.{IsSoFar}
use Rattle.answer_journal.proofs.whole.behind_gate.Given as goal

abbrev pub invariant-loop-at : goal.invariant-loop-at
invariant-loop-at l = IsSoFar l.shape l.list l.at l.bytes.items

abbrev pub decreases-loop-at : goal.decreases-loop-at
decreases-loop-at l = length l.list - l.at
