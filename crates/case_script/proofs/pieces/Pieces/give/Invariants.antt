-- So many bytes of the buffer are given, no fault is counted, and the bytes that are left go down.
use Rattle.std.proofs.Common.{◌≡◌, ◌≤◌, ◌-◌, length}
use Rattle.case_script.proofs.pieces.Pieces.give.Given as goal

abbrev pub invariant-loop-count : goal.invariant-loop-count
invariant-loop-count l = (l.count ≤ length l.buf) × (l.self.faults ≡ l.initial.self.faults) × (l.self.last_failed ≡ l.initial.self.last_failed)

abbrev pub decreases-loop-count : goal.decreases-loop-count
decreases-loop-count l = length l.buf - l.count
