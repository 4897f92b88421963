-- So many bytes were sent, and those that are left go down.
use Rattle.std.proofs.Common.{length, ◌-◌, ◌≤◌}
use Rattle.library_calls.proofs.counted_files.CountedFilesPrint.write_all.Given as goal

abbrev pub invariant-loop-count : goal.invariant-loop-count
invariant-loop-count l = l.count ≤ length l.bytes

abbrev pub decreases-loop-count : goal.decreases-loop-count
decreases-loop-count l = length l.bytes - l.count
