-- So many bytes of the buffer are read, and those that are left go down.
use Rattle.std.proofs.Common.{◌≤◌, ◌-◌, length}
use Rattle.file_adapters.proofs.journal_file.read_whole.Given as goal

abbrev pub invariant-loop-count : goal.invariant-loop-count
invariant-loop-count g l = l.count ≤ length l.buf

abbrev pub decreases-loop-count : goal.decreases-loop-count
decreases-loop-count g l = length l.buf - l.count
