use Rattle.std.proofs.Common.{arith}
use Rattle.file_adapters.proofs.journal_file.read_whole.Goals as goal

pub loop-count-preserved : goal.loop-count-preserved
loop-count-preserved g c = omega arith
