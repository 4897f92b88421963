use Rattle.std.proofs.Common.{arith}
use Rattle.std.proofs.lemmas.Grind.{common_steps}
use Rattle.bench_core.proofs.memory_bench.MemoryBench.next_fails.Goals as goal

pub returns-else-is_stopped-clause-fails : goal.returns-else-is_stopped-clause-fails
returns-else-is_stopped-clause-fails c = grind (arith, common_steps)
