use Rattle.std.proofs.Common.{arith}
use Rattle.bench_core.proofs.memory_bench.MemoryBench.torn_byte.Goals as goal

pub returns-else-place-stable : goal.returns-else-place-stable
returns-else-place-stable c = grind arith
