use Rattle.std.proofs.Common.{◌≡◌, ℕ, ◌<◌, length, get_or}
use Rattle.bench_core.specs.BenchContents.{state_of, torn_byte}
use Rattle.bench_core.proofs.memory_bench.MemoryBench.torn.Given as goal

-- the bytes so far
abbrev pub invariant-loop-place : goal.invariant-loop-place
invariant-loop-place l = record {
  long : length l.bytes.items ≡ l.place;
  each : (k : ℕ) → k < l.place → get_or l.bytes.items k 0 ≡ torn_byte (state_of l.self) k;
}
