-- What a bench in memory keeps is the state that its record of calls leads to, and has room.
use Rattle.std.specs.Prelude.{◌≡◌, ℕ, ◌+◌, ◌<◌, ◌≤◌, min, length}
use Rattle.bench_core.specs.Machine.{State, start, after_all}
use Rattle.bench_core.specs.DiskContents.{is_dirty}
use Rattle.bench_core.specs.declared.memory_bench.MemoryBench.TheInside.{Inside}

-- the state after the calls
abbrev pub state_in : Inside → State
state_in b = after_all (start b.first.items) b.log.calls

pub record IsTied (b : Inside) : Type 0 where
  pub file : b.disk.file ≡ (state_in b).file
  pub stable : b.disk.stable ≡ (state_in b).stable
  pub dirty : (place : ℕ) → place < b.disk.room → is_dirty b.disk.dirty place ≡ (state_in b).dirty place
  pub flags : length b.disk.dirty ≡ b.disk.room
  pub sent : b.log.sent ≡ (state_in b).sent
  pub file_room : b.disk.room ≡ b.room.file
  pub inside : length b.disk.file ≤ b.room.file
  pub written_room : b.log.most_written ≡ b.room.written
  pub sent_room : b.log.most_sent ≡ b.room.sent
  pub calls_room : b.log.most_calls ≡ b.room.calls + b.room.sent
  pub sent_inside : length b.log.sent ≤ b.room.sent
  pub counted : length b.log.calls ≤ min b.calls b.room.calls + length b.log.sent
