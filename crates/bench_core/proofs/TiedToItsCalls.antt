-- Each call keeps a bench in memory tied to the record of its calls.
use Rattle.std.proofs.Common.{◌≡◌, ℕ, ◌+◌, ◌<◌, ◌≤◌, Bool, min, max, List, [], ◌∷◌, ◌++◌, length, take, drop, sym, ap, ◌∙◌, arith, length-append, length-take, length-drop}
use Rattle.bench_core.specs.Machine.{Call, State, start, after, after_all, written}
use Rattle.bench_core.specs.DiskContents.{DiskContents, is_dirty}
use Rattle.bench_core.specs.LogContents.{LogContents}
use Rattle.bench_core.specs.BenchTies.{IsTied, state_in}
use Rattle.bench_core.specs.MachineLaws.{after_all-push}
use Rattle.bench_core.specs.declared.memory_bench.MemoryBench.TheInside.{Inside}

-- the disk and the log after a call are those of the state after it, and had room for it
pub record Steps (b : Inside) (call : Call) (disk : DiskContents) (log : LogContents) (calls : ℕ) : Type 0 where
  pub calls_are : log.calls ≡ b.log.calls ++ call ∷ []
  pub file : disk.file ≡ (after (state_in b) call).file
  pub stable : disk.stable ≡ (after (state_in b) call).stable
  pub dirty : (place : ℕ) → place < b.disk.room → is_dirty disk.dirty place ≡ (after (state_in b) call).dirty place
  pub flags : length disk.dirty ≡ length b.disk.dirty
  pub room : disk.room ≡ b.disk.room
  pub inside : length disk.file ≤ b.room.file
  pub sent : log.sent ≡ (after (state_in b) call).sent
  pub sent_inside : length log.sent ≤ b.room.sent
  pub most_calls : log.most_calls ≡ b.log.most_calls
  pub most_written : log.most_written ≡ b.log.most_written
  pub most_sent : log.most_sent ≡ b.log.most_sent
  pub counted : length b.log.calls + 1 ≤ min calls b.room.calls + length log.sent

-- a bench with another disk and log, other counts, and another answer of its last call
abbrev pub moved : Inside → DiskContents → LogContents → ℕ → ℕ → Bool → Inside
moved b disk log calls faults last_failed =
    record {
      alloc = b.alloc;
      first = b.first;
      disk = disk;
      log = log;
      failing = b.failing;
      stop = b.stop;
      room = b.room;
      calls = calls;
      faults = faults;
      last_failed = last_failed;
    }

pub tied_step : (b : Inside) (call : Call) (disk : DiskContents) (log : LogContents) (calls faults : ℕ) (last_failed : Bool) → IsTied b →
    Steps b call disk log calls → IsTied (moved b disk log calls faults last_failed)
tied_step b call disk log calls faults last_failed tied step =
    let now : after_all (start b.first.items) log.calls ≡ after (state_in b) call = ap (after_all (start b.first.items)) step.calls_are
    ∙ after_all-push (start b.first.items) b.log.calls call in
    record {
      file = step.file ∙ ap (λ (s : State). s.file) (sym now);
      stable = step.stable ∙ ap (λ (s : State). s.stable) (sym now);
      dirty = λ place lt. step.dirty place (omega (arith, step.room)) ∙ ap (λ (s : State). s.dirty place) (sym now);
      flags = step.flags ∙ tied.flags ∙ sym step.room;
      sent = step.sent ∙ ap (λ (s : State). s.sent) (sym now);
      file_room = step.room ∙ tied.file_room;
      inside = step.inside;
      written_room = step.most_written ∙ tied.written_room;
      sent_room = step.most_sent ∙ tied.sent_room;
      calls_room = step.most_calls ∙ tied.calls_room;
      sent_inside = step.sent_inside;
      counted = let long = length-append b.log.calls (call ∷ []) in let same = ap length step.calls_are in omega (arith, step.counted, long, same);
    }

-- a write makes the file as long as it reaches
pub length-written : (file : List ℕ) (at : ℕ) (piece : List ℕ) → at ≤ length file → length (written file at piece) ≡ max (length file) (at + length piece)
length-written file at piece inside =
    omega (
      arith,
      length-append (take at file ++ piece) (drop (at + length piece) file),
      length-append (take at file) piece,
      length-take at file,
      length-drop (at + length piece) file,
    )
