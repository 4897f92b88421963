-- A bench in memory as contracts see it, and at which calls it fails.
use Rattle.std.specs.Prelude.{◌≡◌, ◌<◌, ◌&&◌, not, slice_index, ℕ, ◌+◌, [], ◌∷◌, ◌++◌, if◌then◌else◌, Bool, ◌||◌, true, false, Option, Some, None, List, length, nat_lt, nat_le, ◌==◌}
use Rattle.std.specs.List.{list_any}
use Rattle.bench_core.specs.declared.room.Room.{Room}
use Rattle.bench_core.specs.Causes.{next_count}
use Rattle.bench_core.specs.Machine.{Call, unwritten, sending, State, start, after_all, Leaves, Since}

-- the file at its start, the calls that changed it or passed, the bytes of the pieces written, the number of the next
-- call, the count of faults, whether the last call failed, the numbers of the calls that fail, the number from which on
-- all fail, and its room
pub record BenchContents : Type 0 where
  pub first : List ℕ
  pub past : List Call
  pub written : ℕ
  pub calls : ℕ
  pub faults : ℕ
  pub last_failed : Bool
  pub failing : List ℕ
  pub stop : Option ℕ
  pub room : Room

-- its state now
abbrev pub state_of : BenchContents → State
state_of bench = after_all (start bench.first) bench.past

-- the file as it reads
abbrev pub file_of : BenchContents → List ℕ
file_of bench = (state_of bench).file

-- the bytes that were sent
abbrev pub sent_of : BenchContents → List ℕ
sent_of bench = (state_of bench).sent

-- what a crash now may leave
abbrev pub may_leave : BenchContents → List ℕ → Type 0
may_leave bench image = Leaves (state_of bench) image

-- what a crash since a moment might have found
abbrev pub found_since : BenchContents → ℕ → List ℕ → List ℕ → Type 0
found_since bench t image sent = Since (start bench.first) bench.past t image sent

-- a call of this number comes at the stop or after it
abbrev pub is_stopped : Option ℕ → ℕ → Bool
is_stopped None call = false
is_stopped (Some stop) call = nat_le stop call

-- the next call fails whatever it is: its number is a failing one, or has reached the stop, or passes the room
abbrev pub call_fails : BenchContents → Bool
call_fails bench =
    list_any (λ call. call == bench.calls) bench.failing
    || is_stopped bench.stop bench.calls
    || nat_le bench.room.calls bench.calls

-- a send of so many bytes fails: the call does, or it would pass the room
abbrev pub send_fails : BenchContents → ℕ → Bool
send_fails bench count = call_fails bench || nat_lt bench.room.sent (length (sent_of bench) + count)

-- a write of so many bytes fails: the call does, or it would pass the room of the file or of what is written
abbrev pub write_fails : BenchContents → ℕ → ℕ → Bool
write_fails bench at count = call_fails bench || nat_lt bench.room.file (at + count) || nat_lt bench.room.written (bench.written + count)

-- a call succeeds: it joins the record, and the clock goes on
abbrev pub passed : BenchContents → Call → BenchContents
passed bench call = record bench { past = bench.past ++ call ∷ []; calls = bench.calls + 1; last_failed = false }

-- a call fails and changes nothing
abbrev pub failed : BenchContents → BenchContents
failed bench = record bench { calls = next_count bench.calls; faults = next_count bench.faults; last_failed = true }

-- a write fails: if there was room for a call, its range was touched
abbrev pub failed_write : BenchContents → ℕ → ℕ → BenchContents
failed_write bench at count = if nat_lt bench.calls bench.room.calls then record (failed bench) { past = bench.past ++ unwritten at count ∷ [] } else failed bench

-- a send fails: a front of its piece was sent, if there is any
abbrev pub failed_send : BenchContents → List ℕ → BenchContents
failed_send bench [] = failed bench
failed_send bench (b ∷ front) = record (failed bench) { past = bench.past ++ sending (b ∷ front) ∷ [] }

-- a byte that is there now, or 0x37 if it isn't stable
abbrev pub torn_byte : State → ℕ → ℕ
torn_byte s place = if nat_lt place (length s.stable) && not (s.dirty place) then slice_index s.stable place else 0x37

-- as long as the file, with 0x37 for each byte that isn't stable
pub record IsTornFile (s : State) (image : List ℕ) : Type 0 where
  pub long : length image ≡ length s.file
  pub each : (place : ℕ) → place < length s.file → slice_index image place ≡ torn_byte s place
