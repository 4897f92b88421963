-- The record of a bench's calls as contracts see it.
use Rattle.std.specs.Prelude.{ℕ, ◌+◌, ◌≤◌, List, take, drop}
use Rattle.bench_core.specs.Machine.{Call, wrote, unwritten, synced, sending, other}
use Rattle.bench_core.specs.declared.log.Past.{Past}
use Rattle.bench_core.specs.declared.log.Past.TheVariants as past

-- the calls, the bytes of the pieces written, the bytes sent, and the most that there is room for of each
pub record LogContents : Type 0 where
  pub calls : List Call
  pub written : ℕ
  pub sent : List ℕ
  pub most_calls : ℕ
  pub most_written : ℕ
  pub most_sent : ℕ

-- a call as it is kept: its piece stands among the pieces written, or among the bytes sent
abbrev pub call_of : List ℕ → List ℕ → Past → Call
call_of pieces sent (past.Wrote at from count) = wrote at (take count (drop from pieces))
call_of pieces sent (past.Unwritten at count) = unwritten at count
call_of pieces sent past.Synced = synced
call_of pieces sent (past.Sent from count) = sending (take count (drop from sent))
call_of pieces sent past.Other = other

-- its piece stands there
abbrev pub IsKept : ℕ → ℕ → Past → Type 0
IsKept pieces sent (past.Wrote at from count) = from + count ≤ pieces
IsKept pieces sent (past.Unwritten at count) = Unit {0}
IsKept pieces sent past.Synced = Unit {0}
IsKept pieces sent (past.Sent from count) = from + count ≤ sent
IsKept pieces sent past.Other = Unit {0}
