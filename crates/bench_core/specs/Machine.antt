-- A bench that is kept by the record of its calls: its state after each, and what a crash since one of them finds.
use Rattle.std.specs.Prelude.{◌≡◌, ◌⊎◌, ℕ, zero, suc, ◌+◌, Bool, false, ◌&&◌, ◌||◌, List, [], ◌∷◌, ◌++◌, length, take, drop, nat_le, nat_lt}
use Rattle.bench_core.specs.Bench.{AppendsFront}
use Rattle.bench_core.specs.Crash.{IsImage}

-- a write that was done, a range whose write failed, a sync, a piece that was sent, another call
pub data Call : Type 0 where
  wrote : ℕ → List ℕ → Call
  unwritten : ℕ → ℕ → Call
  synced : Call
  sending : List ℕ → Call
  other : Call

-- the bytes of the last good sync, the places touched since, the file as it reads, and the bytes sent
pub record State : Type 0 where
  pub stable : List ℕ
  pub dirty : ℕ → Bool
  pub file : List ℕ
  pub sent : List ℕ

-- a quiet file, and nothing sent
abbrev pub start : List ℕ → State
start file = record { stable = file; dirty = λ _. false; file = file; sent = [] }

abbrev pub in_range : ℕ → ℕ → ℕ → Bool
in_range at count place = nat_le at place && nat_lt place (at + count)

-- a range is touched
abbrev pub dirtied : (ℕ → Bool) → ℕ → ℕ → ℕ → Bool
dirtied dirty at count place = dirty place || in_range at count place

-- a piece is written over what stands there, and past the end
abbrev pub written : List ℕ → ℕ → List ℕ → List ℕ
written file at piece = take at file ++ piece ++ drop (at + length piece) file

abbrev pub after : State → Call → State
after s (wrote at piece) = record { stable = s.stable; dirty = dirtied s.dirty at (length piece); file = written s.file at piece; sent = s.sent }
after s (unwritten at count) = record { stable = s.stable; dirty = dirtied s.dirty at count; file = s.file; sent = s.sent }
after s synced = record { stable = s.file; dirty = λ _. false; file = s.file; sent = s.sent }
after s (sending piece) = record { stable = s.stable; dirty = s.dirty; file = s.file; sent = s.sent ++ piece }
after s other = s

abbrev pub after_all : State → List Call → State
after_all s [] = s
after_all s (c ∷ calls) = after_all (after s c) calls

-- what a crash may leave
abbrev pub Leaves : State → List ℕ → Type 0
Leaves s image = IsImage s.stable s.dirty s.file image

-- what a crash between two calls finds
abbrev pub Found : State → List ℕ → List ℕ → Type 0
Found s image sent = Leaves s image × (sent ≡ s.sent)

-- what a crash in a call finds; before it is counted as found between two calls
abbrev pub During : State → Call → List ℕ → List ℕ → Type 0
During s (wrote at piece) image sent = Found (after s (wrote at piece)) image sent
During s (unwritten at count) image sent = Found (after s (unwritten at count)) image sent
During s synced image sent = Found (after s synced) image sent
During s (sending piece) image sent = Leaves s image × AppendsFront s.sent piece sent
During s other image sent = Found s image sent

-- what a crash since the call number t finds
abbrev pub Since : State → List Call → ℕ → List ℕ → List ℕ → Type 0
Since s [] zero image sent = Found s image sent
Since s [] (suc t) image sent = ⊥
Since s (c ∷ calls) zero image sent = Found s image sent ⊎ (During s c image sent ⊎ Since (after s c) calls zero image sent)
Since s (c ∷ calls) (suc t) image sent = Since (after s c) calls t image sent
