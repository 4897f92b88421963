-- What a caller says of a bench: that it is quiet, what a crash in a call of several steps finds, that a call only read, and
-- how it says that it failed.
use Rattle.std.specs.Prelude.{◌≡◌, ◌⊎◌, ℕ, ◌≤◌, List, true}
use Rattle.bench_core.specs.declared.bench.Bench.{Ghosts}
use Rattle.bench_core.specs.Causes.{Rose}

-- a crash now leaves the file as it reads, and nothing else
abbrev pub IsQuiet : {D : Type 0} → Ghosts D → D → Type 0
IsQuiet bench at = (image : List ℕ) → bench.leaves at image → image ≡ bench.file at

-- each pair of image and bytes sent that a crash since old finds has P
pub record LeavesOnly {D : Type 0} (bench : Ghosts D) (old new : D) (P : List ℕ → List ℕ → Type 0) : Type 0 where
  pub later : bench.moment old ≤ bench.moment new
  pub each : (image sent : List ℕ) → bench.since new (bench.moment old) image sent → P image sent
  -- for a call that began earlier
  pub before : (t : ℕ) (image sent : List ℕ) → t ≤ bench.moment old → bench.since new t image sent → bench.since old t image sent ⊎ P image sent

-- nothing was sent, and the image is this file
abbrev pub IsUntouched : List ℕ → List ℕ → List ℕ → List ℕ → Type 0
IsUntouched file before image sent = (sent ≡ before) × (image ≡ file)

-- the file and what was sent are as they were, at the end and at every moment
pub record OnlyReads {D : Type 0} (bench : Ghosts D) (old new : D) : Type 0 where
  pub file : bench.file new ≡ bench.file old
  pub sent : bench.sent new ≡ bench.sent old
  pub crash : (image : List ℕ) → bench.leaves new image → bench.leaves old image
  pub untouched : IsQuiet bench old → LeavesOnly bench old new (IsUntouched (bench.file old) (bench.sent old))

-- if it is answered that a call of the bench failed, exactly one did, the last; else none did
pub record TellsFault {D : Type 0} (bench : Ghosts D) (old new : D) (Answered : Type 0) : Type 0 where
  pub later : bench.faults old ≤ bench.faults new
  pub failed : Answered → Rose (bench.faults old) (bench.faults new)
  pub last_call : Answered → bench.last_failed new ≡ true
  pub steady : (Answered → ⊥) → bench.faults new ≡ bench.faults old
