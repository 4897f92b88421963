-- Why a call may answer that it failed.
use Rattle.std.specs.Prelude.{◌≡◌, ℕ, ◌+◌, ◌-◌, ◌^◌, ◌≤◌, min, Result, OnOk, OnErr}

-- one more, or the same at the type's end
abbrev pub next_count : ℕ → ℕ
next_count count = min (count + 1) (2 ^ 64 - 1)

-- a count of faults is one more, or stands at its type's end
abbrev pub Rose : ℕ → ℕ → Type 0
Rose before now = now ≡ next_count before

-- the count of faults is one more if the call failed, and is as it was if it didn't
pub record HasCause {T E : Type 0} (before now : ℕ) (result : Result T E) : Type 0 where
  pub later : before ≤ now
  pub failed : OnErr result (Rose before now)
  pub steady : OnOk result (now ≡ before)
