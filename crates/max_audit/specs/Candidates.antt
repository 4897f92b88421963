-- The finitely many answers that stand for all, as a list.
use Rattle.std.specs.Prelude.{◌≡◌, ◌↔◌, ◌⊎◌, ℕ, ◌+◌, ◌<◌, ◌^◌, ℤ, pos, neg_ℤ, ◌-ℤ◌, ◌<ℤ◌, ◌≤ℤ◌, List, [], length, slice_index_or}
use Rattle.std.specs.List.{Contains, AllByRecursion}
use Rattle.audit_types.specs.Column.{Answer, IsOneOf}
use Rattle.audit_types.specs.Extremes.{IsCandidate}

-- all candidates, in ascending order without repeats
pub record AreCandidates (answers : List Answer) (list : List ℤ) : Type 0 where
  pub ascending : (k : ℕ) → k + 1 < length list → slice_index_or list k (pos 0) <ℤ slice_index_or list (k + 1) (pos 0)
  pub each : (a : ℤ) → Contains list a ↔ IsCandidate answers a

-- the number below all answers, and 0 if there is none
abbrev pub IsBelowAll : List Answer → ℤ → Type 0
IsBelowAll answers x = ((answers ≡ []) × (x ≡ pos 0))
    ⊎ ((a : Answer) × IsOneOf a answers × AllByRecursion (λ b. a.value ≤ℤ b.value) answers × (x ≡ a.value -ℤ pos 1))

-- a number of 64 bits, or next to one
pub record IsNearRange (x : ℤ) : Type 0 where
  pub low : neg_ℤ (pos (2 ^ 63 + 1)) ≤ℤ x
  pub high : x ≤ℤ pos (2 ^ 63)
