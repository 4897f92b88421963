-- Upper bounds and extreme rows of answered maxima.
use Rattle.std.specs.Prelude.{◌≡◌, ℕ, ℤ, ◌<◌, Bool, false, cond, List, [], ◌∷◌, length, Option, Some, None, pos, ◌+ℤ◌, ◌-ℤ◌, ◌≤ℤ◌}
use Rattle.std.specs.List.{filter, AllByRecursion}
use Rattle.std.specs.Int.{int_min}
use Rattle.std.specs.Ordering.{int_eq}
use Rattle.audit_types.specs.Rows.{has_row, IsLeast}
use Rattle.audit_types.specs.Column.{Answer, IsOneOf}

-- the least of a number and a bound
abbrev pub least_of : ℤ → Option ℤ → ℤ
least_of a None = a
least_of a (Some b) = int_min a b

-- the least answer among the sets that hold the row
abbrev pub upper_bound : List Answer → ℕ → Option ℤ
upper_bound [] r = None
upper_bound (a ∷ answers) r = cond (has_row a.rows r) (Some (least_of a.value (upper_bound answers r))) (upper_bound answers r)

-- whether a bound is this number
abbrev pub is_bound : Option ℤ → ℤ → Bool
is_bound None a = false
is_bound (Some b) a = int_eq b a

-- the rows of an answer whose bound it is
abbrev pub extremes : List Answer → Answer → List ℕ
extremes answers a = filter (λ r. is_bound (upper_bound answers r) a.value) a.rows

-- each answer has an extreme row
abbrev pub IsConsistent : List Answer → Type 0
IsConsistent answers = AllByRecursion (λ a. 0 < length (extremes answers a)) answers

-- the row is the only extreme row of some answer
abbrev pub IsLone : List Answer → ℕ → Type 0
IsLone answers r = (a : Answer) × IsOneOf a answers × (extremes answers a ≡ r ∷ [])

-- the least lone row, if there is one
abbrev pub IsLeastLone : List Answer → Option ℕ → Type 0
IsLeastLone answers least = IsLeast (IsLone answers) least

-- an answer worth trying: an earlier one, the number above it, or the number below all
pub data IsCandidate : List Answer → ℤ → Type 0 where
  first : IsCandidate [] (pos 0)
  equal : {answers : List Answer} (a : Answer) → IsOneOf a answers → IsCandidate answers a.value
  above : {answers : List Answer} (a : Answer) → IsOneOf a answers → IsCandidate answers (a.value +ℤ pos 1)
  below : {answers : List Answer} (a : Answer) → IsOneOf a answers → AllByRecursion (λ b. a.value ≤ℤ b.value) answers → IsCandidate answers (a.value -ℤ pos 1)
