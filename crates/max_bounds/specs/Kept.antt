-- What is kept of answered maxima beside the answers.
use Rattle.std.specs.Prelude.{◌≡◌, ℕ, ◌<◌, ◌≤◌, ℤ, ◌<ℤ◌, ◌≤ℤ◌, Bool, true, false, not, ◌&&◌, int_lt, List, [], ◌∷◌, map, length, take, drop, Option, Some, None, min, cond}
use Rattle.audit_types.specs.Limits.{most_rows}
use Rattle.std.specs.List.{filter, AllByRecursion}
use Rattle.audit_types.specs.Rows.{AreRows, has_row}
use Rattle.audit_types.specs.Column.{Answer, IsOneOf}
use Rattle.audit_types.specs.Extremes.{upper_bound, is_bound, extremes}
use Rattle.max_bounds.specs.Maxima.{answers_of}
use Rattle.max_bounds.specs.Reaching.{bound_at, reaching}
use Rattle.max_bounds.specs.Outside.{outside}
use Rattle.max_bounds.specs.Marks.{AreMarked}
use Rattle.max_bounds.specs.declared.answered.AnsweredMax.{AnsweredMax}
use Rattle.max_bounds.specs.declared.bounds.Bounds.TheInside.{Inside}
use Rattle.max_bounds.specs.declared.counts.Range.{Range}
use Rattle.max_bounds.specs.declared.high_rows.HighRows.{HighRows}

-- how many extreme rows each answer has
abbrev pub extreme_counts : List Answer → List ℕ
extreme_counts answers = map (λ a. length (extremes answers a)) answers

-- how many rows of each set reach their bound
abbrev pub reaching_counts : (ℕ → Option ℤ) → List Answer → List ℕ
reaching_counts bound answers = map (λ a. length (reaching bound a.rows a.value)) answers

-- the least count, and the largest 16-bit number if there is none
abbrev pub fewest_of : List ℕ → ℕ
fewest_of [] = 65535
fewest_of (c ∷ counts) = min c (fewest_of counts)

-- no bound, or one that is not below the answer
abbrev pub is_at_least : ℤ → Option ℤ → Bool
is_at_least answer None = true
is_at_least answer (Some b) = not (int_lt b answer)

-- a bound above the answer
abbrev pub is_above : ℤ → Option ℤ → Bool
is_above answer None = false
is_above answer (Some b) = int_lt answer b

-- the rows of a set that an answer has for its bound, once it joins the others
abbrev pub rows_at_least : (ℕ → Option ℤ) → ℤ → List ℕ → List ℕ
rows_at_least bound answer rows = filter (λ r. is_at_least answer (bound r)) rows

-- the rows of a set whose bound the answer lowers
abbrev pub rows_above : (ℕ → Option ℤ) → ℤ → List ℕ → List ℕ
rows_above bound answer rows = filter (λ r. is_above answer (bound r)) rows

-- each of these rows has the answer for its bound
abbrev pub AreSettled : (ℕ → Option ℤ) → ℤ → List ℕ → Type 0
AreSettled bound answer rows = (r : ℕ) → has_row rows r ≡ true → bound r ≡ Some answer

-- these rows of n have each one whose bound is at least the cut
pub record IsHigh (n : ℕ) (bound : ℕ → Option ℤ) (high : HighRows) : Type 0 where
  pub same_n : high.rows.n ≡ n
  pub covers : (r : ℕ) → r < n → is_at_least high.cut (bound r) ≡ true → has_row high.rows.list r ≡ true

-- these rows have bounds, none of them above the answer
abbrev pub AreLow : (ℕ → Option ℤ) → ℤ → List ℕ → Type 0
AreLow bound answer rows = (r : ℕ) (cut : ℤ) → has_row rows r ≡ true → answer <ℤ cut → is_at_least cut (bound r) ≡ false

-- the rows of an answer that reach their bound and are among the falling ones
abbrev pub falls_of : (ℕ → Option ℤ) → List ℕ → Answer → List ℕ
falls_of bound falling a = filter (λ r. has_row a.rows r && is_bound (bound r) a.value) falling

-- the bounds of these rows are within two numbers
abbrev pub IsRange : (ℕ → Option ℤ) → List ℕ → Range → Type 0
IsRange bound rows range = (r : ℕ) (b : ℤ) → has_row rows r ≡ true → bound r ≡ Some b → (range.low ≤ℤ b) × (b ≤ℤ range.high)

-- the second range holds what the first does, and a bound
pub record Widens (before : Range) (bound : Option ℤ) (after : Range) : Type 0 where
  pub low : after.low ≤ℤ before.low
  pub high : before.high ≤ℤ after.high
  pub holds : (b : ℤ) → bound ≡ Some b → (after.low ≤ℤ b) × (b ≤ℤ after.high)

-- a set with a higher answer loses its rows in the new set
abbrev pub lowered_set : ℤ → List ℕ → Answer → Answer
lowered_set answer rows a = cond (int_lt answer a.value) (record { rows = outside rows a.rows; value = a.value }) a

-- of a set a question leaves the rows that are outside its own
abbrev pub left_of : List ℕ → Answer → List ℕ
left_of rows a = outside rows a.rows

-- answers that descend: none is above an earlier one
abbrev pub Descend : List Answer → Type 0
Descend [] = Unit {0}
Descend (a ∷ sets) = AllByRecursion (λ b. b.value ≤ℤ a.value) sets × Descend sets

-- at this place an answer goes among descending ones: after those above it
pub record IsPlaceOf (answer : ℤ) (least : List AnsweredMax) (place : ℕ) : Type 0 where
  pub front : AllByRecursion (λ b. answer <ℤ b.value) (answers_of (take place least))
  pub rest : AllByRecursion (λ b. b.value ≤ℤ answer) (answers_of (drop place least))

-- at this place the answers below one begin among descending ones
pub record IsEndOf (answer : ℤ) (least : List AnsweredMax) (place : ℕ) : Type 0 where
  pub front : AllByRecursion (λ b. answer ≤ℤ b.value) (answers_of (take place least))
  pub rest : AllByRecursion (λ b. b.value <ℤ answer) (answers_of (drop place least))

-- sets that stand for the extreme rows of all answers: each is those of an answer, and each answer has such a set of its value, with no other row
pub record AreLeast (extreme_rows : Answer → List ℕ) (answers sets : List Answer) : Type 0 where
  pub each : (e : Answer) → IsOneOf e sets → (a : Answer) × IsOneOf a answers × (a.value ≡ e.value) × (extreme_rows a ≡ e.rows)
  pub covered : (a : Answer) → IsOneOf a answers → (e : Answer) × IsOneOf e sets × (e.value ≡ a.value) × ((r : ℕ) → has_row e.rows r ≡ true → has_row (extreme_rows a) r ≡ true)

-- the counts, the least of them, and the least sets tell of the extreme rows of these answers
pub record TellsExtremes (extreme_rows : Answer → List ℕ) (answers : List Answer) (counts : List ℕ) (fewest : ℕ) (sets : List Answer) : Type 0 where
  pub counted : counts ≡ map (λ a. length (extreme_rows a)) answers
  pub fewest_is : fewest ≡ fewest_of counts
  pub are_least : AreLeast extreme_rows answers sets

-- what is true of the fields of all kept maxima
pub record IsKept (b : Inside) : Type 0 where
  pub at_most : b.n ≤ most_rows
  pub table : b.pairs.n ≡ b.n
  pub same_n : AllByRecursion (λ p. p.rows.n ≡ b.n) b.pairs.items
  pub are_rows : AllByRecursion (λ a. AreRows b.n a.rows) (answers_of b.pairs.items)
  pub one_each : length b.upper.items ≡ b.n
  pub bounds : (r : ℕ) → bound_at b.upper.items r ≡ upper_bound (answers_of b.pairs.items) r
  pub same_n_least : b.least.n ≡ b.n
  pub descend : Descend (answers_of b.least.items)
  pub marked : AreMarked b.least.items b.marks
  pub high : AllByRecursion (IsHigh b.n (bound_at b.upper.items)) b.high.items
  pub tells : TellsExtremes (extremes (answers_of b.pairs.items)) (answers_of b.pairs.items) b.counts.items b.fewest (answers_of b.least.items)
