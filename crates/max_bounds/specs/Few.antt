-- When some answer to a question would leave few people behind the extreme rows of some answer, told from the extreme rows of the answers before it.
use Rattle.std.specs.Prelude.{◌≡◌, ◌≢◌, ◌⊎◌, ℕ, ℤ, ◌<ℤ◌, Bool, true, false, not, int_lt, List, [], Option, Some, None}
use Rattle.std.specs.List.{filter}
use Rattle.audit_types.specs.Headcount.{Headcount, AreFew}
use Rattle.audit_types.specs.Rows.{has_row}
use Rattle.audit_types.specs.Column.{Answer, IsOneOf}
use Rattle.audit_types.specs.Extremes.{upper_bound, extremes, IsConsistent}
use Rattle.max_bounds.specs.Outside.{outside}
use Rattle.max_bounds.specs.declared.few.Left.{Left}
use Rattle.max_bounds.specs.declared.few.Left.TheVariants.{Nothing, Few, Enough}

-- few people stand behind the extreme rows of some answer
abbrev pub HasFewPeople : Headcount → List Answer → Type 0
HasFewPeople people answers = (a : Answer) × IsOneOf a answers × AreFew people [] (extremes answers a)

-- whether a bound is below another; a row without a bound stands above all
abbrev pub is_below_bound : Option ℤ → Option ℤ → Bool
is_below_bound None bound = false
is_below_bound (Some b) None = true
is_below_bound (Some b) (Some c) = int_lt b c

-- the rows of the set whose bound isn't below that of a row
abbrev pub not_below : (ℕ → Option ℤ) → List ℕ → ℕ → List ℕ
not_below bound rows r = filter (λ q. not (is_below_bound (bound q) (bound r))) rows

-- few people stand behind those rows of the set, one of its rows among them, whose bounds aren't below that row's
abbrev pub HasFewHighest : Headcount → (ℕ → Option ℤ) → List ℕ → Type 0
HasFewHighest people bound rows = (r : ℕ) × (has_row rows r ≡ true) × AreFew people [] (not_below bound rows r)

-- of sets with their answers: of one set rows, of few people, are outside the question's, and each set that lies there whole has a lower answer
pub record IsNearlyHeld (people : Headcount) (extreme_rows : Answer → List ℕ) (answers : List Answer) (rows : List ℕ) (a : Answer) : Type 0 where
  pub one : IsOneOf a answers
  pub some_left : outside rows (extreme_rows a) ≢ []
  pub few_left : AreFew people [] (outside rows (extreme_rows a))
  pub lower : (b : Answer) → IsOneOf b answers → outside rows (extreme_rows b) ≡ [] → b.value <ℤ a.value

-- some set is
abbrev pub HasNearlyHeld : Headcount → (Answer → List ℕ) → List Answer → List ℕ → Type 0
HasNearlyHeld people extreme_rows answers rows = (a : Answer) × IsNearlyHeld people extreme_rows answers rows a

-- each answer has an extreme row; and few people stand behind those of some answer, or behind the highest rows of the set, or behind those that the set
-- leaves of some answer while each answer that loses all is lower
pub record IsFewByExtremes (people : Headcount) (answers : List Answer) (rows : List ℕ) : Type 0 where
  pub consistent : IsConsistent answers
  pub cause : HasFewPeople people answers ⊎ (HasFewHighest people (upper_bound answers) rows ⊎ HasNearlyHeld people (extremes answers) answers rows)

-- what is left of a set: no row, rows of few people, or others
abbrev pub IsLeft : Headcount → List ℕ → Left → Type 0
IsLeft people rows Nothing = rows ≡ []
IsLeft people rows Few = (rows ≢ []) × AreFew people [] rows
IsLeft people rows Enough = (rows ≢ []) × ¬ (AreFew people [] rows)
