-- What askers can work out of answered maxima, each of whom may know a number of the column, as her own.
use Rattle.std.specs.Prelude.{◌≡◌, ◌≢◌, ◌⊎◌, ℕ, ◌<◌, ℤ, ◌≤ℤ◌, true, false, List, []}
use Rattle.std.specs.List.{AllByRecursion}
use Rattle.audit_types.specs.Headcount.{Headcount, AreFew}
use Rattle.audit_types.specs.Rows.{AreRows, has_row}
use Rattle.audit_types.specs.Truth.{number_at}
use Rattle.audit_types.specs.Column.{Known, Answer, Agrees, AreOwn, AreSameAt, IsGuarded, IsWellFormed, known_max, guarding}
use Rattle.max_bounds.specs.Few.{HasFewPeople}

-- another list gives the same answers, has the same numbers at these rows, and differs in this
pub record IsOpenTo (known : Known) (own : List ℕ) (w : List ℤ) (value : List ℤ → ℤ) : Type 0 where
  pub other : List ℤ
  pub agrees : Agrees known other
  pub same : AreSameAt own w other
  pub differs : value other ≢ value w

-- whatever the numbers are, few people stand behind the extreme rows of some answer, or all that is guarded is open to each asker
abbrev pub FewOrOpen : Type 0
FewOrOpen =
    (n : ℕ) (answers : List Answer) (people : Headcount) (w : List ℤ) → IsWellFormed (known_max n answers) → Agrees (known_max n answers) w →
    HasFewPeople people answers
    ⊎ ((own : List ℕ) (value : List ℤ → ℤ) → AreOwn (guarding (known_max n answers) people []) own → IsGuarded (guarding (known_max n answers) people []) own value →
    IsOpenTo (guarding (known_max n answers) people []) own w value)

-- no number is above this one, and it is above no answer over a set with one of these rows
pub record IsFreeFor (n : ℕ) (answers : List Answer) (w : List ℤ) (rows : List ℕ) (high x : ℤ) : Type 0 where
  pub under : (r : ℕ) → r < n → number_at w r ≤ℤ high
  pub within : x ≤ℤ high
  pub below : AllByRecursion (λ a. (r : ℕ) → has_row rows r ≡ true → has_row a.rows r ≡ true → x ≤ℤ a.value) answers

-- another list gives the same answers, has the same numbers at the own rows, x at these, and at the others no less and nothing above the high end
pub record IsRaised (n : ℕ) (answers : List Answer) (w : List ℤ) (own rows : List ℕ) (high x : ℤ) : Type 0 where
  pub other : List ℤ
  pub agrees : Agrees (known_max n answers) other
  pub same : AreSameAt own w other
  pub here : (r : ℕ) → r < n → has_row rows r ≡ true → number_at other r ≡ x
  pub others : (r : ℕ) → r < n → has_row rows r ≡ false → (number_at w r ≤ℤ number_at other r) × (number_at other r ≤ℤ high)

-- whatever the numbers are, few people stand behind the extreme rows of some answer, or other rows of few people may have any number up to a high
-- end, which no number is above, and to each answer over a set with one of them
abbrev pub FewOrAny : Type 0
FewOrAny =
    (n : ℕ) (answers : List Answer) (people : Headcount) (w : List ℤ) (own rows : List ℕ) (high x : ℤ) → IsWellFormed (known_max n answers) →
    Agrees (known_max n answers) w → AreOwn (guarding (known_max n answers) people []) own → AreRows n rows → AllByRecursion (λ q. has_row rows q ≡ false) own →
    AreFew people own rows → IsFreeFor n answers w rows high x → HasFewPeople people answers ⊎ IsRaised n answers w own rows high x
