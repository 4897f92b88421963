-- The laws of answered maxima: when they are possible, which rows they fix, and when a question is dangerous.
use Rattle.std.specs.Prelude.{◌≡◌, ◌≢◌, ◌↔◌, ◌⊎◌, ℕ, ◌<◌, ℤ, List, [], Option}
use Rattle.audit_types.specs.Rows.{AreRows, IsLeast}
use Rattle.audit_types.specs.Truth.{number_at}
use Rattle.audit_types.specs.Column.{Known, Answer, Agrees, IsWellFormed, IsPossible, IsDangerous, known_max, guarding, with_answer}
use Rattle.audit_types.specs.Extremes.{IsConsistent, IsLone, IsCandidate}
use Rattle.audit_types.specs.Headcount.{Headcount}
use Rattle.max_bounds.specs.Few.{HasFewPeople, IsFewByExtremes}
use Rattle.max_audit.specs.Witnesses.{highest, lowered_at}

-- answered maxima are possible exactly if each has an extreme row
abbrev pub PossibleByExtremes : Type 0
PossibleByExtremes = (n : ℕ) (answers : List Answer) → IsWellFormed (known_max n answers) →
    IsPossible (known_max n answers) ↔ IsConsistent answers

-- the number of row i is the same in all lists that agree
abbrev pub IsFixed : Known → ℕ → Type 0
IsFixed known i = (w v : List ℤ) → Agrees known w → Agrees known v → number_at v i ≡ number_at w i

-- the least row of the table that is fixed, if there is one
abbrev pub IsLeastFixed : Known → Option ℕ → Type 0
IsLeastFixed known least = IsLeast (λ i. (i < known.n) × IsFixed known i) least

-- if they are possible, exactly the lone rows are fixed
abbrev pub FixedByLoneRows : Type 0
FixedByLoneRows = (n : ℕ) (answers : List Answer) (i : ℕ) → IsWellFormed (known_max n answers) → IsPossible (known_max n answers) → i < n →
    IsFixed (known_max n answers) i ↔ IsLone answers i

-- if they are consistent, the list with each row at its bound agrees
abbrev pub HighestAgrees : Type 0
HighestAgrees = (n : ℕ) (answers : List Answer) → IsWellFormed (known_max n answers) → IsConsistent answers →
    Agrees (known_max n answers) (highest n answers)

-- and so does this list with one row less by one, unless the row is lone
abbrev pub LoneOrLowered : Type 0
LoneOrLowered = (n : ℕ) (answers : List Answer) (i : ℕ) → IsWellFormed (known_max n answers) → IsConsistent answers → i < n →
    IsLone answers i ⊎ Agrees (known_max n answers) (lowered_at (highest n answers) i)

-- a row is lone, or two lists that agree differ there
abbrev pub LoneOrFree : Type 0
LoneOrFree = (n : ℕ) (answers : List Answer) (i : ℕ) → IsWellFormed (known_max n answers) → IsConsistent answers → i < n →
    IsLone answers i ⊎ ((w : List ℤ) × (v : List ℤ) × Agrees (known_max n answers) w × Agrees (known_max n answers) v × (number_at v i ≢ number_at w i))

-- to the question on these rows this answer is possible, and few people would stand behind the extreme rows of some answer
pub record LeavesFewPeople (known : Known) (rows : List ℕ) (answer : ℤ) : Type 0 where
  pub possible : IsConsistent (with_answer known rows answer).answers
  pub few : HasFewPeople known.people (with_answer known rows answer).answers

-- a maximum is dangerous exactly if some answer to it leaves few people behind the extreme rows of some answer
abbrev pub DangerousByFewPeople : Type 0
DangerousByFewPeople = (n : ℕ) (answers : List Answer) (people : Headcount) (rows : List ℕ) → IsWellFormed (known_max n answers) → AreRows n rows → rows ≢ [] →
    IsDangerous (guarding (known_max n answers) people []) rows ↔ ((x : ℤ) × LeavesFewPeople (guarding (known_max n answers) people []) rows x)

-- a candidate that leaves few
pub record HasBadCandidate (known : Known) (rows : List ℕ) : Type 0 where
  pub answer : ℤ
  pub candidate : IsCandidate known.answers answer
  pub leaves : LeavesFewPeople known rows answer

-- a maximum is dangerous exactly if one of finitely many candidates is bad
abbrev pub DangerousByCandidates : Type 0
DangerousByCandidates = (n : ℕ) (answers : List Answer) (people : Headcount) (rows : List ℕ) → IsWellFormed (known_max n answers) → AreRows n rows → rows ≢ [] →
    IsDangerous (guarding (known_max n answers) people []) rows ↔ HasBadCandidate (guarding (known_max n answers) people []) rows

-- a maximum is dangerous exactly if the extreme rows of the answers before it tell so, with no number beyond these answers
abbrev pub DangerousByExtremes : Type 0
DangerousByExtremes = (n : ℕ) (answers : List Answer) (people : Headcount) (rows : List ℕ) → IsWellFormed (known_max n answers) → AreRows n rows → rows ≢ [] →
    IsDangerous (guarding (known_max n answers) people []) rows ↔ IsFewByExtremes people answers rows
