-- Which records of a history say something that the records before them didn't.
use Rattle.std.specs.Prelude.{◌≡◌, ℕ, ℤ, ◌≤ℤ◌, true, List, [], ◌∷◌, ◌++◌, Option, Some}
use Rattle.audit_types.specs.declared.shapes.Shape.{Shape}
use Rattle.audit_types.specs.declared.records.Answered.{Answered}
use Rattle.audit_types.specs.Rows.{has_row}
use Rattle.audit_types.specs.Truth.{truth}
use Rattle.audit_types.specs.Column.{Known, Answer, Agrees}
use Rattle.audit_types.specs.Extremes.{upper_bound}
use Rattle.audit_types.specs.Limits.{most_rows, most_width}
use Rattle.audit_types.specs.Headcount.{one_person_each}
use Rattle.audit_types.specs.History.{Protection, answer_in, known_of, setting_of}
use Rattle.max_bounds.specs.Outside.{HasExtremesWithin}

-- every list that gives the answers gives this one too
abbrev pub IsImplied : Known → Answer → Type 0
IsImplied known a = (w : List ℤ) → Agrees known w → truth known.kind w a.rows ≡ a.value

-- one person stands behind each row, none of them asks, and no group is protected
abbrev pub no_groups : Protection
no_groups = record { groups = []; people = one_person_each; width = most_width; reach = most_rows }

-- every list that agrees with the records before it, on its column, gives the record's answer. What is guarded doesn't matter
abbrev pub IsImpliedBy : Shape → List Answered → Answered → Type 0
IsImpliedBy shape before r = IsImplied (known_of (setting_of shape no_groups) before r.column) (answer_in r)

-- what is kept of a history: of none nothing; a record that those before it imply is left out, and every other one stays
pub data IsKeptOf (shape : Shape) : List Answered → List Answered → Type 0 where
  none : IsKeptOf shape [] []
  left_out : {before kept : List Answered} (r : Answered) → IsKeptOf shape before kept → IsImpliedBy shape before r → IsKeptOf shape (before ++ r ∷ []) kept
  stays : {before kept : List Answered} (r : Answered) → IsKeptOf shape before kept → ¬ (IsImpliedBy shape before r) → IsKeptOf shape (before ++ r ∷ []) (kept ++ r ∷ [])

-- ---- how it shows of a maximum

-- there is a bound, and it is at most the answer
abbrev pub IsAtMost : Option ℤ → ℤ → Type 0
IsAtMost bound answer = (b : ℤ) × (bound ≡ Some b) × (b ≤ℤ answer)

-- the bound of each row of the set is at most the answer
abbrev pub IsBounded : List Answer → List ℕ → ℤ → Type 0
IsBounded answers rows answer = (r : ℕ) → has_row rows r ≡ true → IsAtMost (upper_bound answers r) answer

-- no number of the set can be above the answer, and one has to reach it: the bound of each row is at most the answer, and an
-- earlier answer of the same number has all its extreme rows in the set
pub record IsForced (answers : List Answer) (a : Answer) : Type 0 where
  pub bounded : IsBounded answers a.rows a.value
  pub reached : HasExtremesWithin answers a.rows a.value
