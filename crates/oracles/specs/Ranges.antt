-- What a small input is: numbers and sets that the plain programs can be run on.
use Rattle.std.specs.Prelude.{◌≡◌, ℕ, ◌<◌, ◌≤◌, ℤ, List, unsigned_abs}
use Rattle.std.specs.List.{AllByRecursion}
use Rattle.audit_types.specs.Limits.{most_number}
use Rattle.audit_types.specs.declared.records.Answered.{Answered}

-- numbers of a size that a table may have
abbrev pub AreInRange : List ℤ → Type 0
AreInRange numbers = AllByRecursion (λ x. unsigned_abs x ≤ most_number) numbers

-- records over tables of n rows
abbrev pub AreOver : ℕ → List Answered → Type 0
AreOver n history = AllByRecursion (λ r. r.rows.n ≡ n) history

-- records over tables that have the row
abbrev pub HaveRow : ℕ → List Answered → Type 0
HaveRow row history = AllByRecursion (λ r. row < r.rows.n) history
