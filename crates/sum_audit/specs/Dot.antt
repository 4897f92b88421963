-- The dot product of a row with a list of numbers.
use Rattle.std.specs.Prelude.{◌≡◌, ℕ, ℤ, pos, ◌*ℤ◌, List, length}
use Rattle.std.specs.List.{AllByRecursion}
use Rattle.audit_types.specs.Truth.{number_at}
use Rattle.audit_types.specs.Totals.{total}

-- the sum over the columns below n of the row's entry times the number
abbrev pub dot : ℕ → (ℕ → ℤ) → List ℤ → ℤ
dot n row d = total (λ j. row j *ℤ number_at d j) n

-- n numbers whose dot product with each row is 0
pub record IsOrthogonal (n : ℕ) (rows : List (List ℤ)) (d : List ℤ) : Type 0 where
  pub one_each : length d ≡ n
  pub zeros : AllByRecursion (λ row. dot n (number_at row) d ≡ pos 0) rows
