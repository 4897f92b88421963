-- A walk that keeps the greatest number so far.
use Rattle.std.proofs.Common.{◌≡◌, ℕ, ◌<◌, ◌≤◌, ℤ, List, [], ◌∷◌, map, length, refl, Option, Some, None}
use Rattle.std.specs.Int.{int_max}
use Rattle.std.specs.List.{AllByRecursion, fold}
use Rattle.audit_types.specs.Rows.{AreRows}
use Rattle.audit_types.specs.Truth.{number_at}
use Rattle.witness_check.specs.Pairs.{greater_of, greatest_of}
use Rattle.audit_types.specs.FilteredRows.{rows_within}

-- the greatest of what was seen and the numbers of the rows that are left
abbrev pub greatest_with : List ℤ → Option ℤ → List ℕ → Option ℤ
greatest_with w so_far [] = so_far
greatest_with w so_far (r ∷ rows) = greatest_with w (Some (greater_of so_far (number_at w r))) rows

from_some : (w : List ℤ) (g : ℤ) (rows : List ℕ) → greatest_with w (Some g) rows ≡ Some (fold int_max g (map (number_at w) rows))
from_some w g [] = refl
from_some w g (r ∷ rows) = from_some w (int_max g (number_at w r)) rows

from_none : (w : List ℤ) (rows : List ℕ) → greatest_with w None rows ≡ greatest_of w rows
from_none w [] = refl
from_none w (r ∷ rows) = from_some w (number_at w r) rows

-- the rows that are left have numbers, and lead from the greatest so far to that of all
pub record IsGreatestSoFar (w : List ℤ) (rows rest : List ℕ) (so_far : Option ℤ) : Type 0 where
  pub within : AllByRecursion (λ q. q < length w) rest
  pub leads : greatest_with w so_far rest ≡ greatest_of w rows

pub greatest_begins : (w : List ℤ) (n : ℕ) (rows : List ℕ) → AreRows n rows → n ≤ length w → IsGreatestSoFar w rows rows None
greatest_begins w n rows are most = record { within = rows_within 0 n (length w) rows most are; leads = from_none w rows }

pub greatest_step : (w : List ℤ) (rows : List ℕ) (q : ℕ) (rest : List ℕ) (so_far : Option ℤ) → IsGreatestSoFar w rows (q ∷ rest) so_far →
    IsGreatestSoFar w rows rest (Some (greater_of so_far (number_at w q)))
greatest_step w rows q rest so_far h = record { within = h.within.1; leads = h.leads }
