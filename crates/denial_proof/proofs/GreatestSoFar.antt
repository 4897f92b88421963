-- A walk that keeps the greatest number so far.
use Rattle.std.proofs.Common.{◌≡◌, ◌<◌, ◌≤◌, ℤ, ℕ, List, ◌∷◌, length, map, sym, ap, subst}
use Rattle.std.specs.Int.{int_max}
use Rattle.std.specs.List.{AllByRecursion, fold}
use Rattle.audit_types.specs.Rows.{AreRows}
use Rattle.audit_types.specs.FilteredRows.{rows_within}
use Rattle.audit_types.specs.Truth.{number_at, greatest_over}

-- the rows that are left have numbers, and lead from the greatest so far to that of all
pub record IsGreatestSoFar (w : List ℤ) (rows rest : List ℕ) (so_far : ℤ) : Type 0 where
  pub within : AllByRecursion (λ q. q < length w) rest
  pub leads : fold int_max so_far (map (number_at w) rest) ≡ greatest_over w rows

pub greatest_begins : (w : List ℤ) (n : ℕ) (rows rest : List ℕ) (first : ℕ) → AreRows n rows → n ≤ length w → rows ≡ first ∷ rest →
    IsGreatestSoFar w rows rest (number_at w first)
greatest_begins w n rows rest first are most is = record {
  within = (subst (AllByRecursion (λ q. q < length w)) is (rows_within 0 n (length w) rows most are)).1;
  leads = ap (greatest_over w) (sym is);
}
