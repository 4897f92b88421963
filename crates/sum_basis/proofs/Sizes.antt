-- How large the entries of rows become.
use Rattle.std.proofs.Common.{ℕ, zero, suc, ◌≤◌, ◌^◌, ℤ, List, [], ◌∷◌, arith}
use Rattle.std.specs.Prelude.{unsigned_abs}
use Rattle.audit_types.specs.Truth.{number_at}
use Rattle.audit_types.specs.ListLaws.{all-weaker}
use Rattle.sum_basis.specs.Elimination.{IsWithin, IsSmall, IsFormWithin, IsSmallForm}

-- each number of a row within a width, and 0 past its end
pub within_at : (width : ℕ) (row : List ℤ) (j : ℕ) → IsWithin width row → unsigned_abs (number_at row j) ≤ width
within_at width [] j h = omega arith
within_at width (x ∷ row) zero h = h.0
within_at width (x ∷ row) (suc j) h = within_at width row j h.1

-- of a row of small entries
pub small_at : (row : List ℤ) (j : ℕ) → IsSmall row → unsigned_abs (number_at row j) ≤ 2 ^ 56
small_at row j h = within_at (2 ^ 56) row j h

-- what is within a width is within any greater one
pub within_more : (width more : ℕ) (row : List ℤ) → width ≤ more → IsWithin width row → IsWithin more row
within_more width more row less = all-weaker (λ x. unsigned_abs x ≤ width) (λ x. unsigned_abs x ≤ more) (λ x at. omega arith) row

-- a form within a width that fits has small entries
pub small_form : (width n : ℕ) (form : List (List ℤ)) → width ≤ 2 ^ 56 → IsFormWithin width n form → IsSmallForm n form
small_form width n form most f = record {
  primitive = f.primitive;
  echelon = f.echelon;
  entries = all-weaker (IsWithin width) IsSmall (λ row. within_more width (2 ^ 56) row most) form f.entries;
}
