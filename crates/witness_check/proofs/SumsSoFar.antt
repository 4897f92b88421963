-- A walk that adds up numbers.
use Rattle.std.proofs.Common.{◌≡◌, ℕ, zero, suc, ◌+◌, ◌*◌, ◌^◌, ◌<◌, ◌≤◌, ℤ, pos, List, [], ◌∷◌, length, get_or, arith, ap, ◌∙◌, to_z, of_z}
use Rattle.std.specs.Prelude.{◌+ℤ◌, unsigned_abs, FitsSigned}
use Rattle.std.specs.Int.{w128}
use Rattle.std.specs.List.{AllByRecursion}
use Rattle.std.proofs.lemmas.Int.{ints, to_z-of_z, fits_signed_from_abs}
use Rattle.std.proofs.Math.IntN.{+ℤ_idl}
use Rattle.audit_types.specs.Limits.{most_rows}
use Rattle.audit_types.specs.Rows.{Rows, AreRows}
use Rattle.audit_types.specs.RowLaws.{length-rows}
use Rattle.audit_types.specs.Numbers.{size_of_sum}
use Rattle.audit_types.specs.FilteredRows.{rows_within}
use Rattle.audit_types.specs.Truth.{number_at, sum_over}
use Rattle.audit_types.specs.Direction.{IsSmall}
use Rattle.witness_check.specs.Directions.{HasZeroSums, lists_of}

-- the sum so far leads to that of all rows, and is small enough for those that are left
pub record IsSumSoFar (w : List ℤ) (rows rest : List ℕ) (sum : ℤ) : Type 0 where
  pub within : AllByRecursion (λ q. q < length w) rest
  pub total : sum +ℤ sum_over w rest ≡ sum_over w rows
  pub size : unsigned_abs sum + 2 ^ 112 * length rest ≤ 2 ^ 112 * most_rows

small_at : (w : List ℤ) (q : ℕ) → IsSmall w → unsigned_abs (number_at w q) ≤ 2 ^ 112
small_at [] q h = omega arith
small_at (x ∷ w) zero h = h.0
small_at (x ∷ w) (suc q) h = small_at w q h.1

pub sum_begins : (w : List ℤ) (n : ℕ) (rows : List ℕ) → AreRows n rows → n ≤ most_rows → n ≤ length w → IsSumSoFar w rows rows (pos 0)
sum_begins w n rows are few most = record {
  within = rows_within 0 n (length w) rows most are;
  total = +ℤ_idl (sum_over w rows);
  size = let length_within = length-rows n rows are in omega arith;
}

pub sum_step : (w : List ℤ) (rows : List ℕ) (q : ℕ) (rest : List ℕ) (sum : ℤ) → IsSmall w → IsSumSoFar w rows (q ∷ rest) sum →
    IsSumSoFar w rows rest (sum +ℤ number_at w q)
sum_step w rows q rest sum small h = record {
  within = h.within.1;
  total = let whole = h.total in omega (arith, ints);
  size =
      let before = h.size in
      let here = small_at w q small in
      let added = size_of_sum sum (number_at w q) (unsigned_abs sum) (2 ^ 112) (omega arith) here in
      omega arith;
}

-- the next sum is far within 128 bits
pub sum_fits : (w : List ℤ) (rows : List ℕ) (q : ℕ) (rest : List ℕ) (sum : ℤ) → IsSmall w → IsSumSoFar w rows (q ∷ rest) sum →
    unsigned_abs (sum +ℤ number_at w q) ≤ 2 ^ 112 * most_rows
sum_fits w rows q rest sum small h = let next = (sum_step w rows q rest sum small h).size in omega arith

-- what the machine's sum stands for
pub next_is : (sum x : ℤ) → FitsSigned w128 x → unsigned_abs (sum +ℤ x) ≤ 2 ^ 112 * most_rows →
    to_z w128 (of_z w128 (sum +ℤ to_z w128 (of_z w128 x))) ≡ sum +ℤ x
next_is sum x fits small =
    ap (λ z. to_z w128 (of_z w128 (sum +ℤ z))) (to_z-of_z w128 x fits)
    ∙ to_z-of_z w128 (sum +ℤ x) (fits_signed_from_abs w128 (sum +ℤ x) (omega arith))

-- what is true over all sets is true over each
pub zero_at : (w : List ℤ) (sets : List Rows) (k : ℕ) (set : Rows) → k < length sets → set ≡ get_or sets k set → HasZeroSums w (lists_of sets) →
    sum_over w set.list ≡ pos 0
zero_at w [] k set within e all = absurd (omega arith)
zero_at w (s ∷ sets) zero set within e all = ap (λ (x : Rows). sum_over w x.list) e ∙ all.0
zero_at w (s ∷ sets) (suc k) set within e all = zero_at w sets k set (omega arith) e all.1
