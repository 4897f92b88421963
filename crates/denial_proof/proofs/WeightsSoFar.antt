-- A walk over terms that adds up what their sets add to a row.
use Rattle.std.proofs.Common.{◌≡◌, ℕ, ◌+◌, ◌*◌, ◌^◌, ◌<◌, ◌≤◌, ℤ, pos, List, ◌∷◌, length, drop, get_or, suc, ap, ◌∙◌, arith, add-one, drop-cons, to_z, of_z}
use Rattle.std.specs.Prelude.{◌+ℤ◌, map, unsigned_abs, FitsSigned}
use Rattle.std.specs.Int.{w128}
use Rattle.std.proofs.lemmas.Int.{ints, to_z-of_z, fits_signed_from_abs}
use Rattle.audit_types.specs.Limits.{most_rows}
use Rattle.audit_types.specs.Numbers.{size_of_sum}
use Rattle.audit_types.specs.declared.records.Answered.{Answered}
use Rattle.denial_proof.specs.declared.proof_parts.Term.{Term}
use Rattle.denial_proof.specs.Weights.{adds, rows_at, sum_at, weight_of, weights_of}

-- the sum so far leads to that of all sets, and is small enough for those that are left
pub record IsSumSoFar (history : List Answered) (rows : List ℕ) (own : ℤ) (terms : List Term) (row i : ℕ) (sum : ℤ) : Type 0 where
  pub leads : sum +ℤ sum_at (map (weight_of history) (drop i terms)) row ≡ sum_at (weights_of history rows own terms) row
  pub size : unsigned_abs sum ≤ 2 ^ 112 * (i + 1)

-- the term at a place
abbrev pub term_at : List Term → ℕ → Term
term_at terms i = get_or terms i (record { place = 0; times = pos 0 })

-- one term more
pub sum_step : (history : List Answered) (rows : List ℕ) (own : ℤ) (terms : List Term) (row i : ℕ) (sum added : ℤ) → i < length terms →
    added ≡ adds (rows_at history (term_at terms i).place) (term_at terms i).times row → unsigned_abs added ≤ 2 ^ 112 →
    IsSumSoFar history rows own terms row i sum → IsSumSoFar history rows own terms row (i + 1) (sum +ℤ added)
sum_step history rows own terms row i sum added within is small before = record {
  leads =
      let spread : drop i terms ≡ term_at terms i ∷ drop (suc i) terms = drop-cons terms i (record { place = 0; times = pos 0 }) within in
      let there = rw spread at before.leads in
      rw add-one (omega (arith, ints));
  size = let so_far = before.size in let more = size_of_sum sum added (2 ^ 112 * (i + 1)) (2 ^ 112) so_far small in omega arith;
}

-- the next sum is far within 128 bits
pub sum_fits : (history : List Answered) (rows : List ℕ) (own : ℤ) (terms : List Term) (row i : ℕ) (sum added : ℤ) → i < most_rows →
    unsigned_abs added ≤ 2 ^ 112 → IsSumSoFar history rows own terms row i sum → unsigned_abs (sum +ℤ added) ≤ 2 ^ 112 * (most_rows + 1)
sum_fits history rows own terms row i sum added few small before =
    let so_far = before.size in
    let more = size_of_sum sum added (2 ^ 112 * (i + 1)) (2 ^ 112) so_far small in
    omega arith

-- what the machine's sum stands for
pub next_is : (sum x : ℤ) → FitsSigned w128 x → unsigned_abs (sum +ℤ x) ≤ 2 ^ 112 * (most_rows + 1) →
    to_z w128 (of_z w128 (sum +ℤ to_z w128 (of_z w128 x))) ≡ sum +ℤ x
next_is sum x fits small =
    ap (λ z. to_z w128 (of_z w128 (sum +ℤ z))) (to_z-of_z w128 x fits)
    ∙ to_z-of_z w128 (sum +ℤ x) (fits_signed_from_abs w128 (sum +ℤ x) (omega arith))
