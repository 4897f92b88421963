-- Numbers that lie far enough inside of their ranges stay in them if they are moved some times along a small direction, one way or the other.
use Rattle.std.proofs.Common.{◌≡◌, ◌≢◌, ℕ, zero, suc, ◌+◌, ◌*◌, ◌<◌, ◌≤◌, Bool, true, false, ℤ, pos, negsuc, List, get_or, refl, sym, ap, ◌∙◌, subst, arith}
use Rattle.std.specs.Prelude.{◌+ℤ◌, ◌-ℤ◌, ◌*ℤ◌, neg_ℤ, ◌≤ℤ◌, unsigned_abs}
use Rattle.std.specs.Int.{◌∣◌}
use Rattle.std.specs.List.{AllByRecursion, range_with_len}
use Rattle.std.proofs.lemmas.Int.{ints, unsigned_abs-mul}
use Rattle.std.proofs.lemmas.List.FromFn.{length-range_with_len, get_or-range_with_len}
use Rattle.std.proofs.Math.IntN.{*ℤ_comm, *ℤ-zero, pos-*ℤ-pos}
use Rattle.std.proofs.Math.Nat.{mul-le-mul_left, dvd-mul_right, le-mul_of_pos_right}
use Rattle.audit_types.specs.Truth.{is_zero, number_at, sum_over}
use Rattle.audit_types.specs.Numbers.{size_negated, zero_from_test, not_zero_from_test}
use Rattle.audit_types.specs.Extents.{places_from, at_places}
use Rattle.audit_types.specs.Products.{neg-times}
use Rattle.audit_types.specs.PrimitiveLines.{times, number_at-times}
use Rattle.audit_types.specs.ListLaws.{all-get_or}
use Rattle.sum_audit.specs.Shifts.{moved_by, number_at-moved_by, sum_over-moved_by, sum_over-times}
use Rattle.audit_core.specs.Ranges.{AreInside, AreNear}

-- ---- all rows of a table, and those of a list

module _ (P : ℕ → Type 0) where
  all_from : (low n : ℕ) → ((r : ℕ) → low ≤ r → r < low + n → P r) → AllByRecursion P (range_with_len low n)
  all_from low zero each = tt
  all_from low (suc n) each = (each low (omega arith) (omega arith), all_from (low + 1) n (λ r above below. each r (omega arith) (omega arith)))

  -- what holds of each row below n holds of all
  pub all_rows : (n : ℕ) → ((r : ℕ) → r < n → P r) → AllByRecursion P (range_with_len 0 n)
  all_rows n each = all_from 0 n (λ r above below. each r (omega arith))

  -- and back
  pub each_row : (n r : ℕ) → AllByRecursion P (range_with_len 0 n) → r < n → P r
  each_row n r all below =
      let is : get_or (range_with_len 0 n) r 0 ≡ r = get_or-range_with_len 0 n r 0 below ∙ omega arith in
      subst P is (all-get_or P (range_with_len 0 n) r 0 all (omega (arith, length-range_with_len 0 n)))

-- ---- how often a direction is taken

-- often enough that what it changes is higher by k or more
pub raises : (k : ℕ) (change : ℤ) → change ≢ pos 0 → (often : ℤ) × (unsigned_abs often ≡ k) × (pos k ≤ℤ (often *ℤ change))
raises k (pos zero) some = absurd (some refl)
raises k (pos (suc m)) some =
    let product = pos-*ℤ-pos k (suc m) in let more = le-mul_of_pos_right {m = suc m} k (omega arith) in (pos k, refl, omega (arith, ints))
raises k (negsuc m) some =
    let product = pos-*ℤ-pos (suc m) k in
    let turned = neg-times (pos k) (negsuc m) in
    let other = *ℤ_comm (pos k) (negsuc m) in
    let minus = neg-times (pos (suc m)) (pos k) in
    let more = le-mul_of_pos_right {m = suc m} k (omega arith) in
    (neg_ℤ (pos k), size_negated (pos k), omega (arith, ints))

-- and lower, the other way round
pub lowers : (k : ℕ) (often change : ℤ) → pos k ≤ℤ (often *ℤ change) → ((neg_ℤ often *ℤ change) +ℤ pos k) ≤ℤ pos 0
lowers k often change up = let turned = neg-times often change in omega (arith, ints)

-- ---- the numbers

-- a number so far inside stays in its range if it is changed by no more
stays : (low high x change : ℤ) (far : ℕ) → unsigned_abs change ≤ far → ((low +ℤ pos far) ≤ℤ x) × ((x +ℤ pos far) ≤ℤ high) →
    ((low +ℤ pos 0) ≤ℤ (x +ℤ change)) × (((x +ℤ change) +ℤ pos 0) ≤ℤ high)
stays low high x change far size inside = let first = inside.0 in let last = inside.1 in (omega (arith, ints), omega (arith, ints))

module _ (n most k : ℕ) (w d : List ℤ) (often : ℤ) (small : (r : ℕ) → unsigned_abs (number_at d r) ≤ most) (size : unsigned_abs often ≡ k) where
  abbrev pub moved : List ℤ
  moved = moved_by (times often d) w

  number_moved : (r : ℕ) → number_at moved r ≡ number_at w r +ℤ often *ℤ number_at d r
  number_moved r = number_at-moved_by (times often d) w r ∙ ap (λ z. number_at w r +ℤ z) (number_at-times often d r)

  size_of_change : (r : ℕ) → unsigned_abs (often *ℤ number_at d r) ≡ k * unsigned_abs (number_at d r)
  size_of_change r = unsigned_abs-mul often (number_at d r) ∙ ap (λ s. s * unsigned_abs (number_at d r)) size

  module _ (low high : ℕ → ℤ) (inside : AreInside low high 0 w (range_with_len 0 n)) (far : AreInside low high (k * most) w (places_from 0 d)) where
    stays_at : (r : ℕ) → r < n → (b : Bool) → is_zero (number_at d r) ≡ b →
        ((low r +ℤ pos 0) ≤ℤ (number_at w r +ℤ often *ℤ number_at d r)) × (((number_at w r +ℤ often *ℤ number_at d r) +ℤ pos 0) ≤ℤ high r)
    stays_at r below true none =
        let still = ap (λ z. often *ℤ z) (zero_from_test (number_at d r) none) ∙ *ℤ-zero often in
        stays (low r) (high r) (number_at w r) (often *ℤ number_at d r) 0 (omega (arith, ap unsigned_abs still)) (each_row _ n r inside below)
    stays_at r below false some =
        stays (low r) (high r) (number_at w r) (often *ℤ number_at d r) (k * most)
        (let least = mul-le-mul_left k (small r) in let is = size_of_change r in omega arith)
        (let P : ℕ → Type 0 = λ q. ((low q +ℤ pos (k * most)) ≤ℤ number_at w q) × ((number_at w q +ℤ pos (k * most)) ≤ℤ high q) in
        subst P (omega arith) (at_places P 0 d far r (not_zero_from_test (number_at d r) some)))

    pub near : AreNear low high k w (range_with_len 0 n) moved
    near = (
      all_rows _ n (λ r below. subst (λ z. ((low r +ℤ pos 0) ≤ℤ z) × ((z +ℤ pos 0) ≤ℤ high r)) (sym (number_moved r))
          (stays_at r below (is_zero (number_at d r)) refl)),
      all_rows _ n (λ r below.
          let between : number_at moved r -ℤ number_at w r ≡ often *ℤ number_at d r = let here = number_moved r in omega (arith, ints) in
          subst (λ m. k ∣ m) (sym (ap unsigned_abs between ∙ size_of_change r)) (dvd-mul_right k (unsigned_abs (number_at d r)))),
    )

  -- what becomes of a sum
  pub sum_moved : (u : List ℕ) → sum_over moved u ≡ sum_over w u +ℤ often *ℤ sum_over d u
  sum_moved u = sum_over-moved_by (times often d) w u ∙ ap (λ z. sum_over w u +ℤ z) (sum_over-times often d u)
