-- Facts on the exact division of signed numbers.
use Rattle.std.proofs.Common.{◌≡◌, ◌≢◌, ℕ, ℤ, pos, negsuc, ◌≤◌, ◌<◌, ◌*◌, ◌^◌, List, map, get_or, set, length, ◌+◌, inl, inr, ap, sym, ◌∙◌, arith, refl}
use Rattle.std.specs.Prelude.{unsigned_abs, FitsSigned, int_div, int_rem, ◌*ℤ◌}
use Rattle.std.specs.Int.{◌∣◌, w64, w128}
use Rattle.std.proofs.lemmas.Int.{ints, quot-rem, quot_is, unsigned_abs-mul, fits_signed_from_abs}
use Rattle.std.proofs.lemmas.Nat.Gcd.{mod-eq-zero_of_dvd}
use Rattle.std.proofs.Math.IntN.{*ℤ_comm}
use Rattle.std.proofs.Math.Nat.{le-mul_of_pos_right}
use Rattle.std.proofs.lemmas.List.{same_lists, get_or_default, get_or-map, length-map, get_or-set_same, get_or-set_other}
use Rattle.std.proofs.lemmas.Bool.{cases_eq}
use Rattle.audit_types.specs.Numbers.{size_above}
use mir.Val.{to_z, of_z}
use lib.Signed.{quot_z}

rem_zero : (a d : ℤ) → unsigned_abs d ∣ unsigned_abs a → int_rem a d ≡ pos 0
rem_zero (pos a) d h = ap pos (mod-eq-zero_of_dvd (unsigned_abs d) h)
rem_zero (negsuc a) d h = rw (mod-eq-zero_of_dvd (unsigned_abs d) h) refl

pub exact : (a d : ℤ) → unsigned_abs d ∣ unsigned_abs a → a ≡ d *ℤ int_div a d
exact a d h =
    let whole = quot-rem a d in
    let none : int_rem a d ≡ pos 0 = rem_zero a d h in
    let all : int_div a d *ℤ d ≡ a = omega (arith, ints, whole, none) in
    sym all ∙ *ℤ_comm (int_div a d) d

quot_small : (a d : ℤ) → d ≢ pos 0 → unsigned_abs d ∣ unsigned_abs a → unsigned_abs (int_div a d) ≤ unsigned_abs a
quot_small a d n h =
    let size : unsigned_abs a ≡ unsigned_abs d * unsigned_abs (int_div a d) = ap unsigned_abs (exact a d h) ∙ unsigned_abs-mul d (int_div a d) in
    let more = le-mul_of_pos_right (unsigned_abs (int_div a d)) (size_above d n) in
    omega (arith, size, more)

-- what the code's `/` gives
pub divided : (a d : ℤ) → d ≢ pos 0 → FitsSigned w128 a → FitsSigned w128 d → unsigned_abs a ≤ 2 ^ 126 → unsigned_abs d ∣ unsigned_abs a →
    a ≡ d *ℤ to_z w128 (of_z w128 (quot_z (to_z w128 (of_z w128 a)) (to_z w128 (of_z w128 d))))
divided a d n p q small h =
    exact a d h ∙ ap (λ z. d *ℤ z) (sym (quot_is w128 a d p q (fits_signed_from_abs w128 (int_div a d) (omega (arith, quot_small a d n h)))))

-- and what it gives of numbers of 64 bits
pub divided_short : (a d : ℤ) → d ≢ pos 0 → FitsSigned w64 a → FitsSigned w64 d → unsigned_abs a < 2 ^ 62 → unsigned_abs d ∣ unsigned_abs a →
    a ≡ d *ℤ to_z w64 (of_z w64 (quot_z (to_z w64 (of_z w64 a)) (to_z w64 (of_z w64 d))))
divided_short a d n p q small h =
    exact a d h ∙ ap (λ z. d *ℤ z) (sym (quot_is w64 a d p q (fits_signed_from_abs w64 (int_div a d) (omega (arith, quot_small a d n h)))))

-- the entries below i are divided, and those from i on are as they were
pub record IsPartlyDivided (old row : List ℤ) (d : ℤ) (i : ℕ) : Type 0 where
  pub done : (k : ℕ) → k < i → get_or old k (pos 0) ≡ d *ℤ get_or row k (pos 0)
  pub left : (k : ℕ) → i ≤ k → get_or row k (pos 0) ≡ get_or old k (pos 0)

pub one_more : (old row : List ℤ) (d v : ℤ) (i : ℕ) → i < length row → IsPartlyDivided old row d i → get_or row i (pos 0) ≡ d *ℤ v → IsPartlyDivided old (set row i v) d (i + 1)
one_more old row d v i inside so_far is = record {
  done = λ k h. elim (cases_eq k i) [
    | inl e ↦ rw e (sym (so_far.left i (omega arith)) ∙ is ∙ ap (λ x. d *ℤ x) (sym (get_or-set_same row i v (pos 0) inside)))
    | inr n ↦ so_far.done k (omega arith) ∙ ap (λ x. d *ℤ x) (sym (get_or-set_other row i k v (pos 0) n))
  ];
  left = λ k h. get_or-set_other row i k v (pos 0) (λ e. omega arith) ∙ so_far.left k (omega arith);
}

pub all_divided : (old row : List ℤ) (d : ℤ) (i : ℕ) → length row ≡ length old → length old ≤ i → IsPartlyDivided old row d i → old ≡ map (λ x. d *ℤ x) row
all_divided old row d i same past so_far =
    same_lists old (map (λ x. d *ℤ x) row) (sym (length-map row (λ x. d *ℤ x) ∙ same)) (λ k e h.
    get_or_default old k e (pos 0) h ∙ so_far.done k (omega arith) ∙ sym (get_or-map (λ x. d *ℤ x) row k (pos 0) e (omega arith)))

pub by_same : (d e q x : ℤ) → e ≡ d → x ≡ d *ℤ q → x ≡ e *ℤ q
by_same d e q x same is = is ∙ ap (λ z. z *ℤ q) (sym same)
