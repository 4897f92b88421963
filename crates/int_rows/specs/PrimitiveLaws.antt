-- Facts on a row divided by its signed content: it is primitive.
use Rattle.std.proofs.Common.{◌≡◌, ◌≢◌, ℕ, zero, suc, ◌+◌, ◌*◌, ◌<◌, ◌≤◌, ◌^◌, Bool, true, false, not, cond, ◌&&◌, ℤ, pos, negsuc, List, [], ◌∷◌, map, refl, sym, ap, ◌∙◌, subst, arith, inl, inr}
use Rattle.std.specs.Prelude.{unsigned_abs, ◌*ℤ◌, ◌<ℤ◌, ◌≤ℤ◌}
use Rattle.std.specs.Int.{◌∣◌}
use Rattle.std.specs.Bool.{MatchBool}
use Rattle.std.specs.Prelude.{FitsSigned}
use Rattle.std.specs.Int.{w64, w128}
use mir.Val.{to_z, of_z}
use Rattle.std.specs.List.{AllByRecursion, list_all}
use Rattle.std.proofs.lemmas.Int.{ints, unsigned_abs-mul, to_z-of_z, fits_signed_from_abs}
use Rattle.std.proofs.lemmas.Nat.Gcd.{dvd_refl, le_of_dvd}
use Rattle.std.proofs.lemmas.Bool.{true≢false, and_parts, and_from}
use Rattle.std.proofs.Math.Nat.{mul-dvd-mul_left, eq-zero_of_zero-dvd}
use Rattle.std.proofs.Math.IntN.{*ℤ-zero, pos-*ℤ-negsuc, negsuc-*ℤ-negsuc}
use Rattle.audit_types.specs.Truth.{number_at, is_zero}
use Rattle.audit_types.specs.Form.{IsContent, pivot, pivot_entry}
use Rattle.audit_types.specs.Numbers.{zero_or_not, zero_from_test, test_of_not_zero, size_above, zero_size}
use Rattle.audit_types.specs.Products.{product_not_zero, one-times}
use Rattle.audit_types.specs.PrimitiveLines.{number_at-times}
use Rattle.int_rows.specs.ContentLaws.{all-ones}
use Rattle.int_rows.specs.Primitive.{IsMadePrimitive, IsSignedContent}

is_zero-times : (c x : ℤ) → c ≢ pos 0 → is_zero (c *ℤ x) ≡ is_zero x
is_zero-times c x n = elim (zero_or_not x) [
  | inl e ↦ ap is_zero (ap (λ z. c *ℤ z) e ∙ *ℤ-zero c ∙ sym e)
  | inr m ↦ test_of_not_zero (c *ℤ x) (product_not_zero c x n m) ∙ sym (test_of_not_zero x m)
]

pub one_times : (xs : List ℤ) → xs ≡ map (λ x. pos 1 *ℤ x) xs
one_times [] = refl
one_times (x ∷ xs) = ap (λ y. y ∷ xs) (sym (one-times x)) ∙ ap (λ l. (pos 1 *ℤ x) ∷ l) (one_times xs)

all_zero_times : (c : ℤ) (xs : List ℤ) → c ≢ pos 0 → list_all is_zero (map (λ x. c *ℤ x) xs) ≡ list_all is_zero xs
all_zero_times c [] n = refl
all_zero_times c (x ∷ xs) n = ap (λ b. b && list_all is_zero (map (λ y. c *ℤ y) xs)) (is_zero-times c x n) ∙ ap (λ b. is_zero x && b) (all_zero_times c xs n)

pivot_times : (c : ℤ) (xs : List ℤ) → c ≢ pos 0 → pivot (map (λ x. c *ℤ x) xs) ≡ pivot xs
pivot_times c [] n = refl
pivot_times c (x ∷ xs) n =
    ap (λ b. cond (not (not b)) (1 + pivot (map (λ y. c *ℤ y) xs)) 0) (is_zero-times c x n) ∙ ap (λ m. cond (not (not (is_zero x))) (1 + m) 0) (pivot_times c xs n)

all_zeros : (xs : List ℤ) → list_all is_zero xs ≡ true → AllByRecursion (λ x. 0 ∣ unsigned_abs x) xs
all_zeros [] h = tt
all_zeros (x ∷ xs) h = let parts = and_parts (is_zero x) (list_all is_zero xs) h in
    (subst (λ m. 0 ∣ m) (sym (ap unsigned_abs (zero_from_test x parts.0))) (dvd_refl 0), all_zeros xs parts.1)

-- zeros have content 0 alone
zeros_content : (xs : List ℤ) (g : ℕ) → list_all is_zero xs ≡ true → IsContent xs g → g ≡ 0
zeros_content xs g h content = eq-zero_of_zero-dvd (content.greatest 0 (all_zeros xs h))

pub zeros_from : (xs : List ℤ) → AllByRecursion (λ x. 0 ∣ unsigned_abs x) xs → list_all is_zero xs ≡ true
zeros_from [] h = refl
zeros_from (x ∷ xs) h =
    let first : is_zero x ≡ true = ap is_zero (zero_size x (eq-zero_of_zero-dvd h.0)) in
    and_from (is_zero x) (list_all is_zero xs) first (zeros_from xs h.1)

at_most_one : (d k : ℕ) → 0 < k → (k * d) ∣ k → d ∣ 1
at_most_one zero k p h = absurd (let none : (k * 0) ≡ 0 = omega arith in let e = eq-zero_of_zero-dvd (subst (λ m. m ∣ k) none h) in omega arith)
at_most_one (suc zero) k p h = dvd_refl 1
at_most_one (suc (suc d)) k p h = let most = le_of_dvd p h in let wide : k + k ≤ k * suc (suc d) = omega arith in absurd (omega arith)

scaled_divisor : (c : ℤ) (d : ℕ) (xs : List ℤ) → AllByRecursion (λ x. d ∣ unsigned_abs x) xs → AllByRecursion (λ x. (unsigned_abs c * d) ∣ unsigned_abs x) (map (λ x. c *ℤ x) xs)
scaled_divisor c d [] h = tt
scaled_divisor c d (x ∷ xs) h = (subst (λ m. (unsigned_abs c * d) ∣ m) (sym (unsigned_abs-mul c x)) (mul-dvd-mul_left d (unsigned_abs c) h.0), scaled_divisor c d xs h.1)

pub content_one : (c : ℤ) (xs : List ℤ) → c ≢ pos 0 → IsContent (map (λ x. c *ℤ x) xs) (unsigned_abs c) → IsContent xs 1
content_one c xs n content = record {
  divides = all-ones xs;
  greatest = λ d h. at_most_one d (unsigned_abs c) (size_above c n) (content.greatest (unsigned_abs c * d) (scaled_divisor c d xs h));
}

pub not_zero_lead : (xs : List ℤ) → list_all is_zero xs ≡ false → pivot_entry xs ≢ pos 0
not_zero_lead [] h = absurd (true≢false h)
not_zero_lead (x ∷ xs) h = elim (zero_or_not x) [
  | inl e ↦
      let z : is_zero x ≡ true = ap is_zero e in
      let rest : list_all is_zero xs ≡ false = sym (ap (λ b. b && list_all is_zero xs) z) ∙ h in
      let step : pivot (x ∷ xs) ≡ suc (pivot xs) = ap (λ b. cond (not (not b)) (1 + pivot xs) 0) z ∙ omega arith in
      λ same. not_zero_lead xs rest (sym (ap (number_at (x ∷ xs)) step) ∙ same)
  | inr m ↦
      let z : is_zero x ≡ false = test_of_not_zero x m in
      let step : pivot (x ∷ xs) ≡ 0 = ap (λ b. cond (not (not b)) (1 + pivot xs) 0) z in
      λ same. m (sym (ap (number_at (x ∷ xs)) step) ∙ same)
]

same_sign : (c x : ℤ) → x ≢ pos 0 → ((c *ℤ x) <ℤ pos 0 → c ≤ℤ pos 0) → (pos 0 ≤ℤ (c *ℤ x) → pos 0 ≤ℤ c) → c ≢ pos 0 → pos 0 <ℤ x
same_sign c (pos zero) some neg up n = absurd (some refl)
same_sign c (pos (suc x)) some neg up n = omega (arith, ints)
same_sign (pos zero) (negsuc x) some neg up n = absurd (n refl)
same_sign (pos (suc c)) (negsuc x) some neg up n =
    let product = pos-*ℤ-negsuc (suc c) x in
    let big : 0 < suc c * suc x = omega arith in
    let low : (pos (suc c) *ℤ negsuc x) <ℤ pos 0 = omega (arith, ints) in
    let at = neg low in absurd (omega (arith, ints))
same_sign (negsuc c) (negsuc x) some neg up n =
    let product = negsuc-*ℤ-negsuc c x in
    let high : pos 0 ≤ℤ (negsuc c *ℤ negsuc x) = omega (arith, ints) in
    let at = up high in absurd (omega (arith, ints))

-- a row that is a multiple of another by its signed content
pub made_primitive : (old new : List ℤ) (by : ℤ) → by ≢ pos 0 → IsSignedContent old by → old ≡ map (λ x. by *ℤ x) new → IsMadePrimitive old new
made_primitive old new by n signed is = record { factor = by; is_multiple = is; primitive = by_case (list_all is_zero old) refl }
  where
    content : IsContent (map (λ x. by *ℤ x) new) (unsigned_abs by)
    content = subst (λ l. IsContent l (unsigned_abs by)) is signed.content

    lead : pivot_entry old ≡ by *ℤ pivot_entry new
    lead = ap pivot_entry is ∙ ap (number_at (map (λ x. by *ℤ x) new)) (pivot_times by new n) ∙ number_at-times by new (pivot new)

    by_case : (b : Bool) → list_all is_zero old ≡ b → MatchBool b (new ≡ old) (IsContent new 1 × (pos 0 <ℤ pivot_entry new))
    by_case true h = absurd (n (zero_size by (zeros_content old (unsigned_abs by) h signed.content)))
    by_case false h =
        let some : list_all is_zero new ≡ false = sym (all_zero_times by new n) ∙ sym (ap (list_all is_zero) is) ∙ h in (
          content_one by new n content,
          same_sign by (pivot_entry new) (not_zero_lead new some)
              (λ low. signed.negative (subst (λ z. z <ℤ pos 0) (sym lead) low)) (λ high. signed.positive (subst (λ z. pos 0 ≤ℤ z) (sym lead) high)) n,
        )

-- a row with content 0 stays
pub made_of_zeros : (row : List ℤ) (by : ℤ) → by ≡ pos 0 → IsSignedContent row by → IsMadePrimitive row row
made_of_zeros row by e signed = record {
  factor = pos 1;
  is_multiple = one_times row;
  primitive = rw (zeros_from row (subst (λ g. AllByRecursion (λ x. g ∣ unsigned_abs x) row) (ap unsigned_abs e) signed.content.divides)) refl;
}

-- the code's test for 0
pub zero_from_bits : (z : ℤ) → FitsSigned w128 z → of_z w128 z ≡ 0 → z ≡ pos 0
zero_from_bits z fits e = sym (to_z-of_z w128 z fits) ∙ ap (to_z w128) e

-- a short number, as one of 64 bits
pub short_is : (z : ℤ) → FitsSigned w128 z → unsigned_abs z < 2 ^ 62 → to_z w64 (of_z w64 (to_z w128 (of_z w128 z))) ≡ z
short_is z fits small = ap (λ x. to_z w64 (of_z w64 x)) (to_z-of_z w128 z fits) ∙ to_z-of_z w64 z (fits_signed_from_abs w64 z (omega arith))
