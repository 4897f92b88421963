-- An average in lowest terms: there is one, and it is found by the greatest common divisor.
use Rattle.std.proofs.Common.{◌≡◌, ℕ, zero, suc, ℤ, pos, ◌*◌, ◌/◌, ◌<◌, ◌≤◌, refl, sym, ◌∙◌, ap, subst, arith, div-add-mod'}
use Rattle.std.specs.Prelude.{unsigned_abs, int_div, ◌*ℤ◌}
use Rattle.std.specs.Int.{IsGcd}
use Rattle.std.proofs.lemmas.Int.{unsigned_abs-mul}
use Rattle.std.proofs.lemmas.Nat.Gcd.{same_from_IsGcd, mod-eq-zero_of_dvd}
use Rattle.std.proofs.Math.IntN.{*ℤ_comm}
use Rattle.audit_types.specs.Products.{times_assoc}
use Rattle.std.proofs.Math.Nat.{le-mul_of_pos_right}
use Rattle.audit_types.specs.Limits.{most_answer}
use Rattle.audit_types.specs.PrimitiveLines.{scaled_gcd}
use Rattle.int_rows.specs.Exact.{exact}
use Rattle.line_wire.specs.Reply.{IsAverage}
use Rattle.question_plan.specs.Replies.{IsMean}

-- the divisor as the code has it
pub gcd_of : (a b c sum : ℤ) (size g : ℕ) → a ≡ sum → b ≡ pos size → c ≡ pos g → IsGcd (unsigned_abs a) (unsigned_abs b) g →
    IsGcd (unsigned_abs sum) size (unsigned_abs c)
gcd_of a b c sum size g first second third common =
    subst (λ (z : ℤ). IsGcd (unsigned_abs sum) size (unsigned_abs z)) (sym third)
    (subst (λ (z : ℤ). IsGcd (unsigned_abs sum) (unsigned_abs z) g) second (subst (λ (z : ℤ). IsGcd (unsigned_abs z) (unsigned_abs b) g) first common))

module _ (sum : ℤ) (size g : ℕ) (some : 0 < size) (common : IsGcd (unsigned_abs sum) size g) where
  -- the parts of the two numbers
  sum_is : sum ≡ pos g *ℤ int_div sum (pos g)
  sum_is = exact sum (pos g) common.0

  size_is : size ≡ g * (size / g)
  size_is = omega (arith, div-add-mod' size g, mod-eq-zero_of_dvd g common.1)

  abs_is : unsigned_abs sum ≡ g * unsigned_abs (int_div sum (pos g))
  abs_is = ap unsigned_abs sum_is ∙ unsigned_abs-mul (pos g) (int_div sum (pos g))

  -- a common divisor with some people is not 0
  pub divisor_some : 0 < g
  divisor_some = by g size_is
    where
      by : (k : ℕ) → size ≡ k * (size / g) → 0 < k
      by zero is = absurd (omega (arith, is, some))
      by (suc k) is = omega arith

  pub den_some : 0 < size / g
  den_some = by (size / g) size_is
    where
      by : (k : ℕ) → size ≡ g * k → 0 < k
      by zero is = absurd (omega (arith, is, some))
      by (suc k) is = omega arith

  pub divisor_below : g ≤ size
  divisor_below = grind (arith, size_is, den_some, le-mul_of_pos_right g den_some)

  -- a divisor of g times itself is 1
  one : (k : ℕ) → g ≡ g * k → k ≡ 1
  one zero is = absurd (omega (arith, is, divisor_some))
  one (suc zero) is = refl
  one (suc (suc k)) is = absurd (grind (arith, is, divisor_some))

  pub lowest : IsGcd (unsigned_abs (int_div sum (pos g))) (size / g) 1
  lowest =
      let scaled = scaled_gcd g divisor_some (suc (size / g)) (unsigned_abs (int_div sum (pos g))) (size / g) (omega arith) in
      let here : IsGcd (unsigned_abs sum) size (g * scaled.0) =
      subst (λ (m : ℕ). IsGcd m size (g * scaled.0)) (sym abs_is)
      (subst (λ (m : ℕ). IsGcd (g * unsigned_abs (int_div sum (pos g))) m (g * scaled.0)) (sym size_is) scaled.2) in
      subst (λ (k : ℕ). IsGcd (unsigned_abs (int_div sum (pos g))) (size / g) k)
      (one scaled.0 (same_from_IsGcd (unsigned_abs sum) size g (g * scaled.0) common here)) scaled.1

  pub mean : IsMean sum size (int_div sum (pos g)) (size / g)
  mean = record {
    some = (some, den_some);
    same = ap (λ (n : ℕ). int_div sum (pos g) *ℤ pos n) size_is ∙ across (int_div sum (pos g)) (size / g) ∙ ap (λ (z : ℤ). z *ℤ pos (size / g)) (sym sum_is);
    lowest = lowest;
  }
    where
      factors : (d : ℕ) → pos (g * d) ≡ pos g *ℤ pos d
      factors d = refl

      across : (z : ℤ) (d : ℕ) → z *ℤ pos (g * d) ≡ (pos g *ℤ z) *ℤ pos d
      across z d = ap (λ (y : ℤ). z *ℤ y) (factors d) ∙ sym (times_assoc z (pos g) (pos d)) ∙ ap (λ (y : ℤ). y *ℤ pos d) (*ℤ_comm z (pos g))

  -- and it is in range
  pub in_range : size ≤ most_answer → unsigned_abs sum ≤ most_answer → IsAverage (int_div sum (pos g)) (size / g)
  in_range at_most small = record {
    within = omega (arith, small, abs_is, le-mul_of_pos_right (unsigned_abs (int_div sum (pos g))) divisor_some);
    positive = omega (arith, den_some);
    people = omega (arith, at_most, size_is, le-mul_of_pos_right (size / g) divisor_some);
    lowest = lowest;
  }

-- every sum over some people has an average in lowest terms
pub some_mean : (sum : ℤ) (size : ℕ) → 0 < size → (num : ℤ) × (den : ℕ) × IsMean sum size num den
some_mean sum size some =
    let common = scaled_gcd 1 (omega arith) (suc size) (unsigned_abs sum) size (omega arith) in
    (int_div sum (pos common.0), size / common.0, mean sum size common.0 some common.1)
