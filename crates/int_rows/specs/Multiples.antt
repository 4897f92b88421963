-- Facts on multiples of two numbers: the product over the greatest common divisor is the least one.
use Rattle.std.proofs.Common.{◌≡◌, ℕ, zero, suc, ◌*◌, ◌/◌, ◌<◌, [], ◌∷◌, sym, ap, ◌∙◌, subst, arith}
use Rattle.std.specs.Int.{◌∣◌, IsGcd}
use Rattle.std.proofs.lemmas.Nat.Gcd.{same_from_IsGcd, dvd-zero, dvd_refl}
use Rattle.std.proofs.Math.Nat.{mul-div_cancel', div-mul_cancel, dvd-mul_left, dvd-mul_right, mul-dvd-mul_right, dvd_of_mul-dvd-mul_right, pos_of_dvd_of_pos}
use Rattle.audit_types.specs.Form.{IsLeastCommonMultiple}
use Rattle.audit_types.specs.PrimitiveLines.{scaled_gcd}

common_multiple_is : (a b g : ℕ) → IsGcd a b g → a / g * b ≡ a * (b / g)
common_multiple_is a b g common =
    let first = div-mul_cancel g common.0 in
    let second = mul-div_cancel' g common.1 in
    ap (λ m. a / g * m) (sym second) ∙ omega arith ∙ ap (λ m. m * (b / g)) first

product_is : (a b g : ℕ) → IsGcd a b g → a / g * b * g ≡ b * a
product_is a b g common = let first = div-mul_cancel g common.0 in omega arith ∙ ap (λ m. b * m) first

-- a multiple of both is a multiple of the product over the greatest common divisor
divides_multiples : (a b g k : ℕ) → 0 < g → IsGcd a b g → a ∣ k → b ∣ k → (a / g * b) ∣ k
divides_multiples a b g zero p common one two = dvd-zero (a / g * b)
divides_multiples a b g (suc k) p common one two =
    let any = scaled_gcd (suc k) (omega arith) (suc b) a b (omega arith) in
    let same = same_from_IsGcd a b any.0 g any.1 common in
    let turned : a * b ≡ b * a = omega arith in
    let at_first : (b * a) ∣ (suc k * a) = mul-dvd-mul_right b two a in
    let at_second : (b * a) ∣ (suc k * b) = subst (λ m. m ∣ (suc k * b)) turned (mul-dvd-mul_right a one b) in
    let whole : (b * a) ∣ (suc k * g) = subst (λ m. (b * a) ∣ (suc k * m)) same (any.2.2 (b * a) at_first at_second) in
    dvd_of_mul-dvd-mul_right (a / g * b) p (subst (λ m. m ∣ (suc k * g)) (sym (product_is a b g common)) whole)

pub least_multiple : (a b g : ℕ) → 0 < a → IsGcd a b g → IsLeastCommonMultiple (a ∷ b ∷ []) (a / g * b)
least_multiple a b g p common = record {
  multiple = (subst (λ m. a ∣ m) (sym (common_multiple_is a b g common)) (dvd-mul_right a (b / g)), (dvd-mul_left b (a / g), tt));
  least = λ k all. divides_multiples a b g k (pos_of_dvd_of_pos common.0 p) common all.0 all.1.0;
}

-- of 1 and a number, and of a number and itself, the number is the least multiple
pub least_of_one : (a b : ℕ) → a ∣ b → IsLeastCommonMultiple (a ∷ b ∷ []) b
least_of_one a b h = record { multiple = (h, (dvd_refl b, tt)); least = λ k all. all.1.0 }

pub least_with_one : (a b : ℕ) → b ∣ a → IsLeastCommonMultiple (a ∷ b ∷ []) a
least_with_one a b h = record { multiple = (dvd_refl a, (h, tt)); least = λ k all. all.0 }
