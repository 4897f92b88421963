-- A sum has one average in lowest terms.
use Rattle.std.proofs.Common.{◌≡◌, ℕ, zero, suc, ℤ, pos, negsuc, ◌*◌, ◌/◌, ◌<◌, sym, ◌∙◌, ap, subst, arith}
use Rattle.std.specs.Prelude.{unsigned_abs, neg_ℤ, ◌*ℤ◌}
use Rattle.std.specs.Int.{IsGcd, ◌∣◌}
use Rattle.std.proofs.lemmas.Int.{unsigned_abs-mul}
use Rattle.std.proofs.lemmas.Nat.Gcd.{same_from_IsGcd, dvd_antisymm, dvd-zero}
use Rattle.std.proofs.Math.Nat.{mul-div_cancel, dvd-mul_left, mul_comm}
use Rattle.audit_types.specs.PrimitiveLines.{scaled_gcd}
use Rattle.line_wire.specs.declared.reply.Reply.{Reply}
use Rattle.line_wire.specs.declared.reply.Reply.TheVariants as reply
use Rattle.line_wire.specs.declared.question.Take.TheVariants.{Avg}
use Rattle.question_plan.specs.Replies.{IsMean, Tells}

-- what divides a product and has no common divisor with one factor divides the other
divides_other : (a b c : ℕ) → IsGcd a b 1 → b ∣ c * a → b ∣ c
divides_other a b zero common divides = dvd-zero b
divides_other a b (suc c) common divides =
    let scaled = scaled_gcd (suc c) (omega arith) (suc b) a b (omega arith) in
    subst (λ (m : ℕ). b ∣ m) (one scaled.0 (same_from_IsGcd a b scaled.0 1 scaled.1 common)) (scaled.2.2 b divides (dvd-mul_left b (suc c)))
  where
    one : (g : ℕ) → g ≡ 1 → suc c * g ≡ suc c
    one g is = ap (λ (m : ℕ). suc c * m) is ∙ omega arith

-- a factor that isn't 0 cancels
cancel : (a b s : ℕ) → 0 < s → a * s ≡ b * s → a ≡ b
cancel a b s some same = sym (mul-div_cancel a some) ∙ ap (λ (m : ℕ). m / s) same ∙ mul-div_cancel b some

-- a number and its opposite differ
opposites : (m n : ℕ) → 0 < n → pos m ≡ neg_ℤ (pos n) → ⊥
opposites m zero some same = omega arith
opposites m (suc n) some same = let no : pos m ≡ negsuc n = same in cc

some_product : (b s : ℕ) → 0 < s → 0 < suc b * s
some_product b s some = omega arith

pub cancel_ℤ : (x y : ℤ) (s : ℕ) → 0 < s → x *ℤ pos s ≡ y *ℤ pos s → x ≡ y
cancel_ℤ (pos a) (pos b) s some same = ap pos (cancel a b s some (ap unsigned_abs same))
cancel_ℤ (negsuc a) (negsuc b) s some same =
    let sizes = cancel (suc a) (suc b) s some (sym (unsigned_abs-mul (negsuc a) (pos s)) ∙ ap unsigned_abs same ∙ unsigned_abs-mul (negsuc b) (pos s)) in
    let less : a ≡ b = omega (arith, sizes) in
    ap negsuc less
cancel_ℤ (pos a) (negsuc b) s some same = absurd (opposites (a * s) (suc b * s) (some_product b s some) same)
cancel_ℤ (negsuc a) (pos b) s some same = absurd (opposites (b * s) (suc a * s) (some_product a s some) (sym same))

module _ (sum : ℤ) (size : ℕ) (some : 0 < size) (num other : ℤ) (den divisor : ℕ) (first : IsMean sum size num den)
    (second : IsMean sum size other divisor) where
  -- both fractions are the same
  across : unsigned_abs num * divisor ≡ unsigned_abs other * den
  across =
      cancel (unsigned_abs num * divisor) (unsigned_abs other * den) size some (omega (arith, ap (λ (m : ℕ). m * divisor) one, ap (λ (m : ℕ). m * den) two))
    where
      one : unsigned_abs num * size ≡ unsigned_abs sum * den
      one = sym (unsigned_abs-mul num (pos size)) ∙ ap unsigned_abs first.same ∙ unsigned_abs-mul sum (pos den)

      two : unsigned_abs other * size ≡ unsigned_abs sum * divisor
      two = sym (unsigned_abs-mul other (pos size)) ∙ ap unsigned_abs second.same ∙ unsigned_abs-mul sum (pos divisor)

  pub same_den : den ≡ divisor
  same_den = dvd_antisymm
      (divides_other (unsigned_abs num) den divisor first.lowest
      (subst (λ (m : ℕ). den ∣ m) (sym across ∙ mul_comm (unsigned_abs num) divisor) (dvd-mul_left den (unsigned_abs other))))
      (divides_other (unsigned_abs other) divisor den second.lowest
      (subst (λ (m : ℕ). divisor ∣ m) (across ∙ mul_comm (unsigned_abs other) den) (dvd-mul_left divisor (unsigned_abs num))))

  pub same_num : num ≡ other
  same_num = cancel_ℤ num other size some (first.same ∙ ap (λ (d : ℕ). sum *ℤ pos d) same_den ∙ sym second.same)

-- so one reply tells it
pub one_mean : (sum : ℤ) (size : ℕ) (told other : Reply) → Tells Avg size sum told → Tells Avg size sum other → told ≡ other
one_mean sum size told other first second =
    first.3 ∙ ap (λ (n : ℤ). reply.Avg n first.1) (same_num sum size first.2.some.0 first.0 second.0 first.1 second.1 first.2 second.2)
    ∙ ap (λ (d : ℕ). reply.Avg second.0 d) (same_den sum size first.2.some.0 first.0 second.0 first.1 second.1 first.2 second.2) ∙ sym second.3
