-- Facts on whole numbers: which are 0, how large they are, and how they read as natural ones.
use Rattle.std.proofs.Common.{◌≡◌, ◌≢◌, ℕ, zero, suc, ◌+◌, ◌^◌, ◌<◌, ◌≤◌, true, false, ℤ, pos, negsuc, refl, sym, ap, ◌∙◌, arith, inl, inr, ◌⊎◌}
use Rattle.std.specs.Prelude.{◌+ℤ◌, ◌*ℤ◌, ◌-ℤ◌, neg_ℤ, ◌<ℤ◌, unsigned_abs}
use Rattle.std.proofs.lemmas.Int.{ints, unsigned_abs-mul}
use Rattle.std.proofs.Math.Nat.{mul-le-mul}
use Rattle.std.proofs.lemmas.Bool.{true≢false}
use Rattle.audit_types.specs.Truth.{is_zero}

-- a number is 0, or it isn't
pub zero_or_not : (z : ℤ) → (z ≡ pos 0) ⊎ (z ≢ pos 0)
zero_or_not (pos zero) = inl refl
zero_or_not (pos (suc n)) = inr (λ e. omega (arith, ints))
zero_or_not (negsuc n) = inr (λ e. omega (arith, ints))

-- what passes the test for 0 is 0
pub zero_from_test : (z : ℤ) → is_zero z ≡ true → z ≡ pos 0
zero_from_test (pos zero) h = refl
zero_from_test (pos (suc n)) h = absurd (true≢false (sym h))
zero_from_test (negsuc n) h = absurd (true≢false (sym h))

-- and what fails it isn't
pub not_zero_from_test : (z : ℤ) → is_zero z ≡ false → z ≢ pos 0
not_zero_from_test z h e = true≢false (sym (ap is_zero e) ∙ h)

-- a number that isn't 0 fails the test
pub test_of_not_zero : (z : ℤ) → z ≢ pos 0 → is_zero z ≡ false
test_of_not_zero (pos zero) n = absurd (n refl)
test_of_not_zero (pos (suc m)) n = refl
test_of_not_zero (negsuc m) n = refl

-- a positive number isn't 0
pub positive_not_zero : (z : ℤ) → pos 0 <ℤ z → z ≢ pos 0
positive_not_zero z h e = absurd (omega (arith, ints))

-- only 0 has the size 0
pub zero_size : (z : ℤ) → unsigned_abs z ≡ 0 → z ≡ pos 0
zero_size (pos n) h = ap pos h
zero_size (negsuc n) h = absurd (omega arith)

-- a number that isn't 0 has a size above 0
pub size_above : (z : ℤ) → z ≢ pos 0 → 0 < unsigned_abs z
size_above (pos zero) n = absurd (n refl)
size_above (pos (suc m)) n = omega arith
size_above (negsuc m) n = omega arith

-- so has a positive one
pub size_positive : (z : ℤ) → pos 0 <ℤ z → 0 < unsigned_abs z
size_positive z h = size_above z (positive_not_zero z h)

-- a number with its sign turned has the same size
pub size_negated : (z : ℤ) → unsigned_abs (neg_ℤ z) ≡ unsigned_abs z
size_negated z = omega (arith, ints)

-- what a number leaves of 0
pub zero_less : (z : ℤ) → pos 0 -ℤ z ≡ neg_ℤ z
zero_less z = omega (arith, ints)

-- a positive number as a natural one
pub positive_is : (z : ℤ) → pos 0 <ℤ z → (m : ℕ) × (z ≡ pos m) × (0 < m)
positive_is (pos m) h = (m, refl, omega (arith, ints))
positive_is (negsuc m) h = absurd (omega (arith, ints))

-- a sum is no larger than its parts together
pub size_of_sum : (a b : ℤ) (x y : ℕ) → unsigned_abs a ≤ x → unsigned_abs b ≤ y → unsigned_abs (a +ℤ b) ≤ x + y
size_of_sum a b x y p q = omega (arith, ints)

-- products of small numbers
pub product_small : (x y : ℤ) → unsigned_abs x ≤ 2 ^ 56 → unsigned_abs y ≤ 2 ^ 56 → unsigned_abs (x *ℤ y) ≤ 2 ^ 112
product_small x y p q = rw (unsigned_abs-mul x y) (mul-le-mul {n₂ = 2 ^ 56} {m₂ = 2 ^ 56} p q)
