-- What is left of sums and of products, modulo the modulus.
use Rattle.std.proofs.Common.{◌≡◌, ℕ, ◌+◌, ◌*◌, ◌/◌, ◌%◌, ◌<◌, ℤ, pos, refl, sym, ap, arith}
use Rattle.std.specs.Prelude.{◌+ℤ◌, ◌-ℤ◌, ◌*ℤ◌, neg_ℤ}
use Rattle.std.proofs.lemmas.Int.{ints}
use Rattle.std.proofs.Math.IntN.{pos-*ℤ-pos}
use Rattle.audit_types.specs.Products.{neg-times, add-times}
use Rattle.sum_basis.specs.Points.{modulus, IsLeftModulo}
use Rattle.sum_basis.proofs.SameModulo.{IsSame, same_equal, same_then, same_products}

same_plus : (m : ℕ) (x y u v : ℤ) → IsSame m x y → IsSame m u v → IsSame m (x +ℤ u) (y +ℤ v)
same_plus m x y u v (k, is) (l, too) = (k +ℤ l, let sum = add-times k l (pos m) in omega (arith, ints))

same_minus : (m : ℕ) (x y u v : ℤ) → IsSame m x y → IsSame m u v → IsSame m (x -ℤ u) (y -ℤ v)
same_minus m x y u v (k, is) (l, too) =
    (k +ℤ neg_ℤ l, let sum = add-times k (neg_ℤ l) (pos m) in let minus = neg-times l (pos m) in omega (arith, ints))

-- what is left of a natural number
pub left_rem : (m : ℕ) → IsLeftModulo (pos m) (m % modulus)
left_rem m = (omega arith, (pos (m / modulus), let product = pos-*ℤ-pos (m / modulus) modulus in omega (arith, ints)))

-- a number below the modulus is left of itself
pub left_self : (m : ℕ) → m < modulus → IsLeftModulo (pos m) m
left_self m below = (below, same_equal modulus (pos m) (pos m) refl)

-- the same is left of numbers that are the same but for a multiple of the modulus
pub left_same : (x y : ℤ) (left : ℕ) → IsSame modulus x y → IsLeftModulo y left → IsLeftModulo x left
left_same x y left same is = (is.0, same_then modulus x y (pos left) same is.1)

-- what is left of a number that a multiple of the modulus makes natural
pub left_lifted : (z : ℤ) (k m : ℕ) → z +ℤ pos (k * modulus) ≡ pos m → IsLeftModulo z (m % modulus)
left_lifted z k m is =
    left_same z (pos m) (m % modulus)
    (neg_ℤ (pos k), let minus = neg-times (pos k) (pos modulus) in let product = pos-*ℤ-pos k modulus in omega (arith, ints)) (left_rem m)

-- what is left is the same
pub left_is : (x : ℤ) (left : ℕ) → IsLeftModulo x left → IsSame modulus x (pos left)
left_is x left is = is.1

module _ (x y : ℤ) (a b : ℕ) (x_is : IsSame modulus x (pos a)) (y_is : IsSame modulus y (pos b)) where
  -- of a product and one number more
  pub left_product_plus : (z : ℤ) (c left : ℕ) → IsSame modulus z (pos c) → IsLeftModulo (pos (a * b + c)) left → IsLeftModulo (z +ℤ x *ℤ y) left
  left_product_plus z c left z_is is =
      left_same (z +ℤ x *ℤ y) (pos (a * b + c)) left
      (same_then modulus (z +ℤ x *ℤ y) (pos c +ℤ pos a *ℤ pos b) (pos (a * b + c))
      (same_plus modulus z (pos c) (x *ℤ y) (pos a *ℤ pos b) z_is (same_products modulus x (pos a) y (pos b) x_is y_is))
      (same_equal modulus (pos c +ℤ pos a *ℤ pos b) (pos (a * b + c)) (let product = pos-*ℤ-pos a b in omega (arith, ints)))) is

-- of a product less another one
pub left_between : (x y u v : ℤ) (a b c d left : ℕ) → IsSame modulus x (pos a) → IsSame modulus y (pos b) → IsSame modulus u (pos c) →
    IsSame modulus v (pos d) → IsLeftModulo (pos (a * b) -ℤ pos (c * d)) left → IsLeftModulo (x *ℤ y -ℤ u *ℤ v) left
left_between x y u v a b c d left x_is y_is u_is v_is is =
    left_same (x *ℤ y -ℤ u *ℤ v) (pos (a * b) -ℤ pos (c * d)) left
    (same_then modulus (x *ℤ y -ℤ u *ℤ v) (pos a *ℤ pos b -ℤ pos c *ℤ pos d) (pos (a * b) -ℤ pos (c * d))
    (same_minus modulus (x *ℤ y) (pos a *ℤ pos b) (u *ℤ v) (pos c *ℤ pos d) (same_products modulus x (pos a) y (pos b) x_is y_is)
    (same_products modulus u (pos c) v (pos d) u_is v_is))
    (same_equal modulus (pos a *ℤ pos b -ℤ pos c *ℤ pos d) (pos (a * b) -ℤ pos (c * d))
    (let first = pos-*ℤ-pos a b in let second = pos-*ℤ-pos c d in omega (arith, ints)))) is

-- the modulus less a number is the number's negative
pub left_negated : (a b c d rest back left : ℕ) → rest + c ≡ modulus → IsLeftModulo (pos (rest * d)) back → IsLeftModulo (pos (a * b + back)) left →
    IsLeftModulo (pos (a * b) -ℤ pos (c * d)) left
left_negated a b c d rest back left whole back_is is =
    left_same (pos (a * b) -ℤ pos (c * d)) (pos (a * b + back)) left
    (same_then modulus (pos (a * b) -ℤ pos (c * d)) (pos (a * b) +ℤ pos (rest * d)) (pos (a * b + back))
    (neg_ℤ (pos d), negated)
    (same_then modulus (pos (a * b) +ℤ pos (rest * d)) (pos (a * b) +ℤ pos back) (pos (a * b + back))
    (same_plus modulus (pos (a * b)) (pos (a * b)) (pos (rest * d)) (pos back) (same_equal modulus (pos (a * b)) (pos (a * b)) refl) back_is.1)
    (same_equal modulus (pos (a * b) +ℤ pos back) (pos (a * b + back)) (omega (arith, ints))))) is
  where
    negated : pos (a * b) -ℤ pos (c * d) ≡ neg_ℤ (pos d) *ℤ pos modulus +ℤ (pos (a * b) +ℤ pos (rest * d))
    negated =
        let minus = neg-times (pos d) (pos modulus) in
        let product = pos-*ℤ-pos d modulus in
        let sum = ap (λ k. k * d) whole in
        omega (arith, ints)

-- products of natural numbers that are the same
pub same_naturals : (a b c d : ℕ) → IsSame modulus (pos a) (pos b) → IsSame modulus (pos c) (pos d) → IsSame modulus (pos (a * c)) (pos (b * d))
same_naturals a b c d first second =
    same_then modulus (pos (a * c)) (pos a *ℤ pos c) (pos (b * d)) (same_equal modulus (pos (a * c)) (pos a *ℤ pos c) (sym (pos-*ℤ-pos a c)))
    (same_then modulus (pos a *ℤ pos c) (pos b *ℤ pos d) (pos (b * d)) (same_products modulus (pos a) (pos b) (pos c) (pos d) first second)
    (same_equal modulus (pos b *ℤ pos d) (pos (b * d)) (pos-*ℤ-pos b d)))
