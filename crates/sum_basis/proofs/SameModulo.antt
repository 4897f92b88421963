-- Numbers that are the same but for multiples of another one.
use Rattle.std.proofs.Common.{◌≡◌, ℕ, zero, suc, ◌*◌, ◌<◌, ℤ, pos, negsuc, sym, ap, ◌∙◌, subst, arith}
use Rattle.std.specs.Prelude.{◌+ℤ◌, ◌*ℤ◌, neg_ℤ}
use Rattle.std.proofs.lemmas.Int.{ints}
use Rattle.std.proofs.Math.IntN.{*ℤ_comm, zero-*ℤ, pos-*ℤ-pos, negsuc-*ℤ-pos}
use Rattle.std.proofs.Math.Nat.{le-mul_of_pos_right}
use Rattle.audit_types.specs.Products.{neg-times, add-times, times-add, times_assoc}

-- two numbers are the same, but for a multiple of m
abbrev pub IsSame : ℕ → ℤ → ℤ → Type 0
IsSame m x y = (k : ℤ) × (x ≡ k *ℤ pos m +ℤ y)

module _ (m : ℕ) where
  -- equal numbers are
  pub same_equal : (x y : ℤ) → x ≡ y → IsSame m x y
  same_equal x y e = (pos 0, let none = zero-*ℤ (pos m) in omega (arith, ints))

  -- it is mutual
  pub same_back : (x y : ℤ) → IsSame m x y → IsSame m y x
  same_back x y (k, is) = (neg_ℤ k, let minus = neg-times k (pos m) in omega (arith, ints))

  -- and goes on
  pub same_then : (x y z : ℤ) → IsSame m x y → IsSame m y z → IsSame m x z
  same_then x y z (k, is) (l, too) = (k +ℤ l, let sum = add-times k l (pos m) in omega (arith, ints))

  -- multiples of the same are the same
  pub same_times : (c x y : ℤ) → IsSame m x y → IsSame m (c *ℤ x) (c *ℤ y)
  same_times c x y (k, is) =
      (c *ℤ k, ap (λ z. c *ℤ z) is ∙ times-add c (k *ℤ pos m) y ∙ ap (λ z. z +ℤ c *ℤ y) (sym (times_assoc c k (pos m))))

  -- and so are products
  pub same_products : (x y u v : ℤ) → IsSame m x y → IsSame m u v → IsSame m (x *ℤ u) (y *ℤ v)
  same_products x y u v first second =
      same_then (x *ℤ u) (x *ℤ v) (y *ℤ v) (same_times x u v second)
      (same_then (x *ℤ v) (v *ℤ x) (y *ℤ v) (same_equal (x *ℤ v) (v *ℤ x) (*ℤ_comm x v))
      (same_then (v *ℤ x) (v *ℤ y) (y *ℤ v) (same_times v x y first) (same_equal (v *ℤ y) (y *ℤ v) (*ℤ_comm v y))))

  -- below m the same numbers are one
  pub same_below : (a b : ℕ) → a < m → b < m → IsSame m (pos a) (pos b) → a ≡ b
  same_below a b first second (k, is) = by k is
    where
      by : (k : ℤ) → pos a ≡ k *ℤ pos m +ℤ pos b → a ≡ b
      by (pos zero) is = let none = zero-*ℤ (pos m) in omega (arith, ints)
      by (pos (suc n)) is =
          let product = pos-*ℤ-pos (suc n) m in
          let more = le-mul_of_pos_right {m = suc n} m (omega arith) in
          omega (arith, ints)
      by (negsuc n) is =
          let product = negsuc-*ℤ-pos n m in
          let more = le-mul_of_pos_right {m = suc n} m (omega arith) in
          omega (arith, ints)

-- a product of natural numbers, modulo m
pub product_is : (m x i r : ℕ) → IsSame m (pos (x * i)) (pos r) → IsSame m (pos x *ℤ pos i) (pos r)
product_is m x i r h = subst (λ z. IsSame m z (pos r)) (sym (pos-*ℤ-pos x i)) h
