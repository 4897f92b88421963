-- Facts on products of whole numbers, for all crates above.
use Rattle.std.proofs.Common.{◌≡◌, ◌≢◌, zero, suc, ◌≤◌, ◌*◌, ℤ, pos, negsuc, sym, ap, ◌∙◌, arith, inl, inr}
use Rattle.std.specs.Prelude.{◌+ℤ◌, ◌*ℤ◌, neg_ℤ, ◌<ℤ◌, unsigned_abs}
use Rattle.std.proofs.lemmas.Int.{ints, unsigned_abs-mul}
use Rattle.std.proofs.Math.IntN.{+ℤ_idl, +ℤ_invr, suc_ℤ-+ℤ, pred_ℤ-+ℤ, suc_ℤ-*ℤ, pred_ℤ-*ℤ, *ℤ_comm, zero-*ℤ}
use Rattle.std.proofs.Math.Nat.{le-mul_of_pos_right}
use Rattle.std.proofs.lemmas.Bool.{cases_eq}
use Rattle.audit_types.specs.Numbers.{zero_size, size_above, size_positive}

-- a sum times a number
pub add-times : (x y r : ℤ) → (x +ℤ y) *ℤ r ≡ x *ℤ r +ℤ y *ℤ r
add-times (pos zero) y r = let first = ap (λ z. z *ℤ r) (+ℤ_idl y) in let none = zero-*ℤ r in omega (arith, ints)
add-times (pos (suc n)) y r =
    let step = ap (λ z. z *ℤ r) (suc_ℤ-+ℤ (pos n) y) ∙ suc_ℤ-*ℤ (pos n +ℤ y) r in
    let rest = add-times (pos n) y r in
    let one = suc_ℤ-*ℤ (pos n) r in
    omega (arith, ints)
add-times (negsuc zero) y r =
    let step = ap (λ z. z *ℤ r) (pred_ℤ-+ℤ (pos zero) y) ∙ pred_ℤ-*ℤ (pos zero +ℤ y) r in
    let rest = ap (λ z. z *ℤ r) (+ℤ_idl y) in
    let one = pred_ℤ-*ℤ (pos zero) r in
    let none = zero-*ℤ r in
    omega (arith, ints)
add-times (negsuc (suc n)) y r =
    let step = ap (λ z. z *ℤ r) (pred_ℤ-+ℤ (negsuc n) y) ∙ pred_ℤ-*ℤ (negsuc n +ℤ y) r in
    let rest = add-times (negsuc n) y r in
    let one = pred_ℤ-*ℤ (negsuc n) r in
    omega (arith, ints)

-- a number times a sum
pub times-add : (k x y : ℤ) → k *ℤ (x +ℤ y) ≡ k *ℤ x +ℤ k *ℤ y
times-add k x y = let turned = add-times x y k in let one = *ℤ_comm k (x +ℤ y) in let two = *ℤ_comm k x in let three = *ℤ_comm k y in omega (arith, ints)

-- a negative times a number
pub neg-times : (c r : ℤ) → neg_ℤ c *ℤ r ≡ neg_ℤ (c *ℤ r)
neg-times c r =
    let both = add-times c (neg_ℤ c) r in
    let none = ap (λ z. z *ℤ r) (+ℤ_invr c) ∙ zero-*ℤ r in
    omega (arith, ints)

-- once a number is the number
pub one-times : (x : ℤ) → pos 1 *ℤ x ≡ x
one-times x = suc_ℤ-*ℤ (pos zero) x ∙ ap (λ z. z +ℤ x) (zero-*ℤ x) ∙ +ℤ_idl x

-- a product of three
pub times_assoc : (k c r : ℤ) → (k *ℤ c) *ℤ r ≡ k *ℤ (c *ℤ r)
times_assoc (pos zero) c r = ap (λ z. z *ℤ r) (zero-*ℤ c) ∙ zero-*ℤ r ∙ sym (zero-*ℤ (c *ℤ r))
times_assoc (pos (suc n)) c r =
    let step = ap (λ z. z *ℤ r) (suc_ℤ-*ℤ (pos n) c) ∙ add-times (pos n *ℤ c) c r in
    let rest = times_assoc (pos n) c r in
    let one = suc_ℤ-*ℤ (pos n) (c *ℤ r) in
    omega (arith, ints)
times_assoc (negsuc zero) c r =
    let step = ap (λ z. z *ℤ r) (pred_ℤ-*ℤ (pos zero) c) ∙ add-times (pos zero *ℤ c) (neg_ℤ c) r in
    let rest = ap (λ z. z *ℤ r) (zero-*ℤ c) ∙ zero-*ℤ r in
    let one = pred_ℤ-*ℤ (pos zero) (c *ℤ r) in
    let none = zero-*ℤ (c *ℤ r) in
    let minus = neg-times c r in
    omega (arith, ints)
times_assoc (negsuc (suc n)) c r =
    let step = ap (λ z. z *ℤ r) (pred_ℤ-*ℤ (negsuc n) c) ∙ add-times (negsuc n *ℤ c) (neg_ℤ c) r in
    let rest = times_assoc (negsuc n) c r in
    let one = pred_ℤ-*ℤ (negsuc n) (c *ℤ r) in
    let minus = neg-times c r in
    omega (arith, ints)

-- the first two of three in the other order
pub swapped : (x y z : ℤ) → x *ℤ (y *ℤ z) ≡ y *ℤ (x *ℤ z)
swapped x y z = sym (times_assoc x y z) ∙ ap (λ k. k *ℤ z) (*ℤ_comm x y) ∙ times_assoc y x z

-- a product with a positive number is 0 only if the other factor is
pub zero_factor : (c p : ℤ) → c *ℤ p ≡ pos 0 → pos 0 <ℤ p → c ≡ pos 0
zero_factor c p e h =
    let sizes : unsigned_abs c * unsigned_abs p ≡ 0 = sym (unsigned_abs-mul c p) ∙ ap unsigned_abs e in
    zero_size c (elim (cases_eq (unsigned_abs c) 0) [
      | inl z ↦ z
      | inr n ↦ let more = le-mul_of_pos_right {m = unsigned_abs c} (unsigned_abs p) (omega arith) in absurd (let some = size_positive p h in omega arith)
    ])

-- a product is 0 only if a factor is
pub zero_product : (c p : ℤ) → c *ℤ p ≡ pos 0 → c ≢ pos 0 → p ≡ pos 0
zero_product c p e h = zero_size p (elim (cases_eq (unsigned_abs p) 0) [
  | inl z ↦ z
  | inr n ↦
      let sizes : unsigned_abs c * unsigned_abs p ≡ 0 = sym (unsigned_abs-mul c p) ∙ ap unsigned_abs e in
      let more = le-mul_of_pos_right {m = unsigned_abs p} (unsigned_abs c) (omega arith) in
      absurd (h (zero_size c (omega arith)))
])

-- a product of factors that aren't 0 isn't
pub product_not_zero : (c x : ℤ) → c ≢ pos 0 → x ≢ pos 0 → (c *ℤ x) ≢ pos 0
product_not_zero c x p q e = q (zero_product c x e p)

-- a factor that isn't 0 makes no number less in size
pub size_of_factor : (c x : ℤ) → c ≢ pos 0 → unsigned_abs x ≤ unsigned_abs (c *ℤ x)
size_of_factor c x n = rw (unsigned_abs-mul c x) (let more = le-mul_of_pos_right {m = unsigned_abs c} (unsigned_abs x) (size_above c n) in omega arith)
