-- Keys of points, modulo a number of which nothing is needed: two points with equal products have one key.
use Rattle.std.proofs.Common.{◌≡◌, ◌≢◌, ℕ, ◌*◌, ◌<◌, ℤ, pos, refl, sym, ap, ◌∙◌, subst, arith}
use Rattle.std.specs.Prelude.{◌-ℤ◌, ◌*ℤ◌}
use Rattle.std.proofs.lemmas.Int.{ints}
use Rattle.std.proofs.Math.IntN.{*ℤ_comm, zero-*ℤ}
use Rattle.audit_types.specs.Products.{one-times, times_assoc, zero_product, swapped}
use Rattle.sum_basis.specs.Points.{modulus, IsLeftModulo, IsKey}
use Rattle.sum_basis.specs.declared.points.Point.{Point}
use Rattle.sum_basis.proofs.SameModulo.{IsSame, same_equal, same_back, same_then, same_products, same_below, product_is}
use Rattle.sum_basis.proofs.Weighted.{times-less}

-- the two pairs of a product of products, each with the other's second factor
exchanged : (a b c d : ℤ) → (a *ℤ b) *ℤ (c *ℤ d) ≡ (a *ℤ c) *ℤ (b *ℤ d)
exchanged a b c d = times_assoc a b (c *ℤ d) ∙ ap (λ z. a *ℤ z) (swapped b c d) ∙ sym (times_assoc a c (b *ℤ d))

-- two points whose cross products are equal have one key
module _ (m : ℕ) (u v s t : ℤ) (equal : u *ℤ t ≡ v *ℤ s) (a b c d i j : ℕ) (u_is : IsSame m u (pos a)) (v_is : IsSame m v (pos b)) (s_is : IsSame m s (pos c))
    (t_is : IsSame m t (pos d)) where
  -- by the first inverse and the second, the numerator of the first key is that of the second
  same_crossed : IsSame m (pos a *ℤ pos d) (pos b *ℤ pos c)
  same_crossed =
      same_then m (pos a *ℤ pos d) (u *ℤ t) (pos b *ℤ pos c)
      (same_back m (u *ℤ t) (pos a *ℤ pos d) (same_products m u (pos a) t (pos d) u_is t_is))
      (same_then m (u *ℤ t) (v *ℤ s) (pos b *ℤ pos c) (same_equal m (u *ℤ t) (v *ℤ s) equal) (same_products m v (pos b) s (pos c) v_is s_is))

  over : IsSame m ((pos a *ℤ pos i) *ℤ (pos d *ℤ pos j)) ((pos b *ℤ pos i) *ℤ (pos c *ℤ pos j))
  over =
      let first = (pos a *ℤ pos d) *ℤ (pos i *ℤ pos j) in
      let second = (pos b *ℤ pos c) *ℤ (pos i *ℤ pos j) in
      same_then m ((pos a *ℤ pos i) *ℤ (pos d *ℤ pos j)) first ((pos b *ℤ pos i) *ℤ (pos c *ℤ pos j))
      (same_equal m ((pos a *ℤ pos i) *ℤ (pos d *ℤ pos j)) first (exchanged (pos a) (pos i) (pos d) (pos j)))
      (same_then m first second ((pos b *ℤ pos i) *ℤ (pos c *ℤ pos j))
      (same_products m (pos a *ℤ pos d) (pos b *ℤ pos c) (pos i *ℤ pos j) (pos i *ℤ pos j) same_crossed (same_equal m (pos i *ℤ pos j) (pos i *ℤ pos j) refl))
      (same_equal m second ((pos b *ℤ pos i) *ℤ (pos c *ℤ pos j)) (exchanged (pos b) (pos c) (pos i) (pos j))))

  module _ (k l : ℕ) (i_is : IsSame m (pos b *ℤ pos i) (pos 1)) (j_is : IsSame m (pos d *ℤ pos j) (pos 1)) (k_is : IsSame m (pos a *ℤ pos i) (pos k))
      (l_is : IsSame m (pos c *ℤ pos j) (pos l)) where
    same_keys : IsSame m (pos k) (pos l)
    same_keys =
        let left = (pos a *ℤ pos i) *ℤ (pos d *ℤ pos j) in
        let right = (pos b *ℤ pos i) *ℤ (pos c *ℤ pos j) in
        same_then m (pos k) (pos k *ℤ pos 1) (pos l) (same_equal m (pos k) (pos k *ℤ pos 1) (sym (*ℤ_comm (pos k) (pos 1) ∙ one-times (pos k))))
        (same_then m (pos k *ℤ pos 1) left (pos l)
        (same_back m left (pos k *ℤ pos 1) (same_products m (pos a *ℤ pos i) (pos k) (pos d *ℤ pos j) (pos 1) k_is j_is))
        (same_then m left right (pos l) over
        (same_then m right (pos 1 *ℤ pos l) (pos l) (same_products m (pos b *ℤ pos i) (pos 1) (pos c *ℤ pos j) (pos l) i_is l_is)
        (same_equal m (pos 1 *ℤ pos l) (pos l) (one-times (pos l))))))

-- ---- of points

pub one_key : (u v s t : ℤ) (point other : Point) (key another : ℕ) → u *ℤ t ≡ v *ℤ s → IsLeftModulo u point.first → IsLeftModulo v point.second →
    IsLeftModulo s other.first → IsLeftModulo t other.second → IsKey point key → IsKey other another → key ≡ another
one_key u v s t point other key another equal u_is v_is s_is t_is first second =
    same_below modulus key another first.is.0 second.is.0
    (same_keys modulus u v s t equal point.first point.second other.first other.second first.inverse second.inverse u_is.1 v_is.1 s_is.1 t_is.1 key another
    (product_is modulus point.second first.inverse 1 first.is_inverse.1) (product_is modulus other.second second.inverse 1 second.is_inverse.1)
    (product_is modulus point.first first.inverse key first.is.1) (product_is modulus other.first second.inverse another second.is.1))

zero_not_one : (x y : ℕ) → x ≡ 0 → y ≡ 1 → x ≡ y → ⊥
zero_not_one x y zero_is one_is e = omega arith

-- a point whose second sum is 0 has no key
no_inverse : (m b i : ℕ) → 1 < m → b < m → IsSame m (pos 0) (pos b) → IsSame m (pos (b * i)) (pos 1) → ⊥
no_inverse m b i above below none inverse =
    let zero_is : 0 ≡ b = same_below m 0 b (omega arith) below none in
    let product : pos b *ℤ pos i ≡ pos 0 = ap (λ (x : ℕ). pos x *ℤ pos i) (sym zero_is) ∙ zero-*ℤ (pos i) in
    zero_not_one 0 1 refl refl (same_below m 0 1 (omega arith) above (subst (λ z. IsSame m z (pos 1)) product (product_is m b i 1 inverse)))

pub no_key : (v : ℤ) (point : Point) (key : ℕ) → v ≡ pos 0 → IsLeftModulo v point.second → IsKey point key → ⊥
no_key v point key none v_is h =
    no_inverse modulus point.second h.inverse (omega arith) v_is.0 (subst (λ z. IsSame modulus z (pos point.second)) none v_is.1) h.is_inverse.1

-- ---- multiples

-- a factor that isn't 0 goes away
pub cancelled : (a x y : ℤ) → a ≢ pos 0 → a *ℤ x ≡ a *ℤ y → x ≡ y
cancelled a x y some e =
    let difference = times-less a x y in
    let none : x -ℤ y ≡ pos 0 = zero_product a (x -ℤ y) (omega (arith, ints)) some in
    omega (arith, ints)

-- two pairs of numbers, one a multiple of the other, have equal cross products
pub crossed : (a c u v s t : ℤ) → a ≢ pos 0 → a *ℤ u ≡ c *ℤ s → a *ℤ v ≡ c *ℤ t → u *ℤ t ≡ v *ℤ s
crossed a c u v s t some first second = cancelled a (u *ℤ t) (v *ℤ s) some
    (sym (times_assoc a u t) ∙ ap (λ z. z *ℤ t) first ∙ times_assoc c s t ∙ ap (λ z. c *ℤ z) (*ℤ_comm s t) ∙ sym (times_assoc c t s)
    ∙ ap (λ z. z *ℤ s) (sym second) ∙ times_assoc a v s)
