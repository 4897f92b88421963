-- Keys by one inverse: that of a product, times all but one of its factors, is that of the factor.
use Rattle.std.proofs.Common.{ℕ, ◌+◌, ◌*◌, pos, List, get_or, refl, sym, ap, subst, add-one, arith}
use Rattle.sum_basis.specs.Points.{modulus, IsLeftModulo, IsKey}
use Rattle.sum_basis.specs.Keys.{product_before}
use Rattle.sum_basis.specs.declared.points.Point.{Point}
use Rattle.sum_basis.proofs.SameModulo.{same_equal, same_back, same_then}
use Rattle.sum_basis.proofs.LeftModulo.{left_same, same_naturals}

abbrev pub no_point : Point
no_point = record { first = 0; second = 0 }

-- the product of one more second sum
pub product_more : (points : List Point) (j product next : ℕ) → IsLeftModulo (pos (product_before points j)) product →
    IsLeftModulo (pos (product * (get_or points j no_point).second)) next → IsLeftModulo (pos (product_before points (j + 1))) next
product_more points j product next is more =
    let second = (get_or points j no_point).second in
    subst (λ k. IsLeftModulo (pos (product_before points k)) next) (sym (add-one j))
    (left_same (pos (product_before points j * second)) (pos (product * second)) next
    (same_naturals (product_before points j) product second second is.1 (same_equal modulus (pos second) (pos second) refl)) more)

-- the inverse of what is left of a product is its own
pub inverse_of_all : (product left inverse : ℕ) → IsLeftModulo (pos product) left → IsLeftModulo (pos (left * inverse)) 1 →
    IsLeftModulo (pos (product * inverse)) 1
inverse_of_all product left inverse is one =
    left_same (pos (product * inverse)) (pos (left * inverse)) 1
    (same_naturals product left inverse inverse is.1 (same_equal modulus (pos inverse) (pos inverse) refl)) one

module _ (points : List Point) (j product inverse own : ℕ) (is : IsLeftModulo (pos (product_before points j)) product)
    (whole : IsLeftModulo (pos (product_before points (j + 1) * inverse)) 1) (own_is : IsLeftModulo (pos (product * inverse)) own) where
  whole_is : IsLeftModulo (pos ((product_before points j * (get_or points j no_point).second) * inverse)) 1
  whole_is = subst (λ k. IsLeftModulo (pos (product_before points k * inverse)) 1) (add-one j) whole

  -- the product before a factor, times the inverse, is the factor's inverse
  own_inverse : IsLeftModulo (pos ((get_or points j no_point).second * own)) 1
  own_inverse =
      let before = product_before points j in
      let second = (get_or points j no_point).second in
      left_same (pos (second * own)) (pos ((before * second) * inverse)) 1
      (same_then modulus (pos (second * own)) (pos (second * (before * inverse))) (pos ((before * second) * inverse))
      (same_naturals second second own (before * inverse) (same_equal modulus (pos second) (pos second) refl)
      (same_then modulus (pos own) (pos (product * inverse)) (pos (before * inverse)) (same_back modulus (pos (product * inverse)) (pos own) own_is.1)
      (same_naturals product before inverse inverse (same_back modulus (pos before) (pos product) is.1)
      (same_equal modulus (pos inverse) (pos inverse) refl))))
      (same_equal modulus (pos (second * (before * inverse))) (pos ((before * second) * inverse)) (ap pos (omega arith)))) whole_is

  -- and so the key is that by it
  pub own_key : (key : ℕ) → IsLeftModulo (pos ((get_or points j no_point).first * own)) key → IsKey (get_or points j no_point) key
  own_key key key_is = record { inverse = own; is_inverse = own_inverse; is = key_is }

  -- the inverse times the factor is that of the product before it
  pub inverse_before : (next : ℕ) → IsLeftModulo (pos (inverse * (get_or points j no_point).second)) next →
      IsLeftModulo (pos (product_before points j * next)) 1
  inverse_before next next_is =
      let before = product_before points j in
      let second = (get_or points j no_point).second in
      left_same (pos (before * next)) (pos ((before * second) * inverse)) 1
      (same_then modulus (pos (before * next)) (pos (before * (inverse * second))) (pos ((before * second) * inverse))
      (same_naturals before before next (inverse * second) (same_equal modulus (pos before) (pos before) refl)
      (same_back modulus (pos (inverse * second)) (pos next) next_is.1))
      (same_equal modulus (pos (before * (inverse * second))) (pos ((before * second) * inverse)) (ap pos (omega arith)))) whole_is
