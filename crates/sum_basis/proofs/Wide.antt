-- Numbers of 128 bits that are multiplied and taken from one another without loss.
use Rattle.std.proofs.Common.{◌≡◌, ◌≤◌, ◌^◌, ℤ, ap, ◌∙◌, arith}
use Rattle.std.specs.Prelude.{◌-ℤ◌, ◌*ℤ◌, unsigned_abs, FitsSigned}
use Rattle.std.specs.Int.{w128}
use mir.Val.{to_z, of_z}
use Rattle.std.proofs.lemmas.Int.{ints, to_z-of_z, fits_signed_from_abs}
use Rattle.audit_types.specs.Numbers.{product_small}

-- a product as the code has it
pub product_of : (p x y : ℤ) → FitsSigned w128 p → FitsSigned w128 x → FitsSigned w128 y → p ≡ to_z w128 (of_z w128 x) *ℤ to_z w128 (of_z w128 y) →
    to_z w128 (of_z w128 p) ≡ x *ℤ y
product_of p x y f g h e = to_z-of_z w128 p f ∙ e ∙ ap (λ z. z *ℤ to_z w128 (of_z w128 y)) (to_z-of_z w128 x g) ∙ ap (λ z. x *ℤ z) (to_z-of_z w128 y h)

-- the difference of two products of small numbers fits
pub difference_fits : (by x times y : ℤ) → unsigned_abs by ≤ 2 ^ 56 → unsigned_abs x ≤ 2 ^ 56 → unsigned_abs times ≤ 2 ^ 56 → unsigned_abs y ≤ 2 ^ 56 →
    FitsSigned w128 (by *ℤ x -ℤ times *ℤ y)
difference_fits by x times y p q r s =
    let one = product_small by x p q in
    let two = product_small times y r s in
    fits_signed_from_abs w128 (by *ℤ x -ℤ times *ℤ y) (omega (arith, ints))
