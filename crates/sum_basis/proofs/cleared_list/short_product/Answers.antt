use Rattle.std.proofs.Common.{◌≡◌, ◌≤◌, ◌^◌, ℤ, ap, ◌∙◌, arith}
use Rattle.std.specs.Prelude.{FitsSigned, ◌*ℤ◌, unsigned_abs}
use Rattle.std.specs.Int.{w64, w128}
use mir.Val.{to_z, of_z}
use Rattle.std.proofs.lemmas.Int.{to_z-of_z, fits_signed_from_abs}
use Rattle.audit_types.specs.Numbers.{product_small}
use Rattle.sum_basis.proofs.cleared_list.short_product.Goals as goal

-- a number of 64 bits, as one of 128
widened : (z : ℤ) → FitsSigned w64 z → unsigned_abs z ≤ 2 ^ 56 → to_z w128 (of_z w128 (to_z w64 (of_z w64 z))) ≡ z
widened z fits small = ap (λ x. to_z w128 (of_z w128 x)) (to_z-of_z w64 z fits) ∙ to_z-of_z w128 z (fits_signed_from_abs w128 z (omega arith))

-- the product of two of them, as the code has it
product_is : (x y : ℤ) → FitsSigned w64 x → FitsSigned w64 y → unsigned_abs x ≤ 2 ^ 56 → unsigned_abs y ≤ 2 ^ 56
    → to_z w128 (of_z w128 (to_z w128 (of_z w128 (to_z w64 (of_z w64 x))) *ℤ to_z w128 (of_z w128 (to_z w64 (of_z w64 y))))) ≡ x *ℤ y
product_is x y p q small also =
    ap (λ z. to_z w128 (of_z w128 (z *ℤ to_z w128 (of_z w128 (to_z w64 (of_z w64 y)))))) (widened x p small)
    ∙ ap (λ z. to_z w128 (of_z w128 (x *ℤ z))) (widened y q also)
    ∙ to_z-of_z w128 (x *ℤ y) (fits_signed_from_abs w128 (x *ℤ y) (let size = product_small x y small also in omega arith))

pub returns : goal.returns
returns c = product_is c.args.x c.args.y c.ranges.x c.ranges.y c.requires.x c.requires.y
