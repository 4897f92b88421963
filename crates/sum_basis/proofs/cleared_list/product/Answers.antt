use Rattle.std.proofs.Common.{◌≡◌, ◌≤◌, ◌^◌, ℤ, ap, ◌∙◌, arith, rules}
use Rattle.std.specs.Prelude.{FitsSigned, ◌*ℤ◌, unsigned_abs}
use Rattle.std.specs.Int.{w64, w128}
use mir.Val.{to_z, of_z}
use Rattle.std.proofs.lemmas.Int.{to_z-of_z, fits_signed_from_abs}
use Rattle.int_rows.specs.PrimitiveLaws.{short_is}
use Rattle.audit_types.specs.Numbers.{product_small}
use Rattle.sum_basis.proofs.cleared_list.product.Goals as goal

-- a number within the limit, as one of 64 bits
short : (z : ℤ) → FitsSigned w128 z → unsigned_abs z ≤ 2 ^ 56 → to_z w64 (of_z w64 (to_z w128 (of_z w128 z))) ≡ z
short z fits small = short_is z fits (omega arith)

pub short_product-requires-clause-x : goal.short_product-requires-clause-x
short_product-requires-clause-x c = rw (short c.args.x c.ranges.x c.requires.x) c.requires.x

pub short_product-requires-clause-y : goal.short_product-requires-clause-y
short_product-requires-clause-y c = rw (short c.args.y c.ranges.y c.requires.y) c.requires.y

-- the product of the two, as the code has it
product_is : (p x y : ℤ) → FitsSigned w128 p → FitsSigned w128 x → FitsSigned w128 y → unsigned_abs x ≤ 2 ^ 56 → unsigned_abs y ≤ 2 ^ 56
    → p ≡ to_z w64 (of_z w64 (to_z w128 (of_z w128 x))) *ℤ to_z w64 (of_z w64 (to_z w128 (of_z w128 y))) → to_z w128 (of_z w128 p) ≡ x *ℤ y
product_is p x y f g h small also e =
    to_z-of_z w128 p f ∙ e ∙ ap (λ z. z *ℤ to_z w64 (of_z w64 (to_z w128 (of_z w128 y)))) (short x g small) ∙ ap (λ z. x *ℤ z) (short y h also)

pub overflow_cast-x : goal.overflow_cast-x
overflow_cast-x c = rw (to_z-of_z w128 c.args.x c.ranges.x) (fits_signed_from_abs w64 c.args.x (let small = c.requires.x in omega arith))

pub overflow_cast-y : goal.overflow_cast-y
overflow_cast-y c = rw (to_z-of_z w128 c.args.y c.ranges.y) (fits_signed_from_abs w64 c.args.y (let small = c.requires.y in omega arith))

pub returns-clause-exact : goal.returns-clause-exact
returns-clause-exact c =
    let fits : FitsSigned w128 c.short_product.result = search rules in
    product_is c.short_product.result c.args.x c.args.y fits c.ranges.x c.ranges.y c.requires.x c.requires.y c.short_product.ensures

pub returns-clause-small : goal.returns-clause-small
returns-clause-small c =
    let fits : FitsSigned w128 c.short_product.result = search rules in
    rw (product_is c.short_product.result c.args.x c.args.y fits c.ranges.x c.ranges.y c.requires.x c.requires.y c.short_product.ensures)
    (product_small c.args.x c.args.y c.requires.x c.requires.y)
