use Rattle.std.proofs.Common.{◌≡◌, ◌≤◌, ◌<◌, ◌+◌, ◌^◌, ℤ, pos, sym, ap, ◌∙◌, arith, rules}
use Rattle.std.specs.Prelude.{FitsSigned, ◌-ℤ◌, ◌*ℤ◌, unsigned_abs}
use Rattle.std.specs.Int.{w128}
use mir.Val.{to_z, of_z}
use Rattle.audit_types.specs.Products.{one-times}
use Rattle.std.proofs.lemmas.Int.{ints, to_z-of_z, fits_signed_from_abs}
use Rattle.audit_types.specs.Numbers.{product_small}
use Rattle.sum_basis.proofs.Wide.{product_of}
use Rattle.sum_basis.proofs.sparse.less.Goals as goal

-- the difference fits
less_fits : (x times y : ℤ) → unsigned_abs x + 2 ^ 112 < 2 ^ 127 → unsigned_abs times ≤ 2 ^ 56 → unsigned_abs y ≤ 2 ^ 56 → FitsSigned w128 (x -ℤ times *ℤ y)
less_fits x times y p q r =
    let product = product_small times y q r in
    fits_signed_from_abs w128 (x -ℤ times *ℤ y) (omega (arith, ints))

pub product-requires-clause-x : goal.product-requires-clause-x
product-requires-clause-x c = rw (to_z-of_z w128 c.args.times c.ranges.times) c.requires.times

pub product-requires-clause-y : goal.product-requires-clause-y
product-requires-clause-y c = rw (to_z-of_z w128 c.args.y c.ranges.y) c.requires.y

-- once y is y
once : (x y times : ℤ) → times ≡ pos 1 → x -ℤ y ≡ x -ℤ times *ℤ y
once x y times is = ap (λ z. x -ℤ z) (sym (ap (λ t. t *ℤ y) is ∙ one-times y))

-- what the bits of 1 are
one_from_bits : (z : ℤ) → FitsSigned w128 z → of_z w128 z ≡ 1 → z ≡ pos 1
one_from_bits z fits e = sym (to_z-of_z w128 z fits) ∙ ap (to_z w128) e

difference_fits : (x y : ℤ) → unsigned_abs x + 2 ^ 112 < 2 ^ 127 → unsigned_abs y ≤ 2 ^ 56 → FitsSigned w128 (x -ℤ y)
difference_fits x y p q = fits_signed_from_abs w128 (x -ℤ y) (omega (arith, ints))

pub overflow_sub-result : goal.overflow_sub-result
overflow_sub-result c =
    rw (to_z-of_z w128 c.args.x c.ranges.x, to_z-of_z w128 c.args.y c.ranges.y) (difference_fits c.args.x c.args.y c.requires.x c.requires.y)

pub returns-then-times-eq1 : goal.returns-then-times-eq1
returns-then-times-eq1 c =
    rw (to_z-of_z w128 c.args.x c.ranges.x, to_z-of_z w128 c.args.y c.ranges.y)
    (to_z-of_z w128 (c.args.x -ℤ c.args.y) (difference_fits c.args.x c.args.y c.requires.x c.requires.y)
    ∙ once c.args.x c.args.y c.args.times (one_from_bits c.args.times c.ranges.times c.if-times-eq1.true))

pub overflow_sub-result-2 : goal.overflow_sub-result-2
overflow_sub-result-2 c =
    let p : FitsSigned w128 c.product.result = search rules in
    let product = product_of c.product.result c.args.times c.args.y p c.ranges.times c.ranges.y c.product.ensures.exact in
    rw (to_z-of_z w128 c.args.x c.ranges.x, product) (less_fits c.args.x c.args.times c.args.y c.requires.x c.requires.times c.requires.y)

pub returns : goal.returns
returns c =
    let p : FitsSigned w128 c.product.result = search rules in
    let product = product_of c.product.result c.args.times c.args.y p c.ranges.times c.ranges.y c.product.ensures.exact in
    rw (to_z-of_z w128 c.args.x c.ranges.x, product)
    (to_z-of_z w128 (c.args.x -ℤ c.args.times *ℤ c.args.y) (less_fits c.args.x c.args.times c.args.y c.requires.x c.requires.times c.requires.y))
