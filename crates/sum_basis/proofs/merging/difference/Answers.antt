use Rattle.std.proofs.Common.{◌≤◌, ◌^◌, ℤ, arith, rules}
use Rattle.std.specs.Prelude.{FitsSigned, ◌-ℤ◌, ◌*ℤ◌, unsigned_abs}
use Rattle.std.specs.Int.{w128}
use Rattle.std.proofs.lemmas.Int.{ints, to_z-of_z}
use Rattle.audit_types.specs.Numbers.{product_small}
use Rattle.sum_basis.proofs.Wide.{product_of, difference_fits}
use Rattle.sum_basis.proofs.merging.difference.Goals as goal

pub product-requires-clause-x : goal.product-requires-clause-x
product-requires-clause-x c = rw (to_z-of_z w128 c.args.by c.ranges.by) c.requires.by

pub product-requires-clause-y : goal.product-requires-clause-y
product-requires-clause-y c = rw (to_z-of_z w128 c.args.x c.ranges.x) c.requires.x

pub product-requires-2-clause-x : goal.product-requires-2-clause-x
product-requires-2-clause-x c = rw (to_z-of_z w128 c.args.times c.ranges.times) c.requires.times

pub product-requires-2-clause-y : goal.product-requires-2-clause-y
product-requires-2-clause-y c = rw (to_z-of_z w128 c.args.y c.ranges.y) c.requires.y

pub overflow_sub-result : goal.overflow_sub-result
overflow_sub-result c =
    let p : FitsSigned w128 c.product.result = search rules in
    let q : FitsSigned w128 c.product-2.result = search rules in
    let first = product_of c.product.result c.args.by c.args.x p c.ranges.by c.ranges.x c.product.ensures.exact in
    let second = product_of c.product-2.result c.args.times c.args.y q c.ranges.times c.ranges.y c.product-2.ensures.exact in
    rw (first, second) (difference_fits c.args.by c.args.x c.args.times c.args.y c.requires.by c.requires.x c.requires.times c.requires.y)

pub returns-clause-exact : goal.returns-clause-exact
returns-clause-exact c =
    let p : FitsSigned w128 c.product.result = search rules in
    let q : FitsSigned w128 c.product-2.result = search rules in
    let first = product_of c.product.result c.args.by c.args.x p c.ranges.by c.ranges.x c.product.ensures.exact in
    let second = product_of c.product-2.result c.args.times c.args.y q c.ranges.times c.ranges.y c.product-2.ensures.exact in
    rw (first, second) (to_z-of_z w128 (c.args.by *ℤ c.args.x -ℤ c.args.times *ℤ c.args.y)
    (difference_fits c.args.by c.args.x c.args.times c.args.y c.requires.by c.requires.x c.requires.times c.requires.y))

-- how large it can be
size : (a b x y : ℤ) → unsigned_abs a ≤ 2 ^ 56 → unsigned_abs b ≤ 2 ^ 56 → unsigned_abs x ≤ 2 ^ 56 → unsigned_abs y ≤ 2 ^ 56 →
    unsigned_abs (a *ℤ b -ℤ x *ℤ y) ≤ 2 ^ 113
size a b x y p q r s = let one = product_small a b p q in let two = product_small x y r s in omega (arith, ints)

pub returns-clause-small : goal.returns-clause-small
returns-clause-small c =
    let p : FitsSigned w128 c.product.result = search rules in
    let q : FitsSigned w128 c.product-2.result = search rules in
    let first = product_of c.product.result c.args.by c.args.x p c.ranges.by c.ranges.x c.product.ensures.exact in
    let second = product_of c.product-2.result c.args.times c.args.y q c.ranges.times c.ranges.y c.product-2.ensures.exact in
    rw (
      first,
      second,
      to_z-of_z w128 (c.args.by *ℤ c.args.x -ℤ c.args.times *ℤ c.args.y)
          (difference_fits c.args.by c.args.x c.args.times c.args.y c.requires.by c.requires.x c.requires.times c.requires.y),
    )
    (size c.args.by c.args.x c.args.times c.args.y c.requires.by c.requires.x c.requires.times c.requires.y)
