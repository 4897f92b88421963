use Rattle.std.proofs.Common.{◌≤◌, ◌^◌, ℤ, arith}
use Rattle.std.specs.Prelude.{FitsSigned, ◌-ℤ◌, ◌*ℤ◌, unsigned_abs}
use Rattle.std.specs.Int.{w128}
use Rattle.std.proofs.lemmas.Int.{to_z-of_z, fits_signed_from_abs}
use Rattle.sum_basis.proofs.LargeProducts.{part_small, between_small}
use Rattle.sum_basis.proofs.reach.wide_difference.Goals as goal

-- a product of parts fits
part_fits : (x y : ℤ) → unsigned_abs x ≤ 2 ^ 56 → unsigned_abs y ≤ 2 ^ 64 → FitsSigned w128 (x *ℤ y)
part_fits x y p q = fits_signed_from_abs w128 (x *ℤ y) (let small = part_small x y p q in omega arith)

-- and so does what is between two
between_fits : (by x times y : ℤ) → unsigned_abs by ≤ 2 ^ 56 → unsigned_abs x ≤ 2 ^ 64 → unsigned_abs times ≤ 2 ^ 56 → unsigned_abs y ≤ 2 ^ 64 →
    FitsSigned w128 (by *ℤ x -ℤ times *ℤ y)
between_fits by x times y p q r s = fits_signed_from_abs w128 (by *ℤ x -ℤ times *ℤ y) (let small = between_small by x times y p q r s in omega arith)

pub overflow_sub-result : goal.overflow_sub-result
overflow_sub-result c =
    rw (
      to_z-of_z w128 c.args.by c.ranges.by,
      to_z-of_z w128 c.args.x c.ranges.x,
      to_z-of_z w128 c.args.times c.ranges.times,
      to_z-of_z w128 c.args.y c.ranges.y,
      to_z-of_z w128 (c.args.by *ℤ c.args.x) (part_fits c.args.by c.args.x c.requires.by c.requires.x),
      to_z-of_z w128 (c.args.times *ℤ c.args.y) (part_fits c.args.times c.args.y c.requires.times c.requires.y),
    )
    (between_fits c.args.by c.args.x c.args.times c.args.y c.requires.by c.requires.x c.requires.times c.requires.y)

pub returns-clause-exact : goal.returns-clause-exact
returns-clause-exact c =
    rw (
      to_z-of_z w128 c.args.by c.ranges.by,
      to_z-of_z w128 c.args.x c.ranges.x,
      to_z-of_z w128 c.args.times c.ranges.times,
      to_z-of_z w128 c.args.y c.ranges.y,
      to_z-of_z w128 (c.args.by *ℤ c.args.x) (part_fits c.args.by c.args.x c.requires.by c.requires.x),
      to_z-of_z w128 (c.args.times *ℤ c.args.y) (part_fits c.args.times c.args.y c.requires.times c.requires.y),
    )
    (to_z-of_z w128 (c.args.by *ℤ c.args.x -ℤ c.args.times *ℤ c.args.y)
    (between_fits c.args.by c.args.x c.args.times c.args.y c.requires.by c.requires.x c.requires.times c.requires.y))

pub returns-clause-small : goal.returns-clause-small
returns-clause-small c =
    rw (
      to_z-of_z w128 c.args.by c.ranges.by,
      to_z-of_z w128 c.args.x c.ranges.x,
      to_z-of_z w128 c.args.times c.ranges.times,
      to_z-of_z w128 c.args.y c.ranges.y,
      to_z-of_z w128 (c.args.by *ℤ c.args.x) (part_fits c.args.by c.args.x c.requires.by c.requires.x),
      to_z-of_z w128 (c.args.times *ℤ c.args.y) (part_fits c.args.times c.args.y c.requires.times c.requires.y),
      to_z-of_z w128 (c.args.by *ℤ c.args.x -ℤ c.args.times *ℤ c.args.y)
          (between_fits c.args.by c.args.x c.args.times c.args.y c.requires.by c.requires.x c.requires.times c.requires.y),
    )
    (between_small c.args.by c.args.x c.args.times c.args.y c.requires.by c.requires.x c.requires.times c.requires.y)
