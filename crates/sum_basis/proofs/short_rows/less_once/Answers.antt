use Rattle.std.proofs.Common.{◌≤◌, ◌<◌, ◌+◌, ◌^◌, ℤ, arith}
use Rattle.std.specs.Prelude.{FitsSigned, ◌-ℤ◌, unsigned_abs}
use Rattle.std.specs.Int.{w64}
use Rattle.std.proofs.lemmas.Int.{ints, to_z-of_z, fits_signed_from_abs}
use Rattle.sum_basis.specs.Limits.{most_short}
use Rattle.sum_basis.proofs.short_rows.less_once.Goals as goal

-- the difference fits
fits : (x y : ℤ) → unsigned_abs x + most_short < 2 ^ 63 → unsigned_abs y ≤ most_short → FitsSigned w64 (x -ℤ y)
fits x y p q = fits_signed_from_abs w64 (x -ℤ y) (omega (arith, ints))

pub overflow_sub-result : goal.overflow_sub-result
overflow_sub-result c = rw (to_z-of_z w64 c.args.x c.ranges.x, to_z-of_z w64 c.args.y c.ranges.y) (fits c.args.x c.args.y c.requires.x c.requires.y)

pub returns : goal.returns
returns c =
    rw (to_z-of_z w64 c.args.x c.ranges.x, to_z-of_z w64 c.args.y c.ranges.y)
    (to_z-of_z w64 (c.args.x -ℤ c.args.y) (fits c.args.x c.args.y c.requires.x c.requires.y))
