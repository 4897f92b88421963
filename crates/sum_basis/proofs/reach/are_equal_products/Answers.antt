use Rattle.std.proofs.Common.{◌≤◌, ◌^◌, ℤ, sym, ◌∙◌, arith, rules}
use Rattle.std.specs.Prelude.{FitsSigned, ◌+ℤ◌, unsigned_abs}
use Rattle.std.specs.Int.{w128}
use Rattle.std.proofs.lemmas.Int.{ints, to_z-of_z, fits_signed_from_abs}
use Rattle.sum_basis.proofs.LargeProducts.{between_parts, zero_parts, parts_zero}
use Rattle.sum_basis.proofs.reach.are_equal_products.Goals as goal

-- the sum of the high parts fits
sum_fits : (x y : ℤ) → unsigned_abs x ≤ 2 ^ 121 → unsigned_abs y ≤ 2 ^ 64 → FitsSigned w128 (x +ℤ y)
sum_fits x y p q = fits_signed_from_abs w128 (x +ℤ y) (omega (arith, ints))

pub overflow_add-high : goal.overflow_add-high
overflow_add-high c =
    let high : FitsSigned w128 c.wide_difference-high.result = search rules in
    let part : FitsSigned w128 c.parts_of-low.result.high = search rules in
    rw (to_z-of_z w128 c.wide_difference-high.result high, to_z-of_z w128 c.parts_of-low.result.high part)
    (sum_fits c.wide_difference-high.result c.parts_of-low.result.high c.wide_difference-high.ensures.small c.parts_of-low.ensures.high)

pub returns : goal.returns
returns c =
    let xh : FitsSigned w128 c.parts_of-first.result.high = search rules in
    let xl : FitsSigned w128 c.parts_of-first.result.low = search rules in
    let yh : FitsSigned w128 c.parts_of-second.result.high = search rules in
    let yl : FitsSigned w128 c.parts_of-second.result.low = search rules in
    let high : FitsSigned w128 c.wide_difference-high.result = search rules in
    let low : FitsSigned w128 c.wide_difference.result = search rules in
    let lh : FitsSigned w128 c.parts_of-low.result.high = search rules in
    let ll : FitsSigned w128 c.parts_of-low.result.low = search rules in
    let x_is = sym (to_z-of_z w128 c.args.x c.ranges.x) ∙ c.parts_of-first.ensures.is in
    let y_is = sym (to_z-of_z w128 c.args.y c.ranges.y) ∙ c.parts_of-second.ensures.is in
    let by_is = to_z-of_z w128 c.args.by c.ranges.by in
    let times_is = to_z-of_z w128 c.args.times c.ranges.times in
    let high_is = rw (by_is, to_z-of_z w128 c.parts_of-first.result.high xh, times_is, to_z-of_z w128 c.parts_of-second.result.high yh)
    at c.wide_difference-high.ensures.exact in
    let low_is = rw (by_is, to_z-of_z w128 c.parts_of-first.result.low xl, times_is, to_z-of_z w128 c.parts_of-second.result.low yl)
    at c.wide_difference.ensures.exact in
    let low_parts = sym (to_z-of_z w128 c.wide_difference.result low) ∙ c.parts_of-low.ensures.is in
    let whole = between_parts c.args.by c.args.x c.args.times c.args.y c.parts_of-first.result.high c.parts_of-first.result.low c.parts_of-second.result.high
    c.parts_of-second.result.low c.wide_difference-high.result c.wide_difference.result c.parts_of-low.result.high c.parts_of-low.result.low
    x_is y_is high_is low_is low_parts in
    let sum = c.wide_difference-high.result +ℤ c.parts_of-low.result.high in
    let fits = sum_fits c.wide_difference-high.result c.parts_of-low.result.high c.wide_difference-high.ensures.small c.parts_of-low.ensures.high in
    let told =
    rw (
      to_z-of_z w128 c.wide_difference-high.result high,
      to_z-of_z w128 c.parts_of-low.result.high lh,
      to_z-of_z w128 sum fits,
      to_z-of_z w128 c.parts_of-low.result.low ll,
    )
    at c.are_zero.ensures in (
      λ yes. let zero = told.0 yes in whole ∙ parts_zero sum c.parts_of-low.result.low zero.0 zero.1,
      λ none. told.1 (zero_parts sum c.parts_of-low.result.low c.parts_of-low.ensures.low (sym whole ∙ none)),
    )
