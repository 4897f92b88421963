use Rattle.std.proofs.Common.{◌≡◌, Some, rules, SFits, sym, ◌∙◌, arith}
use Rattle.std.specs.Int.{w64}
use Rattle.std.proofs.lemmas.Int.{ints, clamps, to_z-of_z}
use Rattle.max_bounds.proofs.counts.widen.Goals as goal

pub returns-in-Some : goal.returns-in-Some
returns-in-Some c =
    let low_fits : SFits w64 c.min.result = search rules in
    let high_fits : SFits w64 c.max.result = search rules in
    let low = to_z-of_z w64 c.min.result low_fits in
    let high = to_z-of_z w64 c.max.result high_fits in
    record {
      low = omega (arith, ints, clamps, c.min.ensures.value);
      high = omega (arith, ints, clamps, c.max.ensures.value);
      holds = λ b is.
          let both : Some c.in-Some.bound ≡ Some b = sym c.in-Some.is ∙ is in
          let same : c.in-Some.bound ≡ b = cc in
          (omega (arith, ints, clamps, c.min.ensures.value), omega (arith, ints, clamps, c.max.ensures.value));
    }
