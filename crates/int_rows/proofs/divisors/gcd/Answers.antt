use Rattle.std.proofs.Common.{ℕ, arith, subst}
use Rattle.std.specs.Int.{IsGcd}
use Rattle.std.specs.Prelude.{unsigned_abs}
use Rattle.std.proofs.lemmas.Int.{ints}
use Rattle.int_rows.specs.ContentLaws.{size_is}
use Rattle.int_rows.proofs.divisors.gcd.Goals as goal

pub returns : goal.returns
returns c =
    let first = size_is c.args.a c.unsigned_abs.result c.ranges.a c.unsigned_abs.ensures.value in
    let second = size_is c.args.b c.unsigned_abs-2.result c.ranges.b c.unsigned_abs-2.ensures.value in (
      c.common_divisor.result,
      omega (arith, ints),
      subst (λ (m : ℕ). IsGcd m (unsigned_abs c.args.b) c.common_divisor.result) first
          (subst (λ (m : ℕ). IsGcd c.unsigned_abs.result m c.common_divisor.result) second c.common_divisor.ensures.divisor),
      c.common_divisor.ensures.small,
    )
