use Rattle.std.proofs.Common.{◌≡◌, ◌<◌, ◌^◌, ℤ, pos, true, Bool, sym, ap, ◌∙◌, subst, arith, rules}
use Rattle.std.specs.Prelude.{FitsSigned, unsigned_abs, IsTrue, ◌*ℤ◌}
use Rattle.std.specs.Int.{w64, w128}
use mir.Val.{to_z, of_z}
use Rattle.std.proofs.lemmas.Int.{to_z-of_z, fits_signed_from_abs}
use Rattle.std.proofs.Math.IntN.{*ℤ-zero}
use Rattle.int_rows.specs.Exact.{divided}
use Rattle.int_rows.specs.PrimitiveLaws.{zero_from_bits, short_is}
use Rattle.int_rows.proofs.divisors.quotient.Goals.{then-of-eq1-via-then-of-eq1, then-of-eq1-via-else-of-eq1+then-multiple-eq0}
use Rattle.int_rows.proofs.divisors.quotient.Goals as goal
use Rattle.audit_types.specs.Products.{one-times}

of_zero : (multiple of : ℤ) → multiple ≡ pos 0 → multiple ≡ of *ℤ multiple
of_zero multiple of e = e ∙ sym (ap (λ z. of *ℤ z) e ∙ *ℤ-zero of)

by_one : (multiple of : ℤ) → of ≡ pos 1 → multiple ≡ of *ℤ multiple
by_one multiple of e = sym (one-times multiple) ∙ sym (ap (λ z. z *ℤ multiple) e)

pub returns-then-of-eq1 : goal.returns-then-of-eq1
returns-then-of-eq1 c = rw (to_z-of_z w128 c.args.multiple c.ranges.multiple) (elim c.then-of-eq1.branch [
  | then-of-eq1-via-then-of-eq1 w ↦ by_one c.args.multiple c.args.of (sym (to_z-of_z w128 c.args.of c.ranges.of) ∙ ap (to_z w128) w.if-of-eq1.true)
  | then-of-eq1-via-else-of-eq1+then-multiple-eq0 w ↦ of_zero c.args.multiple c.args.of
      (zero_from_bits c.args.multiple c.ranges.multiple w.if-multiple-eq0.true)
])

-- a size that was tested
tested : (z : ℤ) (b : Bool) → FitsSigned w128 z → b ≡ true → (IsTrue b → unsigned_abs (to_z w128 (of_z w128 z)) < 2 ^ 62) → unsigned_abs z < 2 ^ 62
tested z b fits is size = subst (λ (x : ℤ). unsigned_abs x < 2 ^ 62) (to_z-of_z w128 z fits) (size is)

pub short_quotient-requires-clause-divides : goal.short_quotient-requires-clause-divides
short_quotient-requires-clause-divides c =
    let one = short_is c.args.multiple c.ranges.multiple (tested c.args.multiple c.is_short.result c.ranges.multiple c.if-is_short.true c.is_short.ensures.0) in
    let two = short_is c.args.of c.ranges.of (tested c.args.of c.is_short-then-is_short.result c.ranges.of c.if-is_short-2.true
    c.is_short-then-is_short.ensures.0) in
    rw (one, two) c.requires.divides

pub returns-then-is_short-2 : goal.returns-then-is_short-2
returns-then-is_short-2 c =
    let one = short_is c.args.multiple c.ranges.multiple (tested c.args.multiple c.is_short.result c.ranges.multiple c.if-is_short.true c.is_short.ensures.0) in
    let two = short_is c.args.of c.ranges.of (tested c.args.of c.is_short-then-is_short.result c.ranges.of c.if-is_short-2.true
    c.is_short-then-is_short.ensures.0) in
    let q : FitsSigned w64 c.short_quotient.result = search rules in
    let wide : FitsSigned w128 c.short_quotient.result = search rules in
    sym one ∙ c.short_quotient.ensures ∙ ap (λ z. z *ℤ c.short_quotient.result) two
    ∙ ap (λ z. c.args.of *ℤ z) (sym (ap (λ z. to_z w128 (of_z w128 z)) (to_z-of_z w64 c.short_quotient.result q) ∙ to_z-of_z w128 c.short_quotient.result wide))

pub returns-else-is_short : goal.returns-else-is_short
returns-else-is_short c = divided c.args.multiple c.args.of c.requires.not_zero c.ranges.multiple c.ranges.of c.requires.size c.requires.divides

pub overflow_cast-multiple : goal.overflow_cast-multiple
overflow_cast-multiple c =
    let small = tested c.args.multiple c.is_short.result c.ranges.multiple c.if-is_short.true c.is_short.ensures.0 in
    rw (to_z-of_z w128 c.args.multiple c.ranges.multiple) (fits_signed_from_abs w64 c.args.multiple (omega (arith, small)))

pub overflow_cast-of : goal.overflow_cast-of
overflow_cast-of c =
    let small = tested c.args.of c.is_short-then-is_short.result c.ranges.of c.if-is_short-2.true c.is_short-then-is_short.ensures.0 in
    rw (to_z-of_z w128 c.args.of c.ranges.of) (fits_signed_from_abs w64 c.args.of (omega (arith, small)))

pub short_quotient-requires-clause-not_zero : goal.short_quotient-requires-clause-not_zero
short_quotient-requires-clause-not_zero c =
    let small = tested c.args.of c.is_short-then-is_short.result c.ranges.of c.if-is_short-2.true c.is_short-then-is_short.ensures.0 in
    rw (short_is c.args.of c.ranges.of small) c.requires.not_zero

pub short_quotient-requires-clause-size : goal.short_quotient-requires-clause-size
short_quotient-requires-clause-size c =
    let small = tested c.args.multiple c.is_short.result c.ranges.multiple c.if-is_short.true c.is_short.ensures.0 in
    rw (short_is c.args.multiple c.ranges.multiple small) small
