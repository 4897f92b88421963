use Rattle.std.proofs.Common.{◌≡◌, ◌/◌, ℤ, pos, refl, sym, ◌∙◌, ap, subst, rules, to_z, of_z, w64}
use Rattle.std.specs.Prelude.{unsigned_abs, FitsSigned, int_div}
use Rattle.std.specs.Int.{IsGcd}
use Rattle.std.proofs.lemmas.Int.{to_z-of_z}
use Rattle.line_wire.specs.Reply.{IsAverage}
use Rattle.question_plan.specs.Replies.{IsMean}
use Rattle.question_plan.proofs.Means.{mean, in_range}
use Rattle.question_plan.proofs.averages.average.Goals as goal

pub returns-clause-tells : goal.returns-clause-tells
returns-clause-tells c =
    let num : FitsSigned w64 c.quotient.result = search rules in
    let sum : to_z w64 (of_z w64 c.args.sum) ≡ c.args.sum = to_z-of_z w64 c.args.sum c.ranges.sum in
    let is = to_z-of_z w64 c.quotient.result num ∙ c.quotient.ensures ∙ ap (λ (z : ℤ). int_div z (pos c.divisor_of-divisor.result)) sum in
    let divisor = subst (λ (z : ℤ). IsGcd (unsigned_abs z) c.args.people c.divisor_of-divisor.result) sum c.divisor_of-divisor.ensures.divisor in (
      to_z w64 (of_z w64 c.quotient.result),
      c.args.people / c.divisor_of-divisor.result,
      subst (λ (z : ℤ). IsMean c.args.sum c.args.people z (c.args.people / c.divisor_of-divisor.result)) (sym is)
          (mean c.args.sum c.args.people c.divisor_of-divisor.result c.requires.somebody divisor),
      refl,
    )

pub returns-clause-in_range : goal.returns-clause-in_range
returns-clause-in_range c =
    let num : FitsSigned w64 c.quotient.result = search rules in
    let sum : to_z w64 (of_z w64 c.args.sum) ≡ c.args.sum = to_z-of_z w64 c.args.sum c.ranges.sum in
    let is = to_z-of_z w64 c.quotient.result num ∙ c.quotient.ensures ∙ ap (λ (z : ℤ). int_div z (pos c.divisor_of-divisor.result)) sum in
    let divisor = subst (λ (z : ℤ). IsGcd (unsigned_abs z) c.args.people c.divisor_of-divisor.result) sum c.divisor_of-divisor.ensures.divisor in
    subst (λ (z : ℤ). IsAverage z (c.args.people / c.divisor_of-divisor.result)) (sym is)
    (in_range c.args.sum c.args.people c.divisor_of-divisor.result c.requires.somebody divisor c.requires.at_most c.requires.small)
