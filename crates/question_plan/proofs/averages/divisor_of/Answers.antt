use Rattle.std.proofs.Common.{◌≤◌, pos, refl, ◌∙◌, arith, rules, w64}
use Rattle.std.specs.Prelude.{FitsSigned}
use Rattle.std.specs.Int.{w128}
use Rattle.std.proofs.lemmas.Int.{to_z-of_z}
use Rattle.question_plan.proofs.Means.{gcd_of, divisor_some, divisor_below}
use Rattle.question_plan.proofs.averages.divisor_of.Goals as goal

pub returns-clause-divisor : goal.returns-clause-divisor
returns-clause-divisor c =
    let first : FitsSigned w128 c.from.result = search rules in
    let second : FitsSigned w128 c.from-2.result = search rules in
    let third : FitsSigned w128 c.gcd.result = search rules in
    gcd_of _ _ _ c.args.sum c.args.people c.gcd.ensures.0 (to_z-of_z w128 c.from.result first ∙ c.from.ensures ∙ to_z-of_z w64 c.args.sum c.ranges.sum)
    (to_z-of_z w128 c.from-2.result second ∙ c.from-2.ensures) (to_z-of_z w128 c.gcd.result third ∙ c.gcd.ensures.1) c.gcd.ensures.2

pub returns-clause-positive : goal.returns-clause-positive
returns-clause-positive c = divisor_some c.args.sum c.args.people _ c.requires.somebody (returns-clause-divisor c)

pub overflow_cast-result : goal.overflow_cast-result
overflow_cast-result c =
    let first : FitsSigned w128 c.from.result = search rules in
    let second : FitsSigned w128 c.from-2.result = search rules in
    let third : FitsSigned w128 c.gcd.result = search rules in
    let value = to_z-of_z w128 c.gcd.result third ∙ c.gcd.ensures.1 in
    let common = gcd_of _ _ (pos c.gcd.ensures.0) c.args.sum c.args.people c.gcd.ensures.0
    (to_z-of_z w128 c.from.result first ∙ c.from.ensures ∙ to_z-of_z w64 c.args.sum c.ranges.sum)
    (to_z-of_z w128 c.from-2.result second ∙ c.from-2.ensures) refl c.gcd.ensures.2 in
    let small : c.gcd.ensures.0 ≤ c.args.people = divisor_below c.args.sum c.args.people c.gcd.ensures.0 c.requires.somebody common in
    rw value (tt, omega arith)

pub returns-clause-at_most : goal.returns-clause-at_most
returns-clause-at_most c = divisor_below c.args.sum c.args.people _ c.requires.somebody (returns-clause-divisor c)
