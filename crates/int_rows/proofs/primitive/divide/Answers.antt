use Rattle.std.proofs.Common.{◌≡◌, ◌≤◌, ◌^◌, get_or, pos, map, sym, ap, ◌∙◌, arith, rules, subst, refl, ℤ}
use Rattle.std.specs.Prelude.{FitsSigned, unsigned_abs, ◌*ℤ◌}
use Rattle.std.specs.Int.{w128, ◌∣◌}
use Rattle.std.proofs.lemmas.Int.{to_z-of_z}
use Rattle.std.proofs.lemmas.List.Elements.{All-from_recursion}
use mir.Val.{to_z, of_z}
use Rattle.int_rows.specs.PrimitiveLaws.{one_times}
use Rattle.int_rows.specs.Exact.{IsPartlyDivided, one_more, all_divided}
use Rattle.int_rows.proofs.primitive.divide.Goals as goal

-- the number that the code tested
one_is : (by : ℤ) → FitsSigned w128 by → of_z w128 by ≡ 1 → by ≡ pos 1
one_is by fits e = sym (to_z-of_z w128 by fits) ∙ ap (to_z w128) e

pub loop-x-init : goal.loop-x-init
loop-x-init c = record { done = λ k h. absurd (omega arith); left = λ k h. refl }

pub returns-then-by-eq1 : goal.returns-then-by-eq1
returns-then-by-eq1 c =
    subst (λ z. c.args.row.now ≡ map (λ x. z *ℤ x) c.args.row.now) (sym (one_is c.args.by c.ranges.by c.if-by-eq1.true)) (one_times c.args.row.now)

pub quotient-requires-clause-divides : goal.quotient-requires-clause-divides
quotient-requires-clause-divides c =
    let i = c.loop-x.x-index in
    let fits : FitsSigned w128 (get_or c.loop-x.row i (pos 0)) = search rules in
    let same : get_or c.loop-x.row i (pos 0) ≡ get_or c.args.row.now i (pos 0) = c.loop-x.invariant.left i (omega arith) in
    let divides = All-from_recursion (λ x. unsigned_abs c.args.by ∣ unsigned_abs x) c.args.row.now c.requires.divides i (pos 0) (omega arith) in
    rw (to_z-of_z w128 c.args.by c.ranges.by, to_z-of_z w128 (get_or c.loop-x.row i (pos 0)) fits, same) divides

pub quotient-requires-clause-size : goal.quotient-requires-clause-size
quotient-requires-clause-size c =
    let i = c.loop-x.x-index in
    let fits : FitsSigned w128 (get_or c.loop-x.row i (pos 0)) = search rules in
    let same : get_or c.loop-x.row i (pos 0) ≡ get_or c.args.row.now i (pos 0) = c.loop-x.invariant.left i (omega arith) in
    let small = All-from_recursion (λ x. unsigned_abs x ≤ 2 ^ 126) c.args.row.now c.requires.size i (pos 0) (omega arith) in
    rw (to_z-of_z w128 (get_or c.loop-x.row i (pos 0)) fits, same) small

pub loop-x-preserved : goal.loop-x-preserved
loop-x-preserved c =
    let i = c.loop-x.x-index in
    let fits : FitsSigned w128 (get_or c.loop-x.row i (pos 0)) = search rules in
    let q : FitsSigned w128 c.quotient.result = search rules in
    let is = sym (to_z-of_z w128 (get_or c.loop-x.row i (pos 0)) fits) ∙ c.quotient.ensures
    ∙ ap (λ z. to_z w128 (of_z w128 c.args.by) *ℤ z) (sym (to_z-of_z w128 c.quotient.result q)) in
    one_more c.args.row.now c.loop-x.row _ _ i (omega arith) c.loop-x.invariant is

pub returns : goal.returns
returns c =
    all_divided c.args.row.now c.loop-x.row c.args.by c.loop-x.x-index c.loop-x.auto.row c.loop-x-test.false
    (subst (λ (d : ℤ). IsPartlyDivided c.args.row.now c.loop-x.row d c.loop-x.x-index) (to_z-of_z w128 c.args.by c.ranges.by) c.loop-x.invariant)
