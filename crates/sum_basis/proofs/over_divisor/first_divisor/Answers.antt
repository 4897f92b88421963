use Rattle.std.proofs.Common.{◌≡◌, ap, ◌∙◌, sym, subst, rules, ℤ}
use Rattle.std.specs.Prelude.{FitsSigned, ◌*ℤ◌, ◌-ℤ◌, unsigned_abs}
use Rattle.std.specs.Int.{w128, ◌∣◌}
use mir.Val.{to_z, of_z}
use Rattle.std.proofs.lemmas.Int.{to_z-of_z}
use Rattle.std.proofs.lemmas.Nat.Gcd.{dvd_refl, dvd_trans}
use Rattle.std.proofs.Math.Nat.{pos_of_dvd_of_pos}
use Rattle.audit_types.specs.Numbers.{size_positive}
use Rattle.sum_basis.specs.Sparse.{entry_at}
use Rattle.sum_basis.proofs.OverDivisor.{greatest_of}
use Rattle.sum_basis.proofs.over_divisor.first_divisor.Goals as goal

pub loop-k-init : goal.loop-k-init
loop-k-init c =
    let same = to_z-of_z w128 c.args.head c.ranges.head in
    let is = c.new-divisor.ensures ∙ ap unsigned_abs same in
    rw (same, is) (record {
      divides = dvd_refl (unsigned_abs c.args.head);
      positive = size_positive c.args.head c.requires.head.0;
      greatest =
          λ d divides all. divides;
    })

-- the number of a place, as the code has it
number_is : (number by x times y a b : ℤ) → FitsSigned w128 number → FitsSigned w128 x → FitsSigned w128 y → x ≡ a → y ≡ b
    → number ≡ by *ℤ to_z w128 (of_z w128 x) -ℤ times *ℤ to_z w128 (of_z w128 y) → to_z w128 (of_z w128 number) ≡ by *ℤ a -ℤ times *ℤ b
number_is number by x times y a b fn fx fy ex ey is =
    to_z-of_z w128 number fn ∙ is
    ∙ ap (λ z. by *ℤ z -ℤ times *ℤ to_z w128 (of_z w128 y)) (to_z-of_z w128 x fx ∙ ex)
    ∙ ap (λ z. by *ℤ a -ℤ times *ℤ z) (to_z-of_z w128 y fy ∙ ey)

pub loop-k-preserved : goal.loop-k-preserved
loop-k-preserved c =
    let fn : FitsSigned w128 c.difference-number.result = search rules in
    let fx : FitsSigned w128 c.number.result = search rules in
    let told = rw c.in-Some.is at c.entry_to_try.ensures in
    let fy : FitsSigned w128 c.value_at-other.result = search rules in
    let place = c.in-Some.entry.place in
    let is = number_is c.difference-number.result _ c.number.result _ c.value_at-other.result (entry_at c.args.first.now place)
    (entry_at c.args.second.now place) fn fx fy (c.number.ensures ∙ told) c.value_at-other.ensures c.difference-number.ensures.exact in
    let common = c.with-divisor.ensures in
    record {
      divides = dvd_trans c.with-divisor.result common.0 c.loop-k.invariant.divides;
      positive = pos_of_dvd_of_pos common.0 c.loop-k.invariant.positive;
      greatest = λ d divides all. common.2 d (c.loop-k.invariant.greatest d divides all) (subst (λ (z : ℤ). d ∣ unsigned_abs z) (sym is) (all place));
    }

pub returns-then-is_one-clause-divides : goal.returns-then-is_one-clause-divides
returns-then-is_one-clause-divides c = subst (λ (z : ℤ). c.loop-k.divisor ∣ unsigned_abs z)
    (to_z-of_z w128 c.args.head c.ranges.head) c.loop-k.invariant.divides

pub returns-then-is_one-clause-greatest : goal.returns-then-is_one-clause-greatest
returns-then-is_one-clause-greatest c =
    greatest_of c.loop-k.divisor c.args.head c.args.by c.args.times c.args.first.now c.args.second.now c.ranges.head c.ranges.by c.ranges.times
    c.loop-k.invariant.greatest

pub returns-in_default-clause-divides : goal.returns-in_default-clause-divides
returns-in_default-clause-divides c = subst (λ (z : ℤ). c.loop-k.divisor ∣ unsigned_abs z)
    (to_z-of_z w128 c.args.head c.ranges.head) c.loop-k.invariant.divides

pub returns-in_default-clause-greatest : goal.returns-in_default-clause-greatest
returns-in_default-clause-greatest c =
    greatest_of c.loop-k.divisor c.args.head c.args.by c.args.times c.args.first.now c.args.second.now c.ranges.head c.ranges.by c.ranges.times
    c.loop-k.invariant.greatest

pub returns-clause-divides : goal.returns-clause-divides
returns-clause-divides c = subst (λ (z : ℤ). c.loop-k.divisor ∣ unsigned_abs z) (to_z-of_z w128 c.args.head c.ranges.head) c.loop-k.invariant.divides

pub returns-clause-greatest : goal.returns-clause-greatest
returns-clause-greatest c =
    greatest_of c.loop-k.divisor c.args.head c.args.by c.args.times c.args.first.now c.args.second.now c.ranges.head c.ranges.by c.ranges.times
    c.loop-k.invariant.greatest
