use Rattle.std.proofs.Common.{◌≡◌, ◌≤◌, get_or, subst, arith, inl, inr}
use Rattle.std.specs.Prelude.{bit_and}
use Rattle.std.specs.Int.Count.{ones}
use Rattle.std.proofs.lemmas.Bool.{cases_lt}
use Rattle.max_bounds.proofs.MarkedSets.{some_bit}
use Rattle.max_bounds.proofs.unshown.next_maybe_within.Goals as goal

pub loop-k-preserved : goal.loop-k-preserved
loop-k-preserved c = λ i low less. elim (cases_lt i c.loop-k.k) [
  | inl before ↦ c.loop-k.invariant i low before
  | inr late ↦
      let same : c.loop-k.k ≡ i = omega (arith, late, less) in
      subst (λ j. 1 ≤ ones (bit_and (get_or c.args.marks.now j 0) c.args.lacking)) same (some_bit _ c.if-marks-k-eq0.false)
]
