use Rattle.witness_check.proofs.SumsSoFar.{zero_at}
use Rattle.std.proofs.Common.{ap, ◌∙◌, of_z}
use Rattle.std.specs.Int.{w128}
use Rattle.witness_check.proofs.directions.has_zero_sums.Goals as goal

pub returns-then-sum_of_moved-ne0 : goal.returns-then-sum_of_moved-ne0
returns-then-sum_of_moved-ne0 c = (
  (λ yes. absurd cc),
  (λ all. let zero_sum = zero_at c.args.numbers.now c.args.sets.now c.loop-set.set-index c.set-item.result c.loop-set-test.true c.set-item.is all in
      absurd (c.if-sum_of_moved-ne0.true (ap (of_z w128) (c.sum_of_moved.ensures ∙ zero_sum)))),
)
