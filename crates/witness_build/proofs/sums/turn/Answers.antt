use Rattle.witness_build.proofs.Dividing.{all_turned, next_fits, next_turned}
use Rattle.witness_build.proofs.sums.turn.Goals as goal

pub returns : goal.returns
returns c = all_turned c.args.numbers.now c.loop-x.numbers c.loop-x.x-index c.loop-x.auto.numbers c.loop-x-test.false c.loop-x.invariant

pub overflow_sub-x : goal.overflow_sub-x
overflow_sub-x c = next_fits c.args.numbers.now c.loop-x.numbers c.loop-x.x-index c.requires c.loop-x.auto.numbers c.loop-x-test.true c.loop-x.invariant

pub loop-x-preserved : goal.loop-x-preserved
loop-x-preserved c = next_turned c.args.numbers.now c.loop-x.numbers c.loop-x.x-index c.requires c.loop-x.auto.numbers c.loop-x-test.true c.loop-x.invariant
