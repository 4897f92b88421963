use Rattle.std.proofs.Common.{refl, arith, below_more}
use Rattle.sum_basis.proofs.telling.are_others_unseen.Goals as goal

pub loop-q-preserved : goal.loop-q-preserved
loop-q-preserved c = below_more _ _ c.loop-q.invariant (c.if-not-is_other_unseen.ensures refl)

pub returns : goal.returns
returns c = λ yes q below. c.loop-q.invariant q (let ends = c.loop-q-test.false in omega arith)
