use Rattle.std.proofs.Common.{get_or, refl, subst, arith, below_more}
use Rattle.sum_basis.specs.Keys.{IsSeen}
use Rattle.sum_basis.proofs.telling.are_askers_apart.Goals as goal

pub loop-q-preserved : goal.loop-q-preserved
loop-q-preserved c = record {
  apart = below_more _ _ c.loop-q.invariant.apart
      (λ i before alone single same. c.if-not-adds_asker.ensures.unseen refl single
      (subst (IsSeen c.loop-q.seen) same (c.loop-q.invariant.seen i before alone)));
  seen = below_more _ _ (λ i before alone. c.adds_asker.ensures.stay (get_or c.args.keys.now i 0) (c.loop-q.invariant.seen i before alone))
      (λ single. c.if-not-adds_asker.ensures.added refl single);
}

pub returns-clause-apart : goal.returns-clause-apart
returns-clause-apart c = λ yes i j before below. c.loop-q.invariant.apart j (let ends = c.loop-q-test.false in omega arith) i before

pub returns-clause-seen : goal.returns-clause-seen
returns-clause-seen c = λ yes j below. c.loop-q.invariant.seen j (let ends = c.loop-q-test.false in omega arith)
