use Rattle.sum_basis.proofs.keeping.keep_all.Goals as goal

pub returns-in_err-push-clause-kept : goal.returns-in_err-push-clause-kept
returns-in_err-push-clause-kept c = λ form same kept. rw c.in_err-push.ensures.items (c.loop-set.invariant.kept form same)

pub returns-clause-kept : goal.returns-clause-kept
returns-clause-kept c = λ form same kept. c.loop-set.invariant.kept form same
