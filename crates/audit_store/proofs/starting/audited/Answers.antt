use Rattle.audit_store.proofs.starting.audited.Goals as goal

pub replay-requires-clause-are_true : goal.replay-requires-clause-are_true
replay-requires-clause-are_true c = c.in-Ok.ensures.ok c.args.protected

pub returns-in-Err-clause-err : goal.returns-in-Err-clause-err
returns-in-Err-clause-err c = c.in-Err.ensures.err c.args.protected
