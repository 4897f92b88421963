use Rattle.audit_session.proofs.serving.serve.Goals as goal

-- a keeper that isn't spared answers no fault of a spare
pub returns-clause-alone : goal.returns-clause-alone
returns-clause-alone g c = c.serve_with.ensures.own
