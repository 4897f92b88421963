use Rattle.transcript_sim.proofs.OneVerdict as verdicts
use Rattle.transcript_sim.proofs.laws.one_verdict.Goals as goal

pub returns-clause-called : goal.returns-clause-called
returns-clause-called c = verdicts.one_expected c.one_reply.ensures c.one_plan.ensures c.one_judgement.ensures c.one_answer.ensures

pub returns-clause-due : goal.returns-clause-due
returns-clause-due c = verdicts.one_verdict c.one_reply.ensures c.one_plan.ensures c.one_judgement.ensures c.one_answer.ensures

pub returns-clause-one : goal.returns-clause-one
returns-clause-one c = verdicts.same_verdicts c.one_reply.ensures c.one_plan.ensures c.one_judgement.ensures c.one_answer.ensures

pub returns-clause-first : goal.returns-clause-first
returns-clause-first c = verdicts.first_lines
