use Rattle.certificate_lines.proofs.OneText as texts
use Rattle.certificate_lines.proofs.laws.one_text.Goals as goal

pub returns-clause-due : goal.returns-clause-due
returns-clause-due c = λ index history can asked a b first second.
    texts.one_line c.one_proof.ensures c.one_plan.ensures c.asked_questions.ensures c.one_decision.ensures index history can asked a b first second

pub returns-clause-one : goal.returns-clause-one
returns-clause-one c = λ index history can asked lines others first second.
    texts.same_lines c.one_proof.ensures c.one_plan.ensures c.asked_questions.ensures c.one_decision.ensures index history can asked lines others first
    second

pub returns-clause-first : goal.returns-clause-first
returns-clause-first c = texts.first_lines
