use Rattle.audit_types.proofs.TrueHistory.{legal_is_possible, some_answer, keeps_agreement}
use Rattle.audit_types.proofs.laws.true_answers.Goals as goal

pub returns-clause-agreement : goal.returns-clause-agreement
returns-clause-agreement c = λ setting history r secrets agree answer. keeps_agreement (record { setting = setting; secrets = secrets }) history r agree answer

pub returns-clause-possible : goal.returns-clause-possible
returns-clause-possible c = some_answer

pub returns-clause-legal : goal.returns-clause-legal
returns-clause-legal c = legal_is_possible
