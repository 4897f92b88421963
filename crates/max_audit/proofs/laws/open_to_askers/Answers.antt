use Rattle.max_audit.proofs.OpenToAskers.{few_or_open, few_or_any}
use Rattle.max_audit.proofs.laws.open_to_askers.Goals as goal

pub returns-clause-guarded : goal.returns-clause-guarded
returns-clause-guarded c = few_or_open

pub returns-clause-range : goal.returns-clause-range
returns-clause-range c = few_or_any
