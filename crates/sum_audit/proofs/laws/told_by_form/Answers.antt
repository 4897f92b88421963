use Rattle.sum_audit.proofs.KnownNumbers.{pins_by_form, groups_by_form}
use Rattle.sum_audit.proofs.laws.told_by_form.Goals as goal

pub returns-clause-pins : goal.returns-clause-pins
returns-clause-pins c = pins_by_form

pub returns-clause-groups : goal.returns-clause-groups
returns-clause-groups c = groups_by_form
