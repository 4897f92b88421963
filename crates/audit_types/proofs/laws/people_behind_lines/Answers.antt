use Rattle.audit_types.proofs.DangerToPeople.{danger_is_that_of_people}
use Rattle.audit_types.proofs.PeopleBehind.{truth_is_over_people, people_are_counted, people_may_differ, undisclosed_hides_people}
use Rattle.audit_types.proofs.laws.people_behind_lines.Goals as goal

pub returns-clause-truth : goal.returns-clause-truth
returns-clause-truth c = truth_is_over_people

pub returns-clause-counted : goal.returns-clause-counted
returns-clause-counted c = people_are_counted

pub returns-clause-hidden : goal.returns-clause-hidden
returns-clause-hidden c = undisclosed_hides_people

pub returns-clause-dangerous : goal.returns-clause-dangerous
returns-clause-dangerous c = danger_is_that_of_people

pub returns-clause-differ : goal.returns-clause-differ
returns-clause-differ c = people_may_differ
