use Rattle.sum_audit.proofs.PinnedRows.{directions_by_form, pinned_by_form}
use Rattle.sum_audit.proofs.laws.directions_of_a_form.Goals as goal

pub returns-clause-directions : goal.returns-clause-directions
returns-clause-directions c = directions_by_form

pub returns-clause-pinned : goal.returns-clause-pinned
returns-clause-pinned c = pinned_by_form
