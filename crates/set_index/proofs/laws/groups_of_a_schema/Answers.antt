use Rattle.set_index.proofs.GroupLaws.{entries_are_protected, one_list_of_entries}
use Rattle.set_index.proofs.laws.groups_of_a_schema.Goals as goal

pub returns-clause-entries : goal.returns-clause-entries
returns-clause-entries c = one_list_of_entries c.one_meaning.ensures

pub returns-clause-fit : goal.returns-clause-fit
returns-clause-fit c = entries_are_protected c.secret_columns.ensures
