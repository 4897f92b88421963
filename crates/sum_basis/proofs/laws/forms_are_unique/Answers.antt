use Rattle.sum_basis.proofs.FormsAreUnique.{forms_are_unique}
use Rattle.sum_basis.proofs.laws.forms_are_unique.Goals as goal

pub returns : goal.returns
returns c = forms_are_unique
