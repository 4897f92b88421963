use Rattle.sum_basis.proofs.EveryRowSpaceHasAForm.{every_row_space_has_a_form}
use Rattle.sum_basis.proofs.laws.every_row_space_has_a_form.Goals as goal

pub returns : goal.returns
returns c = every_row_space_has_a_form
