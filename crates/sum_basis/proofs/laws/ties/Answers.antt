use Rattle.sum_basis.proofs.TiesByForm.{ties_by_form}
use Rattle.sum_basis.proofs.laws.ties.Goals as goal

pub returns : goal.returns
returns c = ties_by_form
