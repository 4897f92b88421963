use Rattle.sum_basis.proofs.TiesByForm.{ties_by_form_but}
use Rattle.sum_basis.proofs.laws.ties_but.Goals as goal

pub returns : goal.returns
returns c = ties_by_form_but
