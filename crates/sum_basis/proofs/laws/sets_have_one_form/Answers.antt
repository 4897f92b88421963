use Rattle.sum_basis.proofs.NarrowOrWide.{sets_have_one_form}
use Rattle.sum_basis.proofs.laws.sets_have_one_form.Goals as goal

pub returns : goal.returns
returns c = sets_have_one_form
