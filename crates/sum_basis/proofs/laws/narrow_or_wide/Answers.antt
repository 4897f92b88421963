use Rattle.sum_basis.proofs.NarrowOrWide.{narrow_or_wide}
use Rattle.sum_basis.proofs.laws.narrow_or_wide.Goals as goal

pub returns : goal.returns
returns c = narrow_or_wide
