use Rattle.implied_records.proofs.ImpliedSums.{implied_by_span}
use Rattle.implied_records.proofs.laws.implied_sums.Goals as goal

pub returns : goal.returns
returns c = implied_by_span c.dangerous_sums.ensures.fixed
