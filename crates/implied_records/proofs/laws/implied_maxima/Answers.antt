use Rattle.implied_records.proofs.ImpliedMaxima.{implied_by_extremes}
use Rattle.implied_records.proofs.laws.implied_maxima.Goals as goal

pub returns : goal.returns
returns c = implied_by_extremes c.greatest.ensures c.upper_bounds.ensures c.possible_by_extreme_rows.ensures
