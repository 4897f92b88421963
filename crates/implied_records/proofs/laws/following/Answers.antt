use Rattle.implied_records.proofs.ToldAnswers.{follows_if_told}
use Rattle.implied_records.proofs.laws.following.Goals as goal

pub returns : goal.returns
returns c =
    follows_if_told c.greatest.ensures c.upper_bounds.ensures c.possible_by_extreme_rows.ensures c.implied_sums.ensures c.implied_maxima.ensures
