use Rattle.max_audit.proofs.OtherRowsAreFree.{possible_by_extremes}
use Rattle.max_audit.proofs.laws.possible_by_extreme_rows.Goals as goal

pub returns : goal.returns
returns c = possible_by_extremes
