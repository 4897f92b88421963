use Rattle.twin_journal.proofs.StillTogether.{still_together}
use Rattle.twin_journal.proofs.laws.stay_together.Goals as goal

pub returns : goal.returns
returns c = still_together c.stops_in_order.ensures
