use Rattle.sum_audit.proofs.SmallDirections.{spanned_or_moved_by_small, pinned_or_moved_by_small}
use Rattle.sum_audit.proofs.SmallBeside.{still_or_moved_by_small}
use Rattle.sum_audit.proofs.laws.small_directions.Goals as goal

pub returns-clause-spanned_or_moved : goal.returns-clause-spanned_or_moved
returns-clause-spanned_or_moved c = spanned_or_moved_by_small

pub returns-clause-pinned_or_moved : goal.returns-clause-pinned_or_moved
returns-clause-pinned_or_moved c = pinned_or_moved_by_small

pub returns-clause-beside : goal.returns-clause-beside
returns-clause-beside c = still_or_moved_by_small
