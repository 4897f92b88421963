use Rattle.sum_audit.proofs.SpannedOrMoved.{spanned_or_moved}
use Rattle.sum_audit.proofs.PinnedRows.{pinned_by_unit_row}
use Rattle.sum_audit.proofs.laws.pinned_rows.Goals as goal

pub returns-clause-spanned_or_moved : goal.returns-clause-spanned_or_moved
returns-clause-spanned_or_moved c = spanned_or_moved

pub returns-clause-by_unit_row : goal.returns-clause-by_unit_row
returns-clause-by_unit_row c = pinned_by_unit_row
