use Rattle.audit_types.proofs.OneRow.{one_row_is_dangerous}
use Rattle.audit_types.proofs.laws.one_row.Goals as goal

pub returns : goal.returns
returns c = one_row_is_dangerous
