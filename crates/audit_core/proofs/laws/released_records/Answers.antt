use Rattle.audit_core.proofs.OneRecordMore.{legal_grows}
use Rattle.audit_core.proofs.laws.released_records.Goals as goal

pub returns : goal.returns
returns c = legal_grows
