use Rattle.max_audit.proofs.OtherRowsAreFree.{fixed_by_lone_rows}
use Rattle.max_audit.proofs.laws.fixed_by_lone_rows.Goals as goal

pub returns : goal.returns
returns c = fixed_by_lone_rows
