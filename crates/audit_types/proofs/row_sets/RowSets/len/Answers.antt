use Rattle.std.proofs.Common.{sym}
use Rattle.audit_types.proofs.PackedSets.{count}
use Rattle.audit_types.proofs.row_sets.RowSets.len.Goals as goal

pub returns : goal.returns
returns c = sym (count c.self.inside c.args.self.now c.self.view_is)
