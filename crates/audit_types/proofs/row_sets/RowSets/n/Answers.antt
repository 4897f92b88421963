use Rattle.audit_types.proofs.PackedSets.{same_n, are_rows}
use Rattle.audit_types.proofs.row_sets.RowSets.n.Goals as goal

pub returns-clause-same_n : goal.returns-clause-same_n
returns-clause-same_n c = same_n c.self.inside c.args.self.now c.self.view_is

pub returns-clause-are_rows : goal.returns-clause-are_rows
returns-clause-are_rows c = are_rows c.self.inside c.args.self.now c.self.view_is
