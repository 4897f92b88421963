use Rattle.std.proofs.Common.{subst}
use Rattle.audit_types.specs.Rows.{AreRows, Rows}
use Rattle.audit_types.specs.RowLaws.{AreRows-rows_that}
use Rattle.audit_types.proofs.rows.RowSet.n.Goals as goal

pub returns-clause-are_rows : goal.returns-clause-are_rows
returns-clause-are_rows c = subst (λ (s : Rows). AreRows s.n s.list) c.self.view_is (AreRows-rows_that _ c.self.inside.n)
