use Rattle.std.proofs.Common.{length, ap, ◌∙◌}
use Rattle.audit_types.specs.Rows.{Rows}
use Rattle.audit_types.proofs.rows.RowSet.len.Goals as goal

pub returns : goal.returns
returns c = c.count_bits.ensures ∙ ap (λ (s : Rows). length s.list) c.self.view_is
