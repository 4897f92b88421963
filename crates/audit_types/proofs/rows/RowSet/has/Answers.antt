use Rattle.std.proofs.Common.{sym, ap, ◌∙◌}
use Rattle.audit_types.specs.Rows.{has_row, Rows}
use Rattle.audit_types.specs.WordLaws.{tested, has-view}
use Rattle.audit_types.proofs.rows.RowSet.has.Goals as goal

pub returns : goal.returns
returns c =
    tested c.self.inside.words c.args.row ∙ sym (has-view c.self.inside.n c.self.inside.words c.self.invariant c.args.row)
    ∙ ap (λ (s : Rows). has_row s.list c.args.row) c.self.view_is
