use Rattle.std.proofs.Common.{sym, ◌∙◌, arith}
use Rattle.std.proofs.lemmas.Bool.{le-ltb}
use Rattle.audit_types.specs.RowLaws.{none_above}
use Rattle.max_bounds.proofs.groups.has_row.Goals as goal

pub returns-else-row-n : goal.returns-else-row-n
returns-else-row-n c =
    le-ltb c.args.row c.n.result (omega arith)
    ∙ sym (none_above 0 c.args.rows.now.n c.args.rows.now.list c.n.ensures.are_rows c.args.row (omega arith))
