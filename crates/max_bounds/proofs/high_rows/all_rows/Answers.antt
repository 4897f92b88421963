use Rattle.std.proofs.Common.{[], not, ap, ◌∙◌, arith}
use Rattle.audit_types.specs.Rows.{has_row, complement}
use Rattle.audit_types.specs.RowLaws.{has-rows_that}
use Rattle.max_bounds.proofs.high_rows.all_rows.Goals as goal

pub returns-clause-all : goal.returns-clause-all
returns-clause-all c = λ r below.
    ap (λ l. has_row l r) (c.flip.ensures.others ∙ ap (complement c.new-rows.result.n) c.new-rows.ensures.empty)
    ∙ has-rows_that (λ q. not (has_row [] q)) c.new-rows.result.n r (omega (arith, c.new-rows.ensures.n))
