use Rattle.max_bounds.specs.Reaching.{bound_at}
use Rattle.max_bounds.proofs.LoneRows.{IsCounting}
use Rattle.max_bounds.proofs.lone_rows.lone_row.Given as goal

abbrev pub invariant-loop-row : goal.invariant-loop-row
invariant-loop-row l = IsCounting (bound_at l.bounds) l.rows.list l.answer l.row-iterator l.count l.lone
