use Rattle.drill_case.proofs.DrawnColumns.{pair_of}
use Rattle.drill_case.proofs.tables.draw_columns.Goals as goal

pub returns : goal.returns
returns c = pair_of c.in_ok-vec.ensures.items c.in_ok-one.ensures c.in_ok-other.ensures
