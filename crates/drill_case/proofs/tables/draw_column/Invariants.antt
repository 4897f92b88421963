use Rattle.std.proofs.Common.{◌≡◌, ◌*◌, ◌+◌, ◌%◌}
use Rattle.drill_case.specs.Draws.{state_after}
use Rattle.drill_case.specs.Tables.{drawn}
use Rattle.drill_case.proofs.tables.draw_column.Given as goal

abbrev pub invariant-loop-row : goal.invariant-loop-row
invariant-loop-row l = record {
  state : l.draws.state ≡ state_after l.number (4 * l._row);
  items : l.list.items ≡ drawn l.number l.drawing.place (λ d. l.drawing.least + d % l.drawing.span) l._row;
}
