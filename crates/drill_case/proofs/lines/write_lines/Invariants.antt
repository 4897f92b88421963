use Rattle.std.proofs.Common.{◌≡◌, ◌≤◌, ◌+◌, ◌*◌, length}
use Rattle.drill_case.specs.Draws.{state_after}
use Rattle.drill_case.specs.Tables.{drill_rows}
use Rattle.drill_case.specs.Lines.{first_lines}
use Rattle.drill_case.proofs.lines.write_lines.Given as goal

abbrev pub invariant-loop-line : goal.invariant-loop-line
invariant-loop-line l = record {
  state : l.draws.state ≡ state_after l.number (4 * drill_rows + 4 * l._line);
  lines : l.lines.items ≡ first_lines l.number l._line;
  short : length l.lines.items ≤ 100 * l._line;
}
