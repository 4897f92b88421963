use Rattle.std.proofs.Common.{◌≡◌, ◌+◌, ◌*◌, ◌++◌, ℕ, List, get_or, length, sym, ap, ◌∙◌, arith}
use Rattle.drill_case.specs.Draws.{state_after}
use Rattle.drill_case.specs.Tables.{drill_rows}
use Rattle.drill_case.specs.Lines.{drill_line, line_of_draws}
use Rattle.drill_case.proofs.LinesInOrder.{one_line_more}
use Rattle.drill_case.proofs.lines.write_lines.Goals as goal

pub loop-line-init : goal.loop-line-init
loop-line-init c = record {
  state = c.skip_fours.ensures c.args.number c.new-draws.ensures ∙ ap (λ (rows : ℕ). state_after c.args.number (4 * rows)) c.row_count.ensures.rows
      ∙ ap (state_after c.args.number) (omega arith);
  lines = c.new-lines.ensures.items;
  short = omega (arith, ap (λ (l : List ℕ). length l) c.new-lines.ensures.items);
}

pub loop-line-preserved : goal.loop-line-preserved
loop-line-preserved c =
    let number = c.args.number in
    let line = c.loop-line._line in
    let had = c.loop-line.invariant in
    let next = c.four.ensures number (4 * drill_rows + 4 * line) had.state in
    let text : line_of_draws (get_or c.four.result 0 0) (get_or c.four.result 1 0) (get_or c.four.result 2 0)
    (get_or c.four.result 3 0) ≡ drill_line number line =
    ap (λ (l : List ℕ). line_of_draws (get_or l 0 0) (get_or l 1 0) (get_or l 2 0) (get_or l 3 0)) next.1 in
    record {
      state = next.0 ∙ ap (state_after number) (omega arith);
      lines = c.in_ok-put_line.ensures.exact ∙ (λ i. had.lines i ++ text i) ∙ sym (one_line_more number line);
      short = omega (arith, c.in_ok-put_line.ensures.short, had.short);
    }
