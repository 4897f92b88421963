use Rattle.std.proofs.Common.{◌≡◌, ◌+◌, ◌*◌, ◌%◌, pos, get_or, [], ◌∷◌, ◌++◌, ap, ◌∙◌, arith}
use Rattle.std.proofs.lemmas.Grind.{common_steps}
use Rattle.drill_case.specs.Draws.{state_after}
use Rattle.drill_case.proofs.DrawnColumns.{grows}
use Rattle.drill_case.proofs.DrawsInOrder.{one_of_four}
use Rattle.drill_case.proofs.tables.draw_column.Goals as goal

pub loop-row-preserved : goal.loop-row-preserved
loop-row-preserved c =
    let number = c.args.number in
    let row = c.loop-row._row in
    let had = c.loop-row.invariant in
    let next = c.four-four.ensures number (4 * row) had.state in
    let put : c.push.new.self.items ≡ c.loop-row.list.items ++ pos
    (c.args.drawing.least + get_or c.four-four.result c.args.drawing.place 0 % c.args.drawing.span) ∷ [] =
    grind (arith, common_steps) in
    let drawn = one_of_four number (4 * row) c.args.drawing.place c.four-four.result c.requires.place next.1 in
    record {
      state = next.0 ∙ ap (state_after number) (omega arith);
      items = grows number c.args.drawing.place row _ (λ d. c.args.drawing.least + d % c.args.drawing.span) _ _ had.items put drawn;
    }
