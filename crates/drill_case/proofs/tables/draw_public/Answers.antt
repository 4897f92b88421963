use Rattle.std.proofs.Common.{[], ◌∷◌, ◌∙◌}
use Rattle.drill_case.specs.Tables.{drill_rows, ages}
use Rattle.drill_case.proofs.DrawnColumns.{lists_fit, from_zero, public_part, some_rows, few_rows}
use Rattle.drill_case.proofs.tables.draw_public.Goals as goal

pub of_numbers-requires : goal.of_numbers-requires
of_numbers-requires c =
    let number = c.args.number in
    lists_fit number drill_rows _ _ some_rows few_rows c.requires
    (c.in_ok-draw_columns.ensures ∙ λ i. from_zero number 0 8 drill_rows i ∷ ages number drill_rows ∷ [])

pub returns : goal.returns
returns c =
    let number = c.args.number in
    public_part number _ _ _ c.requires (c.in_ok-draw_columns.ensures ∙ λ i. from_zero number 0 8 drill_rows i ∷ ages number drill_rows ∷ [])
    c.of_numbers.ensures.rows c.of_numbers.ensures.columns c.of_numbers.ensures.whole c.of_numbers.ensures.fits
