use Rattle.std.proofs.Common.{◌≡◌, ℕ, ℤ, Vec, Global, [], ◌∷◌, map, sym, ap, ◌∙◌, subst}
use Rattle.std.specs.List.{AllByRecursion}
use Rattle.audit_types.specs.declared.shapes.Shape.{Shape}
use Rattle.table_load.specs.Cells.{AreNumbers}
use Rattle.drill_case.specs.Tables.{drill_rows}
use Rattle.drill_case.proofs.DrawnColumns.{from_zero, secrets_fit}
use Rattle.drill_case.proofs.tables.draw_secret.Goals as goal

pub new-requires-clause-numbers : goal.new-requires-clause-numbers
new-requires-clause-numbers c =
    let rows : drill_rows ≡ c.shape.result.rows = sym c.row_count.ensures.rows ∙ sym (ap (λ (s : Shape). s.rows) c.shape.ensures.shape) in
    let number = c.args.number in
    subst (λ (n : ℕ). AllByRecursion (AreNumbers n) (map (λ (v : Vec ℤ Global). v.items) c.in_ok-lists.lists.items)) rows
    (secrets_fit number drill_rows _ (c.in_ok-lists.ensures ∙ λ i. from_zero number 2 100000 drill_rows i ∷ from_zero number 3 1000 drill_rows i ∷ []))
