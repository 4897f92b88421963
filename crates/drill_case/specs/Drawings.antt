-- How the columns of a drill are drawn.
use Rattle.std.specs.Prelude.{ℕ, ◌<◌, ◌≤◌, ◌+◌, ◌%◌, ℤ, List}
use Rattle.drill_case.specs.declared.tables.Drawing.{Drawing}
use Rattle.drill_case.specs.Tables.{drill_rows, drawn}

-- the place is one of four, and the numbers are few
pub record IsDrawing (drawing : Drawing) : Type 0 where
  pub place : drawing.place < 4
  pub some : 0 < drawing.span
  pub room : drawing.least + drawing.span ≤ 100000

-- the numbers of a column that is drawn so
abbrev pub numbers_of : ℕ → Drawing → List ℤ
numbers_of number drawing = drawn number drawing.place (λ d. drawing.least + d % drawing.span) drill_rows
