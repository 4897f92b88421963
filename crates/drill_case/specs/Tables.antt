-- The table of a drill: four draws for each row.
use Rattle.std.specs.Prelude.{ℕ, ◌+◌, ◌*◌, ◌%◌, ℤ, pos, List, [], ◌∷◌, map, None, codes}
use Rattle.std.specs.List.{range_with_len}
use Rattle.schema_json.specs.Columns.{Column}
use Rattle.schema_json.specs.declared.roles.Role.TheVariants.{Number, Sum, Max}
use Rattle.schema_json.specs.SecretShape.{shape_of}
use Rattle.table_load.specs.Cells.{PublicView, SecretView, hidden, numbers}
use Rattle.drill_case.specs.Draws.{draw}

-- how many rows the table has
unfoldable pub drill_rows : ℕ
drill_rows = 200

-- two public columns and two secret ones
abbrev pub drill_columns : List Column
drill_columns =
    record { name = codes "band"; role = Number } ∷ record { name = codes "age"; role = Number }
    ∷ record { name = codes "pay"; role = Sum } ∷ record { name = codes "best"; role = Max } ∷ []

-- the numbers of a column by what each row drew for it: `of_draw` of one of the row's four draws
abbrev pub drawn : ℕ → ℕ → (ℕ → ℕ) → ℕ → List ℤ
drawn number which of_draw rows = map (λ row. pos (of_draw (draw number (4 * row + which)))) (range_with_len 0 rows)

-- ---- the numbers of each column, over so many rows

abbrev pub bands : ℕ → ℕ → List ℤ
bands number = drawn number 0 (λ d. d % 8)

abbrev pub ages : ℕ → ℕ → List ℤ
ages number = drawn number 1 (λ d. 20 + d % 50)

abbrev pub pays : ℕ → ℕ → List ℤ
pays number = drawn number 2 (λ d. d % 100000)

abbrev pub bests : ℕ → ℕ → List ℤ
bests number = drawn number 3 (λ d. d % 1000)

-- ---- the table

abbrev pub drill_public : ℕ → PublicView
drill_public number = record { rows = drill_rows; columns = numbers (bands number drill_rows) ∷ numbers (ages number drill_rows) ∷ hidden ∷ hidden ∷ []; only = None }

abbrev pub drill_secret : ℕ → SecretView
drill_secret number = record { shape = shape_of drill_columns drill_rows; lists = pays number drill_rows ∷ bests number drill_rows ∷ [] }
