-- The lines of a drill: four draws for each, after those of the table.
use Rattle.std.specs.Prelude.{ℕ, zero, suc, ◌+◌, ◌*◌, ◌/◌, ◌%◌, if◌then◌else◌, List, [], ◌++◌, codes, decimal, ◌==◌}
use Rattle.std.specs.List.{flat_map, range_with_len}
use Rattle.drill_case.specs.Draws.{draw}
use Rattle.drill_case.specs.Tables.{drill_rows}

-- how many lines are asked
unfoldable pub drill_count : ℕ
drill_count = 600

-- what is asked of which column, by a remainder
abbrev pub question_text : ℕ → List ℕ
question_text zero = codes "\"sum\",\"column\":\"pay\""
question_text (suc zero) = codes "\"avg\",\"column\":\"pay\""
question_text (suc (suc n)) = codes "\"max\",\"column\":\"best\""

-- the rows from one age to another
unfoldable pub ages_text : ℕ → ℕ → List ℕ
ages_text least most = codes "age >= " ++ decimal least ++ codes " and age <= " ++ decimal most

-- one draw in four takes the rows of a band in too
abbrev pub band_text : ℕ → List ℕ
band_text d = if d % 4 == 0 then codes " or band = " ++ decimal (d / 4 % 8) else []

-- the line of four draws: a question over the rows between two ages
unfoldable pub line_of_draws : ℕ → ℕ → ℕ → ℕ → List ℕ
line_of_draws a b c d =
    let least = 20 + b % 50 in
    codes "{\"ask\":" ++ question_text (a % 3) ++ codes ",\"where\":\"" ++ ages_text least (least + c % 30) ++ band_text d ++ codes "\"}\n"

-- a line, from 0
abbrev pub drill_line : ℕ → ℕ → List ℕ
drill_line number line =
    let first = 4 * drill_rows + 4 * line in
    line_of_draws (draw number first) (draw number (first + 1)) (draw number (first + 2)) (draw number (first + 3))

-- the first lines
abbrev pub first_lines : ℕ → ℕ → List ℕ
first_lines number count = flat_map (drill_line number) (range_with_len 0 count)

abbrev pub drill_text : ℕ → List ℕ
drill_text number = first_lines number drill_count
