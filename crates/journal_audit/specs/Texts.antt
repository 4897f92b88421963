-- The texts of a report's lines.
use Rattle.std.specs.Prelude.{ℕ, ◌+◌, ℤ, List, [], ◌∷◌, ◌++◌, Bool, if◌then◌else◌, Option, Some, None, codes, decimal}
use Rattle.audit_types.specs.Truth.{is_zero}
use Rattle.line_wire.specs.CommaLists.{with_commas, at_place, bounds}

-- the numbers from this row on that aren't 0, each after its row
abbrev pub moved_rows : ℕ → List ℤ → List (List ℕ)
moved_rows row [] = []
moved_rows row (x ∷ xs) = if is_zero x then moved_rows (row + 1) xs else at_place row x ∷ moved_rows (row + 1) xs

-- the line on a row of a column of sums
unfoldable pub direction_line : List ℕ → ℕ → List ℤ → List ℕ
direction_line name row d = codes "{\"column\":\"" ++ name ++ codes "\",\"row\":" ++ decimal row ++ codes ",\"direction\":[" ++ with_commas (moved_rows 0 d) ++ codes "]}\n"

-- the line on a column of maxima, or one of minima, whose numbers are kept negated
unfoldable pub bound_line : Bool → List ℕ → List ℤ → List ℕ
bound_line least name numbers = codes "{\"column\":\"" ++ name ++ codes "\"," ++ bounds least numbers ++ codes "}\n"

-- how many people the rows stand for, if they are counted
abbrev pub people_part : Option ℕ → List ℕ
people_part None = []
people_part (Some people) = codes ",\"people\":" ++ decimal people

-- the last line
unfoldable pub total_line : ℕ → ℕ → ℕ → Option ℕ → List ℕ
total_line records columns rows people =
    codes "{\"audited\":" ++ decimal records ++ codes ",\"columns\":" ++ decimal columns ++ codes ",\"rows\":" ++ decimal rows ++ people_part people ++ codes "}\n"
