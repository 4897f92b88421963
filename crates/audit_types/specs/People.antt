-- People, and the lines of a table that stand for them: a line has the public cells that its people have in common, how many they are, and of
-- each secret column what is told of them together.
use Rattle.std.specs.Prelude.{◌≡◌, ℕ, ◌<◌, ℤ, pos, ◌+ℤ◌, List, [], ◌∷◌, ◌++◌, map, length}
use Rattle.std.specs.List.{fold, slice_index_or}
use Rattle.std.specs.Int.{int_max}
use Rattle.audit_types.specs.declared.shapes.Kind.{Kind}
use Rattle.audit_types.specs.declared.shapes.Kind.TheVariants.{Sum, Max}
use Rattle.audit_types.specs.declared.shapes.Shape.{Shape}
use Rattle.audit_types.specs.Shapes.{columns, kind_at}
use Rattle.audit_types.specs.History.{Secrets, list_of}

-- the numbers of the people of each line, in one column
abbrev pub People : Type 0
People = List (List ℤ)

-- the people of a line
abbrev pub of_line : People → ℕ → List ℤ
of_line people line = slice_index_or people line []

-- the people of some lines
abbrev pub of_lines : People → List ℕ → List ℤ
of_lines people [] = []
of_lines people (line ∷ lines) = of_line people line ++ of_lines people lines

-- what is told of people together: the sum of their numbers, or the greatest
abbrev pub told : Kind → List ℤ → ℤ
told kind [] = pos 0
told Sum (x ∷ numbers) = x +ℤ told Sum numbers
told Max (x ∷ numbers) = fold int_max x numbers

-- the people behind each line, in one column
abbrev pub people_in : List (List (List ℤ)) → ℕ → List (List ℤ)
people_in everyone column = slice_index_or everyone column []

-- behind each line are so many people, and it tells of each secret column what is told of them together
pub record AreBehind (shape : Shape) (counts : List ℕ) (secrets : Secrets) (everyone : List (List (List ℤ))) : Type 0 where
  pub counted : (column : ℕ) → column < columns shape → map length (people_in everyone column) ≡ counts
  pub told_is : (column : ℕ) → column < columns shape → map (told (kind_at shape column)) (people_in everyone column) ≡ list_of secrets column
