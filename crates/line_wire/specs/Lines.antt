-- The counted lines of an input.
use Rattle.std.specs.Prelude.{ℕ, ◌-◌, ◌^◌, Bool, List, [], ◌∷◌, length, take, slice_index, if◌then◌else◌, nat_lt, ◌==◌}
use Rattle.std.specs.List.{slice_split, flat_map}

-- the most bytes of an input that are given
abbrev pub most_input : ℕ
most_input = 2 ^ 30

-- a counted line: its text, or that it is too long
pub data CountedLine : Type 0 where
  text : List ℕ → CountedLine
  long : CountedLine

-- the byte that ends a line
abbrev pub is_feed : ℕ → Bool
is_feed b = b == 10

-- one carriage return at the end isn't part of the text
abbrev pub without_return : List ℕ → List ℕ
without_return piece = if slice_index piece (length piece - 1) == 13 then take (length piece - 1) piece else piece

-- a text is counted unless it is empty
abbrev pub unless_empty : List ℕ → List CountedLine
unless_empty [] = []
unless_empty (b ∷ bytes) = text (b ∷ bytes) ∷ []

-- what stands between two line feeds counts as at most one line; more than 8,192 bytes are a long one
abbrev pub line_of : List ℕ → List CountedLine
line_of piece = if nat_lt 8192 (length piece) then long ∷ [] else unless_empty (without_return piece)

-- the counted lines; what stands after the last line feed is one if it isn't empty
abbrev pub counted_lines : List ℕ → List CountedLine
counted_lines input = flat_map line_of (slice_split is_feed input)

-- all parts but the last
abbrev pub all_but_last : List (List ℕ) → List (List ℕ)
all_but_last [] = []
all_but_last (part ∷ []) = []
all_but_last (part ∷ next ∷ parts) = part ∷ all_but_last (next ∷ parts)

-- the counted lines whose line feed is there
abbrev pub whole_lines : List ℕ → List CountedLine
whole_lines input = flat_map line_of (all_but_last (slice_split is_feed input))

-- what is kept of a line: one byte more than a line may have
unfoldable pub kept : List ℕ → List ℕ
kept line = take 8193 line
