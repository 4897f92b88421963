-- Which lines of an input were read.
use Rattle.std.specs.Prelude.{◌≡◌, ℕ, List, ◌++◌, length, take}
use Rattle.line_wire.specs.Lines.{CountedLine, whole_lines, most_input}

-- some first lines of these
pub record AreFirst (all lines : List CountedLine) : Type 0 where
  pub count : ℕ
  pub are : lines ≡ take count all

-- every line whose line feed stands among the bytes that were read, and no other
pub record AreRead (input left : List ℕ) (lines : List CountedLine) : Type 0 where
  pub read : List ℕ
  pub split : input ≡ read ++ left
  pub are : lines ≡ whole_lines read

-- every line whose line feed stands among the first 2^30 bytes, and no other
pub record AreWithin (input : List ℕ) (lines : List CountedLine) : Type 0 where
  pub read : List ℕ
  pub behind : List ℕ
  pub split : input ≡ read ++ behind
  pub size : length read ≡ most_input
  pub are : lines ≡ whole_lines read
