-- Lines that were read of an input: what they are, and what is left after them.
use Rattle.std.specs.Prelude.{◌≡◌, ◌⊎◌, Bool, true, ℕ, List, [], ◌∷◌, ◌++◌}
use Rattle.line_wire.specs.Lines.{CountedLine, counted_lines, whole_lines}
use Rattle.line_wire.specs.Cutter.{TakesLine}

-- whatever stands after these bytes, their whole lines are these
abbrev pub IsRead : List ℕ → List CountedLine → Type 0
IsRead read lines = (more : List ℕ) → whole_lines (read ++ more) ≡ lines ++ whole_lines more

-- the first counted lines of the rest, and what is left of it
pub record ReadsLines (rest left : List ℕ) (ended : Bool) (lines : List CountedLine) : Type 0 where
  pub read : List ℕ
  pub split : rest ≡ read ++ left
  pub counted : counted_lines rest ≡ lines ++ counted_lines left
  pub whole : IsRead read lines ⊎ ((ended ≡ true) × (left ≡ []))

-- ---- laws

-- before the first line none was read
abbrev pub NoLineIsRead : Type 0
NoLineIsRead = (rest : List ℕ) (ended : Bool) → ReadsLines rest rest ended []

-- the line that a call of the cutter takes is one that was read
abbrev pub OneLineIsRead : Type 0
OneLineIsRead = (rest left : List ℕ) (ended : Bool) (line : CountedLine) → TakesLine rest ended line left → counted_lines rest ≡ line ∷ counted_lines left → ReadsLines rest left ended (line ∷ [])

-- lines that were read, and then others, are all lines that were read
abbrev pub MoreLinesAreRead : Type 0
MoreLinesAreRead =
    (input rest left : List ℕ) (ended ended_now : Bool) (lines more : List CountedLine) → ReadsLines input rest ended lines → ReadsLines rest left ended_now more → (ended ≡ true → ended_now ≡ true) →
    ReadsLines input left ended_now (lines ++ more)
