-- The cutter of lines as contracts see it, and what one call gives.
use Rattle.std.specs.Prelude.{◌≡◌, ◌⊎◌, ℕ, ◌+◌, ◌<◌, ◌≤◌, Bool, true, false, List, [], ◌∷◌, ◌++◌, length, take, drop}
use Rattle.std.specs.List.{All}
use Rattle.line_wire.specs.Lines.{CountedLine, is_feed, line_of, counted_lines, whole_lines, kept, most_input}

-- the number of bytes that were taken, those among them that weren't given yet, whether a read gave 0,
-- and the text of the line that was given last
pub record Cutter : Type 0 where
  pub taken : ℕ
  pub pending : List ℕ
  pub ended : Bool
  pub text : List ℕ

-- no line feed stands in it
abbrev pub IsFeedless : List ℕ → Type 0
IsFeedless piece = All (λ b. is_feed b ≡ false) piece

-- whatever stands after these bytes, they add no line
pub record IsPassedOver (bytes : List ℕ) : Type 0 where
  pub counted : (behind : List ℕ) → counted_lines (bytes ++ behind) ≡ counted_lines behind
  pub whole : (behind : List ℕ) → whole_lines (bytes ++ behind) ≡ whole_lines behind

-- the first counted line of the rest, and what stands after it
pub record TakesLine (rest : List ℕ) (ended : Bool) (line : CountedLine) (behind : List ℕ) : Type 0 where
  pub skipped : List ℕ
  pub piece : List ℕ
  pub passed : IsPassedOver skipped
  pub feedless : IsFeedless piece
  pub counted : line_of piece ≡ line ∷ []
  pub ends : (rest ≡ skipped ++ (piece ++ 10 ∷ behind)) ⊎ ((rest ≡ skipped ++ piece) × (behind ≡ []) × (ended ≡ true))

-- the counts of a cutter that has passed at most the limit
pub record IsWithin (cutter : Cutter) : Type 0 where
  pub pending : length cutter.pending ≤ cutter.taken
  pub given : cutter.taken ≤ most_input + length cutter.pending
  pub small : length cutter.pending ≤ 65536

-- the first line feed stands at this place
pub record IsFirstFeed (bytes : List ℕ) (at : ℕ) : Type 0 where
  pub inside : at < length bytes
  pub before : IsFeedless (take at bytes)
  pub here : bytes ≡ take at bytes ++ 10 ∷ drop (at + 1) bytes

-- the bytes up to the first line feed were given
pub record PassesFeed (old new : Cutter) : Type 0 where
  pub piece : List ℕ
  pub feedless : IsFeedless piece
  pub split : old.pending ≡ piece ++ 10 ∷ new.pending
  pub text : new.text ≡ kept (old.text ++ piece)

-- bytes without a line feed were given
pub record PassesNone (old new : Cutter) : Type 0 where
  pub piece : List ℕ
  pub feedless : IsFeedless piece
  pub split : old.pending ≡ piece ++ new.pending
  pub text : new.text ≡ kept (old.text ++ piece)

-- where a call has come to: some bytes were passed over, and some of a line were read
pub record Reached (rest : List ℕ) (now : Cutter) (left : List ℕ) : Type 0 where
  pub skipped : List ℕ
  pub line : List ℕ
  pub split : rest ≡ skipped ++ (line ++ (now.pending ++ left))
  pub passed : IsPassedOver skipped
  pub feedless : IsFeedless line
  pub text : now.text ≡ kept line

-- a line that its line feed ends was read
pub record AtFeed (rest : List ℕ) (now : Cutter) (left : List ℕ) : Type 0 where
  pub skipped : List ℕ
  pub line : List ℕ
  pub split : rest ≡ skipped ++ (line ++ 10 ∷ (now.pending ++ left))
  pub passed : IsPassedOver skipped
  pub feedless : IsFeedless line
  pub text : now.text ≡ kept line

-- no counted line whose line feed is there stands before this place
pub record StopsAt (rest behind : List ℕ) : Type 0 where
  pub front : List ℕ
  pub split : rest ≡ front ++ behind
  pub none : whole_lines front ≡ []
