-- What the calls of a bench do to its file and to the bytes sent, and what a crash leaves of them. A pair is an image
-- of the file and the bytes sent.
use Rattle.std.specs.Prelude.{◌≡◌, ◌⊎◌, ℕ, ◌+◌, ◌≤◌, max, List, ◌++◌, length, take, drop}

-- the new bytes are the old ones with a front of the piece after it
abbrev pub AppendsFront : List ℕ → List ℕ → List ℕ → Type 0
AppendsFront old piece new = (count : ℕ) × (new ≡ old ++ take count piece)

-- new is old with these bytes at this place
abbrev pub Holds : List ℕ → ℕ → List ℕ → List ℕ → Type 0
Holds old at piece new = new ≡ take at old ++ piece ++ drop (at + length piece) old

-- any bytes in the range and past the old end, the same elsewhere
pub record Torn (at count : ℕ) (old new : List ℕ) : Type 0 where
  pub before : take at new ≡ take at old
  pub after : drop (at + count) new ≡ drop (at + count) old
  pub no_shorter : length old ≤ length new
  pub no_longer : length new ≤ max (length old) (at + count)

-- each image that may be left now is one that might have been left before, after a step
abbrev pub Follows : (List ℕ → List ℕ → Type 0) → (List ℕ → Type 0) → (List ℕ → Type 0) → Type 0
Follows step old new = (image : List ℕ) → new image → (before : List ℕ) × old before × step before image

-- what a crash in a call on the file finds: the image, and what was sent before
abbrev pub Unsent : (List ℕ → Type 0) → List ℕ → List ℕ → List ℕ → Type 0
Unsent leaves before image sent = leaves image × (sent ≡ before)

-- what a crash in a send finds: the image, and any front of the piece sent
abbrev pub Sending : (List ℕ → Type 0) → List ℕ → List ℕ → List ℕ → List ℕ → Type 0
Sending leaves before piece image sent = leaves image × AppendsFront before piece sent

-- Time goes on: of the pairs since an earlier moment none is lost, and what joins them is found within the call.
pub record Elapses (before now : ℕ) (past since : ℕ → List ℕ → List ℕ → Type 0) (within : List ℕ → List ℕ → Type 0) : Type 0 where
  pub later : before ≤ now
  pub nothing_else : (t : ℕ) (image sent : List ℕ) → t ≤ before → since t image sent → past t image sent ⊎ within image sent
  pub keeps : (t : ℕ) (image sent : List ℕ) → t ≤ before → past t image sent → since t image sent

-- The file and what was sent stay as they were. A crash then leaves no image that it didn't leave before, and one within the
-- call leaves one of those that it leaves then.
pub record Stays {D : Type 0} (file_of sent_of : D → List ℕ) (may_leave : D → List ℕ → Type 0) (moment_of : D → ℕ) (found_since : D → ℕ → List ℕ → List ℕ → Type 0)
    (old new : D) : Type 0 where
  pub file : file_of new ≡ file_of old
  pub sent : sent_of new ≡ sent_of old
  pub crash : (image : List ℕ) → may_leave new image → may_leave old image
  pub time : Elapses (moment_of old) (moment_of new) (found_since old) (found_since new) (Unsent (may_leave new) (sent_of old))
