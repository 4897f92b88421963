-- What a call of the cutter keeps from turn to turn.
use Rattle.std.proofs.Common.{◌≢◌, ◌≡◌, ◌==◌, ℕ, zero, suc, ◌+◌, ◌-◌, ◌<◌, ◌≤◌, ◌⊎◌, inl, inr, Bool, true, false, cond, List, [], ◌∷◌, ◌++◌, length, refl, sym, ap, ◌∙◌, arith, append-nil, length-append, Result, Ok, Err}
use Rattle.std.proofs.lemmas.Bool.{true≢false}
use Rattle.std.proofs.lemmas.Grind.{common_steps}
use Rattle.line_wire.specs.Lines.{CountedLine, text, long, line_of, whole_lines, most_input}
use Rattle.line_wire.specs.Cutter.{Cutter, IsWithin, PassesFeed, PassesNone, Reached}
use Rattle.line_wire.specs.Steps.{Gives, GivesLast, ShowsText, Advances}
use Rattle.line_wire.specs.declared.lines.Next.{Next}
use Rattle.line_wire.specs.declared.lines.Next.TheVariants as next
use Rattle.bench_core.specs.declared.stops.Stop.{Stop}
use Rattle.bench_core.specs.declared.stops.Stop.TheVariants as stop
use Rattle.line_wire.specs.LineLaws.{kept-le}
use Rattle.line_wire.proofs.NextCountedLine.{to_feed, to_more, to_next, no_whole}

-- what holds at each turn of a call
pub record Turn {S : Type 0} (told : Type 0) (left : S → List ℕ) (faults : S → ℕ) (old now : Cutter) (first source : S) : Type 0 where
  pub within : IsWithin now
  pub reached : told → Reached (old.pending ++ left first) now (left source)
  pub same : told → now.ended ≡ true → left source ≡ []
  pub taken : told → now.taken + length (left source) ≡ old.taken + length (left first)
  pub grown : old.taken + length now.pending + length now.text ≤ now.taken + length old.pending
  -- no read failed so far
  pub steady : faults source ≡ faults first
  -- nothing was read so far, or no whole line was at hand
  pub unread : ((source ≡ first) × Reached (old.pending ++ []) now []) ⊎ (whole_lines (old.pending ++ []) ≡ [])
  pub once : old.ended ≡ true → (source ≡ first) × (now.ended ≡ true)

-- bytes that were passed are no longer at hand
pub grown_feed : (old now new : Cutter) → old.taken + length now.pending + length now.text ≤ now.taken + length old.pending → PassesFeed now new →
    new.taken ≡ now.taken → old.taken + length new.pending < new.taken + length old.pending
grown_feed old now new grown passes same =
    let size : length now.pending ≡ length passes.piece + suc (length new.pending) = ap (λ (l : List ℕ). length l) passes.split
    ∙ length-append passes.piece (10 ∷ new.pending) in
    omega (arith, grown, size, same)

-- bytes that were passed without a line feed are at hand or in the line
pub grown_none : (old now new : Cutter) → old.taken + length now.pending + length now.text ≤ now.taken + length old.pending → PassesNone now new →
    new.taken ≡ now.taken → old.taken + length new.pending + length new.text ≤ new.taken + length old.pending
grown_none old now new grown passes same =
    let size : length now.pending ≡ length passes.piece + length new.pending = ap (λ (l : List ℕ). length l) passes.split
    ∙ length-append passes.piece new.pending in
    let text : length new.text ≤ length now.text + length passes.piece = kept-le now.text passes.piece new.text passes.text in
    omega (arith, grown, size, same, text)

-- what counts has a byte
pub some_byte : (shown : List ℕ) (line : CountedLine) → line_of shown ≡ line ∷ [] → 0 < length shown
some_byte [] line is = absurd (no is)
  where
    no : [] ≡ line ∷ [] → ⊥
    no is = cc
some_byte (b ∷ shown) line is = omega arith

-- a line that a line feed ended took a byte
pub advances_fed : (answer : Next) (old new : Cutter) → old.taken + length new.pending < new.taken + length old.pending → Advances old new answer
advances_fed next.Line old new grown = grown
advances_fed next.Long old new grown = grown
advances_fed next.End old new grown = tt

-- what counts at a line feed counts at the end of the input
pub last_gives : (answer : Next) (shown : List ℕ) (lines : List CountedLine) → Gives answer shown lines → GivesLast answer shown lines
last_gives next.Line shown lines gives = gives
last_gives next.Long shown lines gives = gives
last_gives next.End shown lines gives = absurd gives

-- the text of a line has at most 8,192 bytes
is_short : (shown piece : List ℕ) → line_of piece ≡ text shown ∷ [] → length shown ≤ 8192
is_short shown piece is = grind (arith, common_steps)

-- only an answer Line shows a text
pub shows_line : (answer : Next) (shown piece : List ℕ) → Gives answer shown (line_of piece) → ShowsText (Ok answer) shown
shows_line next.Line shown piece gives = is_short shown piece gives
shows_line next.Long shown piece gives = gives.1
shows_line next.End shown piece gives = absurd gives

pub shows_last : (answer : Next) (shown piece : List ℕ) → GivesLast answer shown (line_of piece) → ShowsText (Ok answer) shown
shows_last next.Line shown piece gives = is_short shown piece gives
shows_last next.Long shown piece gives = gives.1
shows_last next.End shown piece gives = gives.1

-- an answer isn't a refusal
pub answer_is_no_refusal : {answer : Next} → Ok answer ≡ Err stop.Input → ⊥
answer_is_no_refusal is = cc

-- a refusal at the limit isn't one of a failed read
pub limit_is_no_input : (result : Result Next Stop) → result ≡ Err stop.Limit → result ≡ Err stop.Input → ⊥
limit_is_no_input result limit input = cc

-- if a whole line is at hand, nothing was read
pub nothing_read : {S : Type 0} (old now : Cutter) (first source : S) →
    ((source ≡ first) × Reached (old.pending ++ []) now []) ⊎ (whole_lines (old.pending ++ []) ≡ []) →
    whole_lines old.pending ≢ [] → source ≡ first
nothing_read old now first source (inl here) some = here.0
nothing_read old now first source (inr none) some = absurd (some (ap whole_lines (sym (append-nil old.pending)) ∙ none))

-- a last line took a byte
pub advances_last : (answer : Next) (old now new : Cutter) → old.taken + length now.pending + length now.text ≤ now.taken + length old.pending
    → new.taken ≡ now.taken → new.pending ≡ now.pending
    → GivesLast answer new.text (line_of now.text) → Advances old new answer
advances_last next.Line old now new grown taken pending gives =
    omega (arith, grown, taken, ap (λ (l : List ℕ). length l) pending, some_byte now.text (text new.text) gives)
advances_last next.Long old now new grown taken pending gives =
    omega (arith, grown, taken, ap (λ (l : List ℕ). length l) pending, some_byte now.text long gives.0)
advances_last next.End old now new grown taken pending gives = tt

-- if all bytes at hand were passed without a read, no whole line was among them
pub none_at_hand : (rest : List ℕ) (old now : Cutter) → Reached rest old [] → PassesNone old now → now.pending ≡ [] → whole_lines rest ≡ []
none_at_hand rest old now so_far passes dry =
    let stop = no_whole rest now [] (to_more rest old now [] so_far passes) in
    ap whole_lines (stop.split ∙ ap (λ l. stop.front ++ (l ++ [])) dry ∙ append-nil stop.front) ∙ stop.none

-- what a turn without a read leaves at hand
pub still_unread : {S : Type 0} (old now new : Cutter) (first source : S) →
    ((source ≡ first) × Reached (old.pending ++ []) now []) ⊎ (whole_lines (old.pending ++ []) ≡ []) → PassesNone now new → new.pending ≡ [] →
    whole_lines old.pending ≡ []
still_unread old now new first source (inl here) passes dry =
    ap whole_lines (sym (append-nil old.pending)) ∙ none_at_hand (old.pending ++ []) now new here.1 passes dry
still_unread old now new first source (inr none) passes dry = ap whole_lines (sym (append-nil old.pending)) ∙ none

pub next_unread : {S : Type 0} (old now fed new : Cutter) (first source : S)
    → ((source ≡ first) × Reached (old.pending ++ []) now []) ⊎ (whole_lines (old.pending ++ []) ≡ []) → PassesFeed now fed → line_of fed.text ≡ []
    → new.text ≡ [] → new.pending ≡ fed.pending
    → ((source ≡ first) × Reached (old.pending ++ []) new []) ⊎ (whole_lines (old.pending ++ []) ≡ [])
next_unread old now fed new first source (inl here) passes none empty same = inl (here.0, to_next _ _ _ _ (to_feed _ _ _ _ here.1 passes) none empty same)
next_unread old now fed new first source (inr none_whole) passes none empty same = inr none_whole

-- ---- the loop ends

-- up to a line feed at least one byte is given
pub shrinks_feed : (old new : Cutter) → PassesFeed old new → length new.pending < length old.pending
shrinks_feed old new passed = omega (arith, ap (λ (l : List ℕ). length l) passed.split, length-append passed.piece (10 ∷ new.pending))

less_at_hand_by : (most taken pending end t p e : ℕ) → t ≡ taken → e ≡ end → p < pending → t ≤ most + p →
    (most + 65536 - t) + (most + p - t) + e < (most + 65536 - taken) + (most + pending - taken) + end
less_at_hand_by most taken pending end t p e same ended fewer within = omega arith

-- less is at hand, and as much was taken
pub less_at_hand : (was mid now : Cutter) → mid.taken ≡ was.taken → mid.ended ≡ was.ended → now.taken ≡ mid.taken → now.ended ≡ mid.ended →
    now.pending ≡ mid.pending → length mid.pending < length was.pending → mid.taken ≤ most_input + length mid.pending →
    (most_input + 65536 - now.taken) + (most_input + length now.pending - now.taken) + cond now.ended 0 1
    < (most_input + 65536 - was.taken) + (most_input + length was.pending - was.taken) + cond was.ended 0 1
less_at_hand was mid now taken ended taken_so ended_so pending fewer within =
    less_at_hand_by most_input was.taken (length was.pending) (cond was.ended 0 1) now.taken (length now.pending) (cond now.ended 0 1)
    (taken_so ∙ taken) (ap (λ (b : Bool). cond b 0 1) (ended_so ∙ ended)) (rw pending fewer) (rw (pending, taken_so) within)

more_read_by : (most taken pending t p : ℕ) (ended : Bool) → taken ≤ most → t ≡ taken + p → (ended ≡ false → taken < t) →
    (most + 65536 - t) + (most + p - t) + cond ended 0 1 < (most + 65536 - taken) + (most + pending - taken) + 1
more_read_by most taken pending t p true within is grows = omega arith
more_read_by most taken pending t p false within is grows = omega (arith, grows refl)

-- a count that isn't 0 is of some bytes
pub some_read : (count : ℕ) → (count == 0) ≡ false → 0 < count
some_read zero is = absurd (true≢false is)
some_read (suc count) is = omega arith

-- more was taken, or the input has ended
pub more_read : (was mid now : Cutter) → was.ended ≡ false → mid.taken ≡ was.taken → mid.taken ≤ most_input → now.taken ≡ mid.taken + length now.pending →
    (now.ended ≡ false → mid.taken < now.taken) →
    (most_input + 65536 - now.taken) + (most_input + length now.pending - now.taken) + cond now.ended 0 1
    < (most_input + 65536 - was.taken) + (most_input + length was.pending - was.taken) + cond was.ended 0 1
more_read was mid now open_end taken within is grows =
    rw open_end (more_read_by most_input was.taken (length was.pending) now.taken (length now.pending) now.ended (rw taken at within) (rw taken at is)
    (λ goes_on. rw taken at (grows goes_on)))
