-- What the answers of the cutter say.
use Rattle.std.specs.Prelude.{◌≡◌, ◌<◌, ◌≤◌, ℕ, ◌+◌, List, [], ◌∷◌, ◌++◌, length, Result, Ok, Err}
use Rattle.line_wire.specs.Lines.{CountedLine, text, long, counted_lines, most_input}
use Rattle.line_wire.specs.Cutter.{Cutter, PassesFeed, PassesNone, TakesLine, StopsAt}
use Rattle.line_wire.specs.declared.lines.Step.{Step}
use Rattle.line_wire.specs.declared.lines.Step.TheVariants.{Fed, Dry, Over}
use Rattle.line_wire.specs.declared.lines.Next.{Next}
use Rattle.line_wire.specs.declared.lines.Next.TheVariants as next
use Rattle.bench_core.specs.declared.stops.Stop.{Stop}
use Rattle.bench_core.specs.declared.stops.Stop.TheVariants as stop

-- what was passed of the bytes at hand: up to a line feed, all of them, or all below the limit
abbrev pub Passes : Step → Cutter → Cutter → Type 0
Passes Fed old new = PassesFeed old new
Passes Dry old new = PassesNone old new × (new.pending ≡ []) × (new.taken ≤ most_input)
Passes Over old new = PassesNone old new × (0 < length new.pending) × (new.taken ≡ most_input + length new.pending)

-- the one line that an answer gives
abbrev pub Gives : Next → List ℕ → List CountedLine → Type 0
Gives next.Line shown lines = lines ≡ text shown ∷ []
Gives next.Long shown lines = (lines ≡ long ∷ []) × (shown ≡ [])
Gives next.End shown lines = ⊥

-- what the bytes after the last line feed count as: one line, or none, and then the input has ended
abbrev pub GivesLast : Next → List ℕ → List CountedLine → Type 0
GivesLast next.Line shown lines = lines ≡ text shown ∷ []
GivesLast next.Long shown lines = (lines ≡ long ∷ []) × (shown ≡ [])
GivesLast next.End shown lines = (lines ≡ []) × (shown ≡ [])

-- what an answer says of the rest before the call and after it
abbrev pub Answers : Next → List ℕ → Cutter → List ℕ → Type 0
Answers next.Line rest new left = TakesLine rest new.ended (text new.text) (new.pending ++ left)
Answers next.Long rest new left = TakesLine rest new.ended long (new.pending ++ left)
Answers next.End rest new left = (new.pending ++ left ≡ []) × (counted_lines rest ≡ [])

-- what a refusal says: no whole line stands among the bytes that were taken, or among those below the limit
abbrev pub Stops : Stop → List ℕ → Cutter → List ℕ → Type 0
Stops stop.Input rest new left = StopsAt rest left
Stops stop.Limit rest new left = StopsAt rest (new.pending ++ left)
Stops other rest new left = ⊥

-- how many bytes were taken at a refusal: at most 2^30, or more and all of these were passed. Nothing else stops the cutter
abbrev pub StopsWithin : Stop → Cutter → Type 0
StopsWithin stop.Input new = new.taken ≤ most_input
StopsWithin stop.Limit new = (new.taken ≡ most_input + length new.pending) × (0 < length new.pending)
StopsWithin other new = ⊥

-- only an answer Line shows a text, of at most 8,192 bytes
abbrev pub ShowsText : Result Next Stop → List ℕ → Type 0
ShowsText (Ok next.Line) shown = length shown ≤ 8192
ShowsText (Ok next.Long) shown = shown ≡ []
ShowsText (Ok next.End) shown = shown ≡ []
ShowsText (Err refusal) shown = shown ≡ []

-- a line takes at least one byte
abbrev pub Advances : Cutter → Cutter → Next → Type 0
Advances old new next.Line = old.taken + length new.pending < new.taken + length old.pending
Advances old new next.Long = old.taken + length new.pending < new.taken + length old.pending
Advances old new next.End = Unit {0}

-- the counted lines of the rest are the one that an answer gives and those after it
abbrev pub Counts : Next → List CountedLine → List ℕ → List CountedLine → Type 0
Counts next.Line before shown behind = before ≡ text shown ∷ behind
Counts next.Long before shown behind = before ≡ long ∷ behind
Counts next.End before shown behind = before ≡ []
