-- What a loop does that reads the counted lines of an input and sends texts for them, whatever they are, and how it ends.
use Rattle.std.specs.Prelude.{◌≡◌, ◌≢◌, ◌<◌, ◌≤◌, ◌+◌, ℕ, true, List, [], ◌++◌, length, Result, Ok, Err, OnOk}
use Rattle.std.specs.List.{flat_map}
use Rattle.bench_core.specs.declared.bench.Bench.{Ghosts}
use Rattle.bench_core.specs.declared.source.Source.{Ghosts as SourceGhosts}
use Rattle.bench_core.specs.declared.stops.Stop.{Stop}
use Rattle.bench_core.specs.declared.stops.Stop.TheVariants as stop
use Rattle.bench_core.specs.declared.stops.End.{End}
use Rattle.bench_core.specs.declared.stops.End.TheVariants.{Stopped, Refused}
use Rattle.bench_core.specs.Bench.{AppendsFront, Elapses, Sending}
use Rattle.bench_core.specs.Calls.{IsQuiet, LeavesOnly, TellsFault}
use Rattle.bench_core.specs.Causes.{Rose}
use Rattle.line_wire.specs.Lines.{CountedLine, counted_lines, most_input}
use Rattle.line_wire.specs.WhichLines.{AreFirst, AreRead, AreWithin}

-- what is sent for counted lines: the bytes of a text, which texts are due to which lines and how many they are, and what a refusal says of
-- the input, the texts before it and how much was read
pub record Talk (X R : Type 0) : Type 1 where
  pub bytes : X → List ℕ
  pub Due : List CountedLine → List X → Type 0
  pub count : List CountedLine → ℕ
  pub Refuses : R → List ℕ → List X → Type 0
  pub Reads : R → List ℕ → Type 0

-- ---- which texts there are

-- those due to some first lines of these
abbrev pub DueToFirst : {X R : Type 0} → Talk X R → List CountedLine → List X → Type 0
DueToFirst talk all texts = (lines : List CountedLine) × AreFirst all lines × talk.Due lines texts

-- those due to the lines whose line feed stands among the bytes that were read
abbrev pub DueToRead : {X R : Type 0} → Talk X R → List ℕ → List ℕ → List X → Type 0
DueToRead talk input left texts = (lines : List CountedLine) × AreRead input left lines × talk.Due lines texts

-- those due to the lines whose line feed stands among the first 2^30 bytes
abbrev pub DueWithin : {X R : Type 0} → Talk X R → List ℕ → List X → Type 0
DueWithin talk input texts = (lines : List CountedLine) × AreWithin input lines × talk.Due lines texts

-- by the end
abbrev pub EndDue : {X R : Type 0} → Talk X R → Result (Unit {0}) (End R) → List ℕ → List ℕ → List X → Type 0
EndDue talk (Ok done) input left texts = talk.Due (counted_lines input) texts
EndDue talk (Err (Stopped stop.Input)) input left texts = DueToRead talk input left texts
EndDue talk (Err (Stopped stop.Limit)) input left texts = DueWithin talk input texts
EndDue talk (Err (Stopped stop.Bench)) input left texts = DueToFirst talk (counted_lines input) texts
EndDue talk (Err (Stopped stop.Spare)) input left texts = ⊥
EndDue talk (Err (Stopped stop.NoMemory)) input left texts = DueToFirst talk (counted_lines input) texts
EndDue talk (Err (Refused why)) input left texts = talk.Refuses why input texts

-- ---- what was sent

-- the texts; if a send failed, a front of them
abbrev pub EndSends : {X R : Type 0} → Talk X R → Result (Unit {0}) (End R) → List X → List ℕ → List ℕ → Type 0
EndSends talk (Err (Stopped stop.Bench)) texts before after = AppendsFront before (flat_map talk.bytes texts) after
EndSends talk ended texts before after = after ≡ before ++ flat_map talk.bytes texts

-- a front of what is due to some first lines
abbrev pub SendsDue : {X R : Type 0} → Talk X R → List CountedLine → List ℕ → List ℕ → Type 0
SendsDue {X} talk all before sent = (texts : List X) × DueToFirst talk all texts × AppendsFront before (flat_map talk.bytes texts) sent

-- what a crash finds meanwhile: the file as it was, and such a front, if the source tells its lines
abbrev pub TalksMeanwhile : {X R : Type 0} → Type 0 → Talk X R → List CountedLine → List ℕ → List ℕ → List ℕ → List ℕ → Type 0
TalksMeanwhile told talk all file before image sent = (image ≡ file) × (told → SendsDue talk all before sent)

-- ---- how much of the input there was

-- by the end, with what is said of it at a refusal
abbrev pub EndReads : {R : Type 0} → (R → List ℕ → Type 0) → Result (Unit {0}) (End R) → List ℕ → List ℕ → Type 0
EndReads refused (Ok done) input left = (left ≡ []) × (length input ≤ most_input)
EndReads refused (Err (Stopped stop.Input)) input left = length input ≤ most_input + length left
EndReads refused (Err (Stopped stop.Limit)) input left = most_input + length left < length input
EndReads refused (Err (Stopped why)) input left = Unit {0}
EndReads refused (Err (Refused why)) input left = refused why input

-- if it is answered that a read of the input failed, exactly one did, the last; else none did
pub record TellsInput {P : Type 0} (source : SourceGhosts P) (old new : P) (Answered : Type 0) : Type 0 where
  pub later : source.faults old ≤ source.faults new
  pub failed : Answered → Rose (source.faults old) (source.faults new)
  pub last_read : Answered → source.last_failed new ≡ true
  pub steady : (Answered → ⊥) → source.faults new ≡ source.faults old

-- ---- all of it

-- texts were sent for the lines of an input, up to this end
pub record Talks {P B X R : Type 0} (source : SourceGhosts P) (bench : Ghosts B) (talk : Talk X R) (first from : P) (old at : B)
    (result : Result (Unit {0}) (End R)) : Type 0 where
  pub due : source.told → (texts : List X) × EndDue talk result (source.left first) (source.left from) texts ×
      (bench.told → EndSends talk result texts (bench.sent old) (bench.sent at))
  pub calls : source.told → bench.told → OnOk result (bench.moment at ≡ bench.moment old + talk.count (counted_lines (source.left first)))
  pub reads : source.told → EndReads talk.Reads result (source.left first) (source.left from)
  pub moments : bench.told → IsQuiet bench old →
      LeavesOnly bench old at (TalksMeanwhile source.told talk (counted_lines (source.left first)) (bench.file old) (bench.sent old))
  pub file : bench.file at ≡ bench.file old
  pub crash : (image : List ℕ) → bench.leaves at image → bench.leaves old image
  pub input : TellsInput source first from (result ≡ Err (Stopped stop.Input))
  pub fault : TellsFault bench old at (result ≡ Err (Stopped stop.Bench))
  pub alone : result ≢ Err (Stopped stop.Spare)

-- how a call ended that refuses nothing
abbrev pub unrefused : Result (Unit {0}) Stop → Result (Unit {0}) (End ⊥)
unrefused (Ok done) = Ok done
unrefused (Err why) = Err (Stopped why)

-- ---- the sending of one text

-- its bytes were sent, by one call
pub record SendsAll {B : Type 0} (bench : Ghosts B) (old new : B) (bytes : List ℕ) : Type 0 where
  pub all : bench.told → bench.sent new ≡ bench.sent old ++ bytes
  pub file : bench.file new ≡ bench.file old
  pub crash : (image : List ℕ) → bench.leaves new image → bench.leaves old image
  pub time : Elapses (bench.moment old) (bench.moment new) (bench.since old) (bench.since new) (Sending (bench.leaves new) (bench.sent old) bytes)
  pub ticks : bench.told → bench.moment new ≡ bench.moment old + 1
  pub steady : bench.faults new ≡ bench.faults old

-- the call failed, and a front of them was sent
pub record SendsPart {B : Type 0} (bench : Ghosts B) (old new : B) (bytes : List ℕ) : Type 0 where
  pub part : bench.told → AppendsFront (bench.sent old) bytes (bench.sent new)
  pub file : bench.file new ≡ bench.file old
  pub crash : (image : List ℕ) → bench.leaves new image → bench.leaves old image
  pub time : Elapses (bench.moment old) (bench.moment new) (bench.since old) (bench.since new) (Sending (bench.leaves new) (bench.sent old) bytes)
  pub later : bench.faults old ≤ bench.faults new
  pub rose : Rose (bench.faults old) (bench.faults new)
  pub last : bench.last_failed new ≡ true
