-- What a call of the cutter does: the cutter before it and after it, and the source before it and after it.
use Rattle.std.specs.Prelude.{◌≡◌, ◌<◌, ◌≤◌, ◌+◌, true, [], ◌∷◌, ◌++◌, length}
use Rattle.bench_core.specs.declared.source.Source.{Ghosts}
use Rattle.bench_core.specs.Causes.{Rose}
use Rattle.line_wire.specs.Lines.{CountedLine, text, long, counted_lines, most_input}
use Rattle.line_wire.specs.Cutter.{Cutter, StopsAt}
use Rattle.line_wire.specs.ReadLines.{ReadsLines}
use Rattle.line_wire.specs.declared.lines.Next.{Next}
use Rattle.line_wire.specs.declared.lines.Next.TheVariants as next
use Rattle.bench_core.specs.declared.stops.Stop.{Stop}
use Rattle.bench_core.specs.declared.stops.Stop.TheVariants as stop

-- whatever it gave
pub record Cuts {P : Type 0} (source : Ghosts P) (old new : Cutter) (before after : P) : Type 0 where
  pub same : source.told → new.ended ≡ true → source.left after ≡ []
  pub taken : source.told → new.taken + length (source.left after) ≡ old.taken + length (source.left before)
  pub within : new.taken ≤ most_input + length new.pending
  pub still : old.ended ≡ true → new.ended ≡ true
  pub later : source.faults before ≤ source.faults after

-- it gave this line
pub record GivesLine {P : Type 0} (source : Ghosts P) (old new : Cutter) (before after : P) (line : CountedLine) : Type 0 where
  pub reads : source.told → ReadsLines (old.pending ++ source.left before) (new.pending ++ source.left after) new.ended (line ∷ [])
  pub takes : old.taken + length new.pending < new.taken + length old.pending
  pub steady : source.faults after ≡ source.faults before

-- no line is left
pub record GivesNone {P : Type 0} (source : Ghosts P) (old new : Cutter) (before after : P) : Type 0 where
  pub nothing : source.told → new.pending ++ source.left after ≡ []
  pub none : source.told → counted_lines (old.pending ++ source.left before) ≡ []
  pub steady : source.faults after ≡ source.faults before

-- a read failed
pub record FailsRead {P : Type 0} (source : Ghosts P) (old new : Cutter) (before after : P) : Type 0 where
  pub going : ¬ (old.ended ≡ true)
  pub stops : source.told → StopsAt (old.pending ++ source.left before) (source.left after)
  pub within : new.taken ≤ most_input
  pub rose : Rose (source.faults before) (source.faults after)
  pub last : source.last_failed after ≡ true

-- the limit was passed
pub record PassesLimit {P : Type 0} (source : Ghosts P) (old new : Cutter) (before after : P) : Type 0 where
  pub stops : source.told → StopsAt (old.pending ++ source.left before) (new.pending ++ source.left after)
  pub over : new.taken ≡ most_input + length new.pending
  pub some : 0 < length new.pending
  pub steady : source.faults after ≡ source.faults before

-- what it gave: a line, whose text the cutter shows, of at most 8,192 bytes, a long one, or none
abbrev pub GivesNext : {P : Type 0} → Ghosts P → Cutter → Cutter → P → P → Next → Type 0
GivesNext source old new before after next.Line = GivesLine source old new before after (text new.text) × (length new.text ≤ 8192)
GivesNext source old new before after next.Long = GivesLine source old new before after long
GivesNext source old new before after next.End = GivesNone source old new before after

-- why it gave nothing: for no other cause than these two
abbrev pub IsStopped : {P : Type 0} → Ghosts P → Cutter → Cutter → P → P → Stop → Type 0
IsStopped source old new before after stop.Input = FailsRead source old new before after
IsStopped source old new before after stop.Limit = PassesLimit source old new before after
IsStopped source old new before after other = ⊥
