-- What sending texts for the lines of the input comes to, by cases on how it ended.
use Rattle.std.proofs.Common.{ℕ, List, [], Result, Err, refl}
use Rattle.bench_core.specs.declared.stops.Stop.{Stop}
use Rattle.bench_core.specs.declared.stops.Stop.TheVariants as stop
use Rattle.line_wire.specs.Lines.{CountedLine}
use Rattle.line_wire.specs.Talks.{DueToFirst, EndDue, EndReads, EndSends, Talk, unrefused}
use Rattle.auditor_top.specs.Causes.{InputCause}
use Rattle.auditor_top.specs.Ends.{SendsTexts, TalkEnds}
use Rattle.auditor_top.specs.Faults.{ended_status}

-- before the first line nothing is due
pub none_due : {X R : Type 0} (talk : Talk X R) → talk.Due [] [] → (all : List CountedLine) → DueToFirst talk all []
none_due talk due all = ([], record { count = 0; are = refl }, due)

-- of what refuses nothing: what is due to the lines, what was sent, and how much of the input there was
module _ {X : Type 0} (talk : Talk X ⊥) where
  pub talk_ends : (ended : Result (Unit {0}) Stop) (input left : List ℕ) (texts : List X) → EndDue talk (unrefused ended) input left texts →
      TalkEnds talk (ended_status ended) input left texts
  talk_ends (Err stop.Spare) input left texts due = absurd due
  talk_ends (Err stop.Input) input left texts due = due
  talk_ends ended input left texts due = due

  pub talk_sends : (ended : Result (Unit {0}) Stop) (texts : List X) (before after : List ℕ) → EndSends talk (unrefused ended) texts before after →
      SendsTexts talk (ended_status ended) texts before after
  talk_sends (Err stop.Input) texts before after sends = sends
  talk_sends ended texts before after sends = sends

  pub talk_reads : (ended : Result (Unit {0}) Stop) (before after : List ℕ) → EndReads talk.Reads (unrefused ended) before after →
      InputCause (ended_status ended) before after
  talk_reads (Err stop.Bench) before after reads = tt
  talk_reads (Err stop.Spare) before after reads = tt
  talk_reads (Err stop.NoMemory) before after reads = tt
  talk_reads ended before after reads = reads
