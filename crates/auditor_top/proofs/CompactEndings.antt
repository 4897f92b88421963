-- What the end of the last step of `compact` comes to, by cases on it.
use Rattle.std.proofs.Common.{rules, ◌≡◌, ◌≢◌, ℕ, List, Some, Result, Ok, Err, IsErr, IsErrOf, OnOk, OnErr, refl, inr}
use Rattle.std.specs.Prelude.{⊤, IfErr}
use Rattle.std.proofs.lemmas.Bool.{false≢true}
use Rattle.audit_types.specs.declared.records.Answered.{Answered}
use Rattle.audit_types.specs.History.{Table as Guarded}
use Rattle.audit_types.specs.declared.shapes.Shape.{Shape}
use Rattle.answer_journal.specs.Moments.{IsMade}
use Rattle.journal_compact.specs.Compactions.{Compacts, CompactsFront}
use Rattle.answer_journal.specs.declared.refusals.AlreadyThere.{AlreadyThere as There}
use Rattle.bench_core.specs.Ends.{EndsBy, IsRefused}
use Rattle.bench_core.specs.EndLaws.{stopped_unless_refused}
use Rattle.bench_core.specs.Stops.{IsOfBenches}
use Rattle.bench_core.specs.declared.stops.End.{End}
use Rattle.bench_core.specs.declared.stops.End.TheVariants.{Stopped, Refused}
use Rattle.bench_core.specs.declared.stops.Stop.TheVariants as stop
use Rattle.auditor_top.specs.declared.words.Command.TheVariants.{Compact}
use Rattle.auditor_top.specs.declared.status.Object.TheVariants.{Spare}
use Rattle.auditor_top.specs.declared.status.Refusal.TheVariants.{SpareThere}
use Rattle.auditor_top.specs.declared.status.Status.TheVariants.{Failed}
use Rattle.auditor_top.specs.Causes.{WordCause, FileCause, SpareCause, HoldsLegal}
use Rattle.auditor_top.specs.Compactions.{CompactEnds}
use Rattle.auditor_top.specs.Stages.{Before, opening_spare, reading_lines}
use Rattle.auditor_top.specs.Faults.{compacting_status}
use Rattle.auditor_top.proofs.StepFaults.{end_unrefused}
use Rattle.auditor_top.proofs.StepStatuses.{EndsLastStep, IsUnrefused}

-- a call of the bench or of the spare ends it early, or that memory ran out
abbrev pub CompactStops : {X : Type 0} → Result X (End There) → Type 0
CompactStops ended = IfErr ended (EndsBy IsOfBenches (λ _. ⊤))

-- what its status says by itself
pub record CompactSays {X : Type 0} (ended : Result X (End There)) : Type 1 where
  pub last : EndsLastStep (compacting_status ended)
  pub words : WordCause (compacting_status ended) (Some Compact)
  pub file : (file : List ℕ) (table : Guarded) → HoldsLegal file table → FileCause (compacting_status ended) Compact file table
  -- it comes to the spare, and nothing was sent before the lines, nor if the spare failed
  pub at_spare : (P : Type 0) → Before opening_spare (compacting_status ended) P
  pub at_lines : (P : Type 0) → OnErr ended (ended ≢ Err (Stopped stop.Bench) → P) → Before reading_lines (compacting_status ended) P
  pub unsent : (P : Type 0) → compacting_status ended ≡ Failed Spare → OnErr ended (ended ≢ Err (Stopped stop.Bench) → P) → P

pub compact_says : {X : Type 0} (ended : Result X (End There)) → CompactStops ended → CompactSays ended
compact_says (Err (Stopped stop.Input)) stops = absurd stops
compact_says (Err (Stopped stop.Limit)) stops = absurd stops
compact_says (Err (Refused there)) stops = search rules
compact_says ended stops = search rules

-- it is refused if a journal is made on the spare, and done if none is
pub compact_spare : {X : Type 0} (ended : Result X (End There)) (file : List ℕ) → CompactStops ended → (IsRefused ended → IsMade file) →
    (IsMade file → IsErr ended) → SpareCause (compacting_status ended) Compact file
compact_spare (Ok done) file stops already refused = λ made. absurd (false≢true (refused made))
compact_spare (Err (Stopped stop.Input)) file stops already refused = absurd stops
compact_spare (Err (Stopped stop.Limit)) file stops already refused = absurd stops
compact_spare (Err (Stopped why)) file stops already refused = tt
compact_spare (Err (Refused there)) file stops already refused = already tt

-- over a legal history: what the spare holds, and what was sent
pub compact_ends : (ended : Result (Unit {0}) (End There)) (shape : Shape) (history : List Answered) (spare new_spare before after : List ℕ) →
    CompactStops ended → OnOk ended (Compacts shape history spare new_spare before after) →
    (IsErrOf ended (Stopped stop.Bench) → CompactsFront shape history spare new_spare before after) →
    OnErr ended (ended ≢ Err (Stopped stop.Bench) → after ≡ before) → CompactEnds (compacting_status ended) shape history spare new_spare before after
compact_ends (Ok done) shape history spare new_spare before after stops all part unsent = all
compact_ends (Err (Stopped stop.Input)) shape history spare new_spare before after stops all part unsent = absurd stops
compact_ends (Err (Stopped stop.Limit)) shape history spare new_spare before after stops all part unsent = absurd stops
compact_ends (Err (Stopped stop.Bench)) shape history spare new_spare before after stops all part unsent = inr (part refl)
compact_ends (Err (Stopped stop.Spare)) shape history spare new_spare before after stops all part unsent = unsent (λ is. cc)
compact_ends (Err (Stopped stop.NoMemory)) shape history spare new_spare before after stops all part unsent = unsent (λ is. cc)
compact_ends (Err (Refused there)) shape history spare new_spare before after stops all part unsent = unsent (λ is. cc)

-- if no journal is made there it isn't refused
pub compact_unrefused : {X : Type 0} (ended : Result X (End There)) → CompactStops ended → (IsRefused ended → ⊥) → IsUnrefused (compacting_status ended)
compact_unrefused (Ok done) stops absent = tt
compact_unrefused (Err end) stops absent = end_unrefused (λ there. SpareThere) end stops (stopped_unless_refused end absent)

-- what follows holds of the same refusals
pub unsent_so : {X P Q : Type 0} (ended : Result X (End There)) → (P → Q) → OnErr ended (ended ≢ Err (Stopped stop.Bench) → P) →
    OnErr ended (ended ≢ Err (Stopped stop.Bench) → Q)
unsent_so (Ok done) follows unsent = tt
unsent_so (Err end) follows unsent = λ other. follows (unsent other)
