-- The history that a transcript begins with: that of the journal in its folder, if one is made there.
use Rattle.std.specs.Prelude.{◌≡◌, ◌≢◌, ◌⊎◌, ℕ, List, [], Option, Result, Err}
use Rattle.audit_types.specs.declared.records.Answered.{Answered}
use Rattle.audit_types.specs.declared.shapes.Shape.{Shape}
use Rattle.audit_types.specs.History.{Setting}
use Rattle.audit_core.specs.Released.{WereReleased, IsFirstUnreleased}
use Rattle.answer_journal.specs.Moments.{IsMade}
use Rattle.bench_core.specs.declared.stops.Stop.TheVariants as stop
use Rattle.bench_core.specs.declared.stops.End.{End}
use Rattle.bench_core.specs.declared.stops.End.TheVariants.{Stopped, Refused}
use Rattle.answer_journal.specs.declared.refusals.JournalRefusal.{JournalRefusal}
use Rattle.answer_journal.specs.declared.refusals.JournalRefusal.TheVariants.{NotMade, Damaged, OtherShape, Untrue, Illegal}
use Rattle.journal_form.specs.Journal.{StandsFor, BreaksAt}
use Rattle.transcript_sim.specs.declared.simulating.SimulationRefusal.{SimulationRefusal}
use Rattle.transcript_sim.specs.declared.simulating.SimulationRefusal.TheVariants.{Journal}

-- no journal is made, and the history is empty; or the file is that of a history which was to be released
abbrev pub BeginsWith : List ℕ → Setting → List Answered → Type 0
BeginsWith file setting history = (¬ (IsMade file) × (history ≡ [])) ⊎ (StandsFor file setting.shape history × WereReleased setting history)

-- the journal is damaged
abbrev pub IsDamagedAt : List ℕ → ℕ → Type 0
IsDamagedAt file at = IsMade file × BreaksAt file at

-- it is that of a table of another shape
pub record IsOfOther (file : List ℕ) (setting : Setting) (kept now : Shape) : Type 0 where
  pub now_is : now ≡ setting.shape
  pub other : kept ≢ now
  pub history : List Answered
  pub stands : StandsFor file kept history

-- a record of its history wasn't to be released
pub record HoldsUnreleased (file : List ℕ) (setting : Setting) (place : ℕ) (group : Option ℕ) : Type 0 where
  pub history : List Answered
  pub stands : StandsFor file setting.shape history
  pub first : IsFirstUnreleased setting history place group

-- a journal is refused for these alone: it needn't be made, and no answer is tested
abbrev pub IsOfBeginning : JournalRefusal → Type 0
IsOfBeginning NotMade = ⊥
IsOfBeginning (Untrue place kept now) = ⊥
IsOfBeginning refusal = Unit {0}

-- why no history is begun with, by what the journal is
abbrev pub UnbegunCause : JournalRefusal → List ℕ → Setting → Type 0
UnbegunCause (Damaged at) file setting = IsDamagedAt file at
UnbegunCause (OtherShape kept now) file setting = IsOfOther file setting kept now
UnbegunCause (Illegal place group) file setting = HoldsUnreleased file setting place group
UnbegunCause why file setting = ⊥

-- what the end of a simulation says of the journal's file: why no history was begun with, or that one was
abbrev pub EndBegins : Result (Unit {0}) (End SimulationRefusal) → List ℕ → Setting → Type 0
EndBegins (Err (Refused (Journal why))) file setting = UnbegunCause why file setting
EndBegins (Err (Stopped stop.Bench)) file setting = Unit {0}
EndBegins (Err (Stopped stop.NoMemory)) file setting = Unit {0}
EndBegins ended file setting = (history : List Answered) × BeginsWith file setting history

-- if no history was begun with, for what the journal is, this holds of the refusal
abbrev pub IfUnbegun : Result (Unit {0}) (End SimulationRefusal) → (JournalRefusal → Type 0) → Type 0
IfUnbegun (Err (Refused (Journal why))) P = P why
IfUnbegun ended P = Unit {0}

-- this holds then
abbrev pub OnUnbegun : Result (Unit {0}) (End SimulationRefusal) → Type 0 → Type 0
OnUnbegun ended P = IfUnbegun ended (λ why. P)

-- why the audit doesn't go on from the history of a journal of this shape
abbrev pub HistoryCause : JournalRefusal → Shape → Setting → List Answered → Type 0
HistoryCause (OtherShape kept now) shape setting history = (kept ≡ shape) × (now ≡ setting.shape) × (kept ≢ now)
HistoryCause (Illegal place group) shape setting history = (shape ≡ setting.shape) × IsFirstUnreleased setting history place group
HistoryCause why shape setting history = ⊥
