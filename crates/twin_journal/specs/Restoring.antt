-- A lost journal, written anew from the other one.
use Rattle.std.specs.Prelude.{◌≡◌, ◌⊎◌, ◌↔◌, ℕ, ◌+◌, List}
use Rattle.audit_types.specs.declared.shapes.Shape.{Shape}
use Rattle.audit_types.specs.declared.records.Answered.{Answered}
use Rattle.audit_types.specs.History.{Table, IsLegal}
use Rattle.journal_form.specs.Journal.{StandsFor}
use Rattle.answer_journal.specs.Moments.{IsMade}
use Rattle.answer_journal.specs.Whole.{HoldsWhole}
use Rattle.audit_store.specs.Starting.{StartCause}
use Rattle.twin_journal.specs.declared.restoring.RestoreRefusal.{RestoreRefusal}
use Rattle.twin_journal.specs.declared.restoring.RestoreRefusal.TheVariants.{NothingLost, BothLost, Main, Spare}

-- a file is lost if no journal is made in it
abbrev pub IsLost : List ℕ → Type 0
IsLost file = IsMade file → ⊥

-- this file is lost, and that one stands for this legal history of the table
pub record IsLostOf (table : Table) (lost kept : List ℕ) (history : List Answered) : Type 0 where
  pub unmade : IsLost lost
  pub stands : StandsFor kept table.setting.shape history
  pub legal : IsLegal table history

-- one of the files can be written anew from the other
abbrev pub CanRestore : Table → List ℕ → List ℕ → Type 0
CanRestore table file spare = (history : List Answered) × (IsLostOf table spare file history ⊎ IsLostOf table file spare history)

-- why nothing was restored
abbrev pub RestoreCause : RestoreRefusal → List ℕ → List ℕ → Table → Type 0
RestoreCause NothingLost file spare table = IsMade file × IsMade spare
RestoreCause BothLost file spare table = IsLost file × IsLost spare
RestoreCause (Main refusal) file spare table = IsLost spare × IsMade file × StartCause refusal file table
RestoreCause (Spare refusal) file spare table = IsLost file × IsMade spare × StartCause refusal spare table

-- the same refusal, of a caller that lent its spare for the journal, and its journal for the spare
abbrev pub turned_refusal : RestoreRefusal → RestoreRefusal
turned_refusal NothingLost = NothingLost
turned_refusal BothLost = BothLost
turned_refusal (Main refusal) = Spare refusal
turned_refusal (Spare refusal) = Main refusal

-- one file was lost; the other is as it was, and both now stand for its history, which is legal. The one that was lost holds it whole, with
-- nothing behind its last gate but what stood there before
pub record Restored (table : Table) (lost kept new_lost new_kept : List ℕ) (history : List Answered) : Type 0 where
  pub was : IsLostOf table lost kept history
  pub same : new_kept ≡ kept
  pub stands : StandsFor new_lost table.setting.shape history
  pub whole : HoldsWhole table.setting.shape history lost new_lost

-- the files stand for the same, if for anything
abbrev pub StandForTheSame : List ℕ → List ℕ → Type 0
StandForTheSame file spare = (shape : Shape) (history : List Answered) → StandsFor file shape history ↔ StandsFor spare shape history

-- so many calls were made of each, by their moments before and after: four of the kept file, eight of the lost one
pub record TakeCalls (lost_before lost_after kept_before kept_after : ℕ) : Type 0 where
  pub lost : lost_after ≡ lost_before + 8
  pub kept : kept_after ≡ kept_before + 4
