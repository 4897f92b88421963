-- How a run of `compact` ends, and what a journal that it left has in common with the one there was.
use Rattle.std.specs.Prelude.{◌≡◌, ◌⊎◌, ◌↔◌, ◌<◌, ℕ, List}
use Rattle.audit_types.specs.declared.shapes.Shape.{Shape}
use Rattle.audit_types.specs.declared.records.Answered.{Answered}
use Rattle.audit_types.specs.declared.records.Verdict.{Verdict}
use Rattle.audit_types.specs.Shapes.{columns}
use Rattle.audit_types.specs.History.{Table, IsLegal, IsDecisionAfter}
use Rattle.journal_compact.specs.Compactions.{Compacts, CompactsFront}
use Rattle.auditor_top.specs.declared.status.Object.TheVariants.{Schema, Table as TableFile, Bench, Spare}
use Rattle.auditor_top.specs.declared.status.Refusal.TheVariants.{SpareThere}
use Rattle.auditor_top.specs.declared.status.Status.{Status}
use Rattle.auditor_top.specs.declared.status.Status.TheVariants.{Done, Failed, NoMemory, Refused}

-- what the spare holds then, and what was sent. Files without fault and a legal journal are never refused
abbrev pub CompactEnds : Status → Shape → List Answered → List ℕ → List ℕ → List ℕ → List ℕ → Type 0
CompactEnds Done shape history spare new_spare before after = Compacts shape history spare new_spare before after
CompactEnds (Failed Schema) shape history spare new_spare before after = after ≡ before
CompactEnds (Failed TableFile) shape history spare new_spare before after = after ≡ before
CompactEnds (Failed Bench) shape history spare new_spare before after = (after ≡ before) ⊎ CompactsFront shape history spare new_spare before after
CompactEnds (Refused SpareThere) shape history spare new_spare before after = after ≡ before
CompactEnds (Failed Spare) shape history spare new_spare before after = after ≡ before
CompactEnds NoMemory shape history spare new_spare before after = after ≡ before
CompactEnds status shape history spare new_spare before after = ⊥

-- other records are legal for the table, and every question is decided after them as after the history
pub record DecideAlike (table : Table) (history others : List Answered) : Type 0 where
  pub legal : IsLegal table others
  pub alike : (column : ℕ) (rows : List ℕ) (verdict : Verdict) → column < columns table.setting.shape →
      IsDecisionAfter table.setting history column rows verdict ↔ IsDecisionAfter table.setting others column rows verdict
