-- Why a journal isn't written anew from another one.
use Rattle.std.specs.Prelude.{List, ℕ}
use Rattle.audit_types.specs.declared.records.Answered.{Answered}
use Rattle.audit_types.specs.History.{Table, IsLegal}
use Rattle.journal_form.specs.Journal.{StandsFor}
use Rattle.twin_journal.specs.declared.restoring.RestoreRefusal.{RestoreRefusal}
use Rattle.twin_journal.specs.declared.restoring.RestoreRefusal.TheVariants.{NothingLost, Main}

-- the file stands for this history of the table, which is legal
pub record IsKeptFor (table : Table) (file : List ℕ) (history : List Answered) : Type 0 where
  pub stands : StandsFor file table.setting.shape history
  pub legal : IsLegal table history

-- the kept one is refused, or the lost one is made
abbrev pub IsOfCopy : RestoreRefusal → Type 0
IsOfCopy NothingLost = Unit {0}
IsOfCopy (Main refusal) = Unit {0}
IsOfCopy refusal = ⊥
