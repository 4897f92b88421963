-- A store, as contracts see it: the secrets that it guards, the groups whose totals are protected, what was released, and the journal
-- behind it.
use Rattle.std.specs.Prelude.{◌≡◌, ◌⊎◌, ℕ, ◌≤◌, Bool, true, List, [], ◌∷◌, ◌++◌, length}
use Rattle.audit_types.specs.declared.shapes.Shape.{Shape}
use Rattle.audit_types.specs.declared.records.Asked.{Asked}
use Rattle.audit_types.specs.declared.records.Answered.{Answered}
use Rattle.audit_types.specs.History.{Protection, Table, AreProtected, IsLegal}
use Rattle.audit_core.specs.Audited.{Audited}
use Rattle.table_load.specs.Cells.{SecretView, IsSecret}
use Rattle.table_load.specs.Database.{secret_table}
use Rattle.bench_core.specs.declared.bench.Bench.{Ghosts}
use Rattle.bench_core.specs.Calls.{LeavesOnly}
use Rattle.journal_form.specs.Journal.{StandsAt, StandsFor}
use Rattle.answer_journal.specs.Append.{AppendsGroup}
use Rattle.answer_journal.specs.Contents.{JournalContents}
use Rattle.answer_journal.specs.Moments.{IsBeforeOrAfter}
use Rattle.audit_core.specs.declared.outcome.Outcome.{Outcome}
use Rattle.audit_core.specs.Outcomes.{AreOutcomes, records_made}

-- the secrets, the protected groups, the released records in order, the journal, and whether questions may be asked
pub record StoreContents : Type 0 where
  pub secret : SecretView
  pub protected : Protection
  pub history : List Answered
  pub journal : JournalContents
  pub usable : Bool

-- its table
abbrev pub table_of : StoreContents → Table
table_of store = secret_table store.secret store.protected

-- the secrets of a table
abbrev pub secrets_of : Table → SecretView
secrets_of table = record { shape = table.setting.shape; lists = table.secrets }

-- the table of a core over these secrets
abbrev pub table_by : SecretView → Audited → Table
table_by secret core = secret_table secret core.setting.protected

-- what is true of every store: its history is legal, and while it is usable its journal is that of its table and history
pub record IsStore (store : StoreContents) : Type 0 where
  pub numbers : IsSecret store.secret
  pub fit : AreProtected store.secret.shape store.protected
  pub legal : IsLegal (table_of store) store.history
  pub journal_usable : store.usable ≡ true → store.journal.usable ≡ true
  pub same_shape : store.usable ≡ true → store.journal.shape ≡ store.secret.shape
  pub counted : store.usable ≡ true → store.journal.count ≡ length store.history

-- the core audits the table, and its records begin with those that were released; while the store is usable they are all of them
pub record IsAuditedBy (table : Table) (core : Audited) (released : ℕ) (usable : Bool) : Type 0 where
  pub same_setting : core.setting ≡ table.setting
  pub within : released ≤ length core.history
  pub all : usable ≡ true → released ≡ length core.history

-- the file is as the store left it: it stands for the store's history, and its closing gate is where the journal says
abbrev pub IsAsLeft : List ℕ → StoreContents → Type 0
IsAsLeft file store = StandsAt file store.secret.shape store.history store.journal.gate

-- the calls of the bench for a group of records: four, and none if there is no record
abbrev pub calls_for : List Answered → ℕ
calls_for [] = 0
calls_for (r ∷ records) = 4

-- the file is as it was if there is no record, and else has the records as one group behind the gate
abbrev pub HasGroup : Shape → List Answered → ℕ → List ℕ → List ℕ → Type 0
HasGroup shape [] gate old new = new ≡ old
HasGroup shape (r ∷ records) gate old new = AppendsGroup shape (r ∷ records) gate old new

-- what a crash finds while a group of questions is decided and kept: nothing was sent, and the image stands for the
-- history before the group or for that with the group's records
pub record Keeps {D : Type 0} (bench : Ghosts D) (before after : D) (table : Table) (history : List Answered) (questions : List Asked) (sent : List ℕ) : Type 0 where
  pub outcomes : List Outcome
  pub due : AreOutcomes table history questions outcomes
  pub moments : LeavesOnly bench before after (IsBeforeOrAfter table.setting.shape history (records_made questions outcomes) sent)

-- a spare stands for the history with the records of a group, and an image of the bench's file for the same or for the history
-- before the group
pub record KeptAhead (spare image : List ℕ) (table : Table) (history : List Answered) (questions : List Asked) : Type 0 where
  pub outcomes : List Outcome
  pub due : AreOutcomes table history questions outcomes
  pub spare_stands : StandsFor spare table.setting.shape (history ++ records_made questions outcomes)
  pub image_stands : StandsFor image table.setting.shape history ⊎ StandsFor image table.setting.shape (history ++ records_made questions outcomes)
