-- What is shown of a table beside the replies, and that it tells nothing more than they do: a report follows from the schema, the number of
-- rows and the history, so do the counts of a compaction; a certificate from these and the public part, and a verdict from that, its
-- transcript and the history that it begins with.
--
-- The other commands show nothing of a table: `init` and `grow` send no byte (`unsent` of their records in Runs.antt), and `drill` reads
-- no file (`no_files` of `run`).
use Rattle.std.specs.Prelude.{◌≡◌, ◌↔◌, ℕ, ◌<◌, ℤ, List, map}
use Rattle.audit_types.specs.declared.records.Answered.{Answered}
use Rattle.audit_types.specs.Shapes.{columns}
use Rattle.audit_types.specs.Column.{AreOwn, IsGuarded}
use Rattle.audit_types.specs.History.{IsLegal, known_of, list_of}
use Rattle.table_load.specs.Database.{Database, AreTwins, table_in}
use Rattle.line_wire.specs.Lines.{CountedLine}
use Rattle.question_plan.specs.Session.{Replied}
use Rattle.audit_session.specs.Lives.{Standing, Run, IsLife, KeepsPromise, history_over}
use Rattle.audit_session.specs.Hidden.{HasTwinLife, with_secrets, run_with, standing_with}
use Rattle.journal_audit.specs.Reports.{SendsMeanwhile}
use Rattle.certificate_lines.specs.Explained.{AreExplained}
use Rattle.transcript_sim.specs.Verdicts.{AreVerdicts}
use Rattle.auditor_top.specs.declared.status.Status.{Status}
use Rattle.auditor_top.specs.declared.status.Status.TheVariants.{Done}
use Rattle.auditor_top.specs.Commands.{AreSoundFilesOf, SimulatesOver}
use Rattle.journal_compact.specs.Compactions.{SendsCounts}
use Rattle.auditor_top.specs.Compactions.{CompactEnds}
use Rattle.auditor_top.specs.Ends.{AuditEnds, audit_over, subjects_over, public_part}

-- after one history the same is shown of both tables: `audit` and `compact` may send of the one what they may send of the other, and nothing
-- else, by each status and at every moment; `explain` has the same line for every line that is asked; and `simulate` takes the same files, with
-- every journal, and has the same verdicts on every transcript, whatever history it begins with
pub record AreShownAlike (base other : Database) (history : List Answered) : Type 0 where
  pub report : (status : Status) (before after : List ℕ) → AuditEnds status base history before after ↔ AuditEnds status other history before after
  pub meanwhile : (file before image sent : List ℕ) →
      SendsMeanwhile (audit_over base history) (subjects_over base) file before image sent
      ↔ SendsMeanwhile (audit_over other history) (subjects_over other) file before image sent
  pub certificates : (asked : List CountedLine) (lines : List (List ℕ)) →
      AreExplained (public_part base) history asked lines ↔ AreExplained (public_part other) history asked lines
  pub compacted : (status : Status) (spare new_spare before after : List ℕ) →
      CompactEnds status base.secret.shape history spare new_spare before after ↔ CompactEnds status other.secret.shape history spare new_spare before after
  pub compacting : (file before image sent : List ℕ) →
      SendsCounts base.secret.shape history file before image sent ↔ SendsCounts other.secret.shape history file before image sent
  pub files : (schema table file : List ℕ) (begun : List Answered) →
      SimulatesOver schema table file (public_part base) begun ↔ SimulatesOver schema table file (public_part other) begun
  pub verdicts : (begun : List Answered) (lines : List CountedLine) (verdicts : List (Replied Answered)) →
      AreVerdicts (public_part base) begun lines verdicts ↔ AreVerdicts (public_part other) begun lines verdicts

-- other secrets, which differ in this of a column, lead the same life, byte for byte, which keeps the promise of them too, so that `audit`
-- takes its journal; and wherever it stands the same is shown of them
pub record TellsNothingMore (base : Database) (runs : List Run) (last : Standing) (own : List ℕ) (column : ℕ) (value : List ℤ → ℤ) : Type 0 where
  pub twin : HasTwinLife base runs last own column value (list_of last.base.secret.lists column)
  pub keeps : KeepsPromise (with_secrets twin.lists base) (map (run_with twin.lists) runs) (standing_with twin.lists last)
  pub alike : (at : Standing) → AreShownAlike at.base (with_secrets twin.lists at.base) at.history

-- the same is shown of all tables that differ in their secrets alone, after every history
abbrev pub TwinsAreShownAlike : Type 0
TwinsAreShownAlike = (base other : Database) (history : List Answered) → AreTwins base other → AreShownAlike base other history

-- and if `audit` is done over two of them, after one legal history, it sent the very same bytes
abbrev pub TwinsHaveOneReport : Type 0
TwinsHaveOneReport =
    (base other : Database) (history : List Answered) (before after sent : List ℕ) → AreTwins base other → IsLegal (table_in base) history →
    AuditEnds Done base history before after → AuditEnds Done other history before sent → sent ≡ after

-- every life whose last table is that of two files tells no asker more of what is guarded there from her
abbrev pub LivesTellNothingMore : Type 0
LivesTellNothingMore =
    (schema table : List ℕ) (base : Database) (runs : List Run) (last : Standing) (column : ℕ) (own : List ℕ) (value : List ℤ → ℤ) →
    AreSoundFilesOf schema table last.base → IsLife base runs last → column < columns last.base.secret.shape →
    AreOwn (known_of (table_in last.base).setting (history_over last.base last) column) own →
    IsGuarded (known_of (table_in last.base).setting (history_over last.base last) column) own value → TellsNothingMore base runs last own column value
