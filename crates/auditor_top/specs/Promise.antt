-- The promise: in every life of runs over one table that lives each answer that left is true and kept, nothing that is guarded is
-- disclosed, and no decision tells of the secrets.
--
-- A life is runs one after another, each ended or stopped at any moment: runs of `serve`, and runs that grow the journal (IsLife of
-- audit_session). Each run's table has the secret columns of the table before it and no fewer rows; what is public, and which groups are
-- protected, may be anything for which the history is legal. What a life keeps is KeepsPromise there: the last history is legal for the
-- last table and discloses nothing of it that is guarded (audit_types), and of each run the bytes that it sent are a front of the replies
-- due to its lines over its own table (IsDue of question_plan), whose records are all in the last history. What it hides is IsHidden,
-- HidesEachPerson of the people behind rows that stand for several, and HidesWhatStood of each number that stood in the table at a run: other
-- secrets, with another number or protected total, lead to the very same bytes. By how much within the ranges that people know is IsOpenWithin. The clause `lives` of `run` is GoesOn: whatever moment a run over a life is stopped at, the life with that run keeps the
-- promise.
use Rattle.std.specs.Prelude.{◌≡◌, ◌⊎◌, ◌<◌, List, ℕ, [], ◌∷◌, ◌++◌}
use Rattle.audit_types.specs.Widening.{over, widened}
use Rattle.audit_types.specs.declared.records.Answered.{Answered}
use Rattle.table_load.specs.Database.{Database, IsDatabase, AreTwins, table_in}
use Rattle.journal_form.specs.Journal.{StandsFor}
use Rattle.answer_journal.specs.Moments.{IsBeforeOrGrown}
use Rattle.line_wire.specs.Lines.{CountedLine}
use Rattle.question_plan.specs.Laws.{AreAnswersAlike}
use Rattle.question_plan.specs.Replies.{IsDue}
use Rattle.question_plan.specs.Session.{Replied}
use Rattle.audit_session.specs.Stops.{StopsOver, stands_over}
use Rattle.audit_session.specs.Lives.{Standing, Run, Follows, GoesFrom, IsLife, KeepsPromise, AreAlike, shape_in}
use Rattle.audit_session.specs.Hidden.{IsHidden, HidesEachPerson, HidesWhatStood, IsOpenWithin}
use Rattle.audit_session.specs.Laws.{KeepsNumbers, KeepsGroups}
use Rattle.twin_journal.specs.Twins.{CatchesUpOrStops, SpareCatchesUpOrStops}
use Rattle.auditor_top.specs.Commands.{ArePublicFilesOf, AreSoundFilesOf, GrowsOver, ServesOver, SimulatesOver, TwinsOver}
use Rattle.auditor_top.specs.Ends.{public_part}

-- a life decides as every life over tables that differ in their secrets alone, whose runs do the same and left the same histories
-- and rows: to the next line both give one reply, or each the true answer of its own table
abbrev pub DecidesAlike : List Run → Standing → Type 0
DecidesAlike runs last =
    (twin : Database) (others : List Run) (final : Standing) (line : CountedLine) (a b : Replied Answered) → AreTwins last.base final.base → IsLife twin others final → AreAlike runs others →
    IsDue last.base last.history line a → IsDue final.base final.history line b → (a ≡ b) ⊎ AreAnswersAlike (table_in last.base) (table_in final.base) a b

-- a life with one run more is a life, keeps the promise, hides what is guarded, leaves it open within ranges, and decides as every life like it
pub record GoesOn (base : Database) (runs : List Run) (run : Run) : Type 0 where
  pub life : IsLife base (runs ++ run ∷ []) run.left
  pub keeps : KeepsPromise base (runs ++ run ∷ []) run.left
  pub hides : IsHidden base (runs ++ run ∷ []) run.left
  pub people : HidesEachPerson base (runs ++ run ∷ []) run.left
  pub stood : HidesWhatStood base (runs ++ run ∷ []) run.left
  pub ranges : IsOpenWithin base (runs ++ run ∷ []) run.left
  pub alike : DecidesAlike (runs ++ run ∷ []) run.left

-- what `init` made over the files of a table is taken by `serve` and by `audit`, if no group has a fault
abbrev pub MadeIsTaken : Type 0
MadeIsTaken =
    (schema table image : List ℕ) (base : Database) → AreSoundFilesOf schema table base → stands_over base image [] →
    ServesOver schema table image base []

-- what a stop of `serve` at any moment left is taken, whatever the lines were
abbrev pub StopsAreTaken : Type 0
StopsAreTaken =
    (schema table file image before sent : List ℕ) (base : Database) (batch : ℕ) (history : List Answered) (lines : List CountedLine) →
    ServesOver schema table file base history → StopsOver base batch history lines before image sent → (now : List Answered) × ServesOver schema table image base now

-- what a stop of `serve` with two journals left of both files, each at whatever moment, is taken again, whatever the lines were
abbrev pub TwinStopsAreTaken : Type 0
TwinStopsAreTaken =
    (schema table file spare image spare_image before sent spare_before spare_sent : List ℕ) (base : Database) (batch : ℕ) (main other whole : List Answered)
    (lines : List CountedLine) → TwinsOver schema table file spare base main other whole → CatchesUpOrStops base batch main whole lines before image sent →
    SpareCatchesUpOrStops base batch other whole lines spare_before spare_image spare_sent →
    (now : List Answered) × (beside : List Answered) × (longer : List Answered) × TwinsOver schema table image spare_image base now beside longer

-- what a growth at any moment left can grow as before, or is taken over all rows
abbrev pub GrowthsAreTaken : Type 0
GrowthsAreTaken =
    (schema table file image before sent : List ℕ) (base : Database) (rows : ℕ) (history : List Answered) → GrowsOver schema table file base rows history →
    IsBeforeOrGrown (over rows base.secret.shape) history base.secret.shape.rows before image sent →
    GrowsOver schema table image base rows history ⊎ ServesOver schema table image base (widened base.secret.shape.rows history)

-- what `serve` takes, and so what every run that it takes left, `simulate` begins with, over the public files of the table
abbrev pub ServedIsSimulated : Type 0
ServedIsSimulated =
    (schema table file public_schema public_table : List ℕ) (base : Database) (history : List Answered) → ServesOver schema table file base history →
    ArePublicFilesOf public_schema public_table (public_part base) →
    SimulatesOver public_schema public_table file (public_part base) history

-- every life whose last table is that of two files keeps the promise
abbrev pub LivesKeepPromise : Type 0
LivesKeepPromise =
    (schema table : List ℕ) (base : Database) (runs : List Run) (last : Standing) → AreSoundFilesOf schema table last.base → IsLife base runs last →
    KeepsPromise base runs last

-- the next run of `serve` is given what it has to be given, whatever image the last run left and whatever became of what is public, if its
-- table comes after the life's last one, keeps its numbers and its groups, and has as many rows as are in force
abbrev pub LivesGoOn : Type 0
LivesGoOn =
    (schema table image : List ℕ) (base now : Database) (runs : List Run) (last : Standing) → AreSoundFilesOf schema table now → IsLife base runs last →
    Follows last.base now → KeepsNumbers last.base now → KeepsGroups last.base now → last.rows ≡ now.secret.shape.rows →
    StandsFor image (shape_in last) last.history → ServesOver schema table image now last.history

-- so is the next run of `grow`, if its table has more rows than are in force
abbrev pub LivesGrow : Type 0
LivesGrow =
    (schema table image : List ℕ) (base now : Database) (runs : List Run) (last : Standing) → AreSoundFilesOf schema table now → IsLife base runs last →
    Follows last.base now → KeepsNumbers last.base now → KeepsGroups last.base now → last.rows < now.secret.shape.rows →
    StandsFor image (shape_in last) last.history → GrowsOver schema table image now last.rows last.history

-- a run after a life makes it one run longer; that its table is a schema's follows from its files
abbrev pub RunsMakeLives : Type 0
RunsMakeLives =
    (schema table : List ℕ) (base : Database) (runs : List Run) (at : Standing) (run : Run) → AreSoundFilesOf schema table run.left.base → IsLife base runs at →
    (IsDatabase run.left.base → GoesFrom at run) → GoesOn base runs run
