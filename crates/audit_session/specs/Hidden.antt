-- The promise as one sentence: other secrets lead the same life, byte for byte, and differ in what is guarded.
use Rattle.std.specs.Prelude.{◌≡◌, ◌≢◌, ℕ, ◌<◌, ℤ, List, [], ◌∷◌, ◌++◌, length, map, take, slice_set}
use Rattle.std.specs.List.{slice_index_or}
use Rattle.audit_types.specs.Headcount.{AreFew}
use Rattle.audit_types.specs.Shapes.{columns}
use Rattle.audit_types.specs.Column.{AreOwn, IsGuarded}
use Rattle.audit_types.specs.Truth.{number_at}
use Rattle.audit_types.specs.History.{Secrets, AreSecrets, AreSameFor, known_of, list_of}
use Rattle.audit_types.specs.People.{AreBehind, people_in}
use Rattle.table_load.specs.Cells.{counts_of}
use Rattle.table_load.specs.Database.{Database, table_in}
use Rattle.audit_core.specs.Ranges.{StaysOpen}
use Rattle.audit_session.specs.Lives.{Standing, Run, IsLife, history_over}

-- the table with these secrets, as many as it has rows
abbrev pub with_secrets : Secrets → Database → Database
with_secrets lists base = record base { secret = record { shape = base.secret.shape; lists = map (take base.secret.shape.rows) lists } }

-- the same moment of a life over these secrets
abbrev pub standing_with : Secrets → Standing → Standing
standing_with lists at = record at { base = with_secrets lists at.base }

-- the same run over these secrets: it does, leaves and sends the same
abbrev pub run_with : Secrets → Run → Run
run_with lists run = record run { left = standing_with lists run.left }

-- the same life over these secrets, byte for byte: each run over its own public part, and so many of the numbers as its table has rows
abbrev pub LeadsLife : Secrets → Database → List Run → Standing → Type 0
LeadsLife lists base runs last = IsLife (with_secrets lists base) (map (run_with lists) runs) (standing_with lists last)

-- other secrets of the last table, all along, lead the same life, have the same numbers in these rows, which one asker may know, and differ in
-- this value of a column from these numbers
pub record HasTwinLife (base : Database) (runs : List Run) (last : Standing) (own : List ℕ) (column : ℕ) (value : List ℤ → ℤ) (numbers : List ℤ) : Type 0 where
  pub lists : Secrets
  pub are_secrets : AreSecrets last.base.secret.shape lists
  pub life : LeadsLife lists base runs last
  pub same : AreSameFor own last.base.secret.lists lists
  pub differs : value (list_of lists column) ≢ value numbers

-- a life hides what is guarded of the last table from each asker: what few people have, and each protected total
abbrev pub IsHidden : Database → List Run → Standing → Type 0
IsHidden base runs last =
    (column : ℕ) (own : List ℕ) (value : List ℤ → ℤ) → column < columns last.base.secret.shape →
    AreOwn (known_of (table_in last.base).setting (history_over last.base last) column) own →
    IsGuarded (known_of (table_in last.base).setting (history_over last.base last) column) own value →
    HasTwinLife base runs last own column value (list_of last.base.secret.lists column)

-- and the number of each person behind a row of the last table, if its schema counts them: of other people who may be behind the rows this one
-- has another number, and what is told of them leads the same life
abbrev pub HidesEachPerson : Database → List Run → Standing → Type 0
HidesEachPerson base runs last =
    (everyone : List (List (List ℤ))) (column row person : ℕ) → AreBehind last.base.secret.shape (counts_of last.base.columns last.base.public) last.base.secret.lists everyone →
    column < columns last.base.secret.shape → person < length (slice_index_or (people_in everyone column) row []) →
    (others : List (List (List ℤ))) × (lists : Secrets) × AreBehind last.base.secret.shape (counts_of last.base.columns last.base.public) lists others × LeadsLife lists base runs last
    × (number_at (slice_index_or (people_in others column) row []) person ≢ number_at (slice_index_or (people_in everyone column) row []) person)

-- and each number that stood in the table at one of its runs, whether it still does or not, in a row of few people
abbrev pub HidesWhatStood : Database → List Run → Standing → Type 0
HidesWhatStood base runs last =
    (before after : List Run) (run : Run) (column row : ℕ) → runs ≡ before ++ run ∷ after → column < columns last.base.secret.shape →
    AreFew last.base.protected.people [] (row ∷ []) → row < run.left.base.secret.shape.rows → HasTwinLife base runs last [] column (λ w. number_at w row) (list_of run.left.base.secret.lists column)

-- for all that a life sent a column of the last table may have numbers of which this is true: with them and the other columns, all along, the
-- same life is led
abbrev pub MayHave : Database → List Run → Standing → ℕ → (List ℤ → Type 0) → Type 0
MayHave base runs last column Is = (numbers : List ℤ) × (length numbers ≡ last.base.secret.shape.rows) × LeadsLife (slice_set last.base.secret.lists column numbers) base runs last × Is numbers

-- a life leaves the numbers and the protected totals of the last table open within each range
abbrev pub IsOpenWithin : Database → List Run → Standing → Type 0
IsOpenWithin base runs last = (column : ℕ) → column < columns last.base.secret.shape →
    StaysOpen (MayHave base runs last column) (known_of (table_in last.base).setting (history_over last.base last) column) (list_of last.base.secret.lists column)
