-- How many people stand behind the rows of a table, and of how few of them a number is guarded.
use Rattle.std.specs.Prelude.{◌≡◌, ℕ, ◌+◌, ◌<◌, ◌≤◌, nat_le, List, [], ◌∷◌, length}
use Rattle.std.specs.List.{AllByRecursion, slice_index_or}
use Rattle.audit_types.specs.Limits.{most_rows}
use Rattle.audit_types.specs.Rows.{Rows, rows_that}
use Rattle.audit_types.specs.declared.counted_rows.Askers.{Askers}
use Rattle.audit_types.specs.declared.counted_rows.Askers.TheVariants.{Outside, Inside}

-- how many people stand behind each row of a table, fewer than how many are guarded in what they have together, and of how many rows one asker
-- may know the numbers: none, or one, her own
pub record Headcount : Type 0 where
  pub counts : List ℕ
  pub fewest : ℕ
  pub own : ℕ

-- one person stands behind each row, her number is guarded, and no asker knows one
abbrev pub one_person_each : Headcount
one_person_each = record { counts = []; fewest = 2; own = 0 }

-- how many people stand behind a row: one, if nobody counted them
abbrev pub count_at : List ℕ → ℕ → ℕ
count_at counts row = slice_index_or counts row 1

-- how many people stand behind some rows
abbrev pub people_behind : List ℕ → List ℕ → ℕ
people_behind counts [] = 0
people_behind counts (row ∷ rows) = count_at counts row + people_behind counts rows

-- so few people stand behind the rows that what they have is guarded against one who knows the numbers of some other rows. Who knows none may be
-- one of these people
abbrev pub AreFew : Headcount → List ℕ → List ℕ → Type 0
AreFew people own rows = people_behind people.counts rows + length own < people.fewest + people.own

-- people behind at most n rows, at least one behind each; one person is guarded, and an asker knows one number at most
pub record CountPeople (n : ℕ) (people : Headcount) : Type 0 where
  pub within : length people.counts ≤ n
  pub somebody : AllByRecursion (λ count. 0 < count) people.counts
  pub fewest : 1 < people.fewest
  pub own : people.own ≤ 1

-- ---- counted rows

-- people behind rows, fewer than how many are guarded, and how many numbers an asker knows
abbrev pub headcount : List ℕ → ℕ → ℕ → Headcount
headcount counts fewest own = record { counts = counts; fewest = fewest; own = own }

-- what contracts see of counted rows: how many they are, and the people behind them
pub record Counted : Type 0 where
  pub n : ℕ
  pub people : Headcount

-- of how many rows one asker may know the numbers
abbrev pub own_of : Askers → ℕ
own_of Outside = 0
own_of Inside = 1

-- the rows that so many people stand behind, or more
abbrev pub crowded : ℕ → List ℕ → List ℕ
crowded least counts = rows_that (λ row. nat_le least (count_at counts row)) (length counts)

-- the rows whose number is guarded against nobody
abbrev pub shared_in : Headcount → List ℕ
shared_in people = crowded (people.fewest + people.own) people.counts

-- the rows whose number isn't guarded against one who knows that of another row
abbrev pub beside_in : Headcount → List ℕ
beside_in people = crowded people.fewest people.counts

-- the rows of several people: their number is no asker's own
abbrev pub several_in : Headcount → List ℕ
several_in people = crowded 2 people.counts

-- the rows whose number isn't guarded against one who knows those of some others
abbrev pub unguarded : Headcount → List ℕ → List ℕ
unguarded people [] = shared_in people
unguarded people (q ∷ own) = beside_in people

-- n rows of which these sets tell how many people stand behind them
pub record AreCounted (n : ℕ) (people : Headcount) (shared beside several : Rows) : Type 0 where
  pub some : 0 < n
  pub at_most : n ≤ most_rows
  pub count : CountPeople n people
  pub shared_is : shared ≡ record { n = n; list = shared_in people }
  pub beside_is : beside ≡ record { n = n; list = beside_in people }
  pub several_is : several ≡ record { n = n; list = several_in people }
