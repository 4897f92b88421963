-- What shows the definitions of people right: laws that the functions of `laws` state.
use Rattle.std.specs.Prelude.{ℤ, ◌+ℤ◌, ◌-ℤ◌, ◌≤ℤ◌, slice_set, ◌≡◌, ◌≢◌, ◌↔◌, ◌⊎◌, ℕ, ◌<◌, List, [], map, length}
use Rattle.std.specs.List.{AllByRecursion}
use Rattle.audit_types.specs.declared.shapes.Kind.{Kind}
use Rattle.audit_types.specs.declared.shapes.Kind.TheVariants.{Sum, Max}
use Rattle.audit_types.specs.declared.shapes.Shape.{Shape}
use Rattle.audit_types.specs.Shapes.{columns}
use Rattle.audit_types.specs.declared.records.Answered.{Answered}
use Rattle.audit_types.specs.Limits.{most_width, most_rows}
use Rattle.audit_types.specs.Rows.{AreRows}
use Rattle.audit_types.specs.Truth.{number_at, truth}
use Rattle.audit_types.specs.Column.{Known, Answer, IsDangerous}
use Rattle.audit_types.specs.History.{Secrets, Table, AreSecrets, AgreeWithHistory, IsUndisclosed, list_of}
use Rattle.audit_types.specs.People.{People, AreBehind, people_in, told, of_line, of_lines}
use Rattle.audit_types.specs.Headcount.{count_at, people_behind}

-- the true answer over some lines is what is told of all their people together
abbrev pub TruthIsOverPeople : Type 0
TruthIsOverPeople =
    (kind : Kind) (people : People) (lines : List ℕ) → AllByRecursion (λ numbers. numbers ≢ []) people → AllByRecursion (λ line. line < length people) lines →
    truth kind (map (told kind) people) lines ≡ told kind (of_lines people lines)

-- they are as many as the people of the lines
abbrev pub PeopleAreCounted : Type 0
PeopleAreCounted =
    (people : People) (lines : List ℕ) → AllByRecursion (λ line. line < length people) lines → people_behind (map length people) lines ≡ length (of_lines people lines)

-- other people may be behind the lines, of whom this one has another number, while this is still so of what is told of them
pub record HasOtherPeople (shape : Shape) (IsStill : Secrets → Type 0) (counts : List ℕ) (everyone : List People) (column line person : ℕ) : Type 0 where
  pub others : List People
  pub told_of : Secrets
  pub are_secrets : AreSecrets shape told_of
  pub behind : AreBehind shape counts told_of others
  pub still : IsStill told_of
  pub differs : number_at (of_line (people_in others column) line) person ≢ number_at (of_line (people_in everyone column) line) person

-- nobody's number can be worked out from what is so of the secrets
abbrev pub HidesPeople : Shape → Secrets → (Secrets → Type 0) → List ℕ → Type 0
HidesPeople shape secrets IsStill counts =
    (everyone : List People) (column line person : ℕ) → AreBehind shape counts secrets everyone → column < columns shape → line < length counts →
    person < count_at counts line → HasOtherPeople shape IsStill counts everyone column line person

-- behind the lines there may be others, of whom this one has another number
pub record HasOthersBehind (shape : Shape) (counts : List ℕ) (secrets : Secrets) (everyone : List People) (column line person : ℕ) : Type 0 where
  pub others : List People
  pub behind : AreBehind shape counts secrets others
  pub differs : number_at (of_line (people_in others column) line) person ≢ number_at (of_line (people_in everyone column) line) person

-- of several people behind a line one may have another number while all lines tell the same, and of one, if her line tells another number
abbrev pub PeopleMayDiffer : Type 0
PeopleMayDiffer =
    (shape : Shape) (counts : List ℕ) (secrets other : Secrets) (everyone : List People) (column line person : ℕ) → AreBehind shape counts secrets everyone →
    AreSecrets shape other → length counts ≡ shape.rows → AllByRecursion (λ count. 0 < count) counts → column < columns shape → line < length counts →
    person < count_at counts line →
    ((1 < count_at counts line) × (other ≡ secrets)) ⊎ ((count_at counts line ≡ 1) × (number_at (list_of other column) line ≢ number_at (list_of secrets column) line)) →
    HasOthersBehind shape counts other everyone column line person

-- if behind each line is somebody, as the protection has it, then no person's number can be worked out from what discloses nothing that is
-- guarded of the lines
abbrev pub UndisclosedHidesPeople : Type 0
UndisclosedHidesPeople =
    (table : Table) (history : List Answered) (counts : List ℕ) → AreSecrets table.setting.shape table.secrets → AgreeWithHistory table.setting history table.secrets →
    length counts ≡ table.setting.shape.rows → AllByRecursion (λ count. 0 < count) counts →
    table.setting.protected.people.counts ≡ counts → 1 < table.setting.protected.people.fewest → IsUndisclosed table history →
    HidesPeople table.setting.shape table.secrets (AgreeWithHistory table.setting history) counts

-- what is known of a column over lines with so many people, of which no group is protected
abbrev pub known_over : Kind → List ℕ → List Answer → Known
known_over kind counts answers =
    record {
      kind = kind;
      n = length counts;
      answers = answers;
      groups = [];
      people = record { counts = counts; fewest = 2; own = 0 };
      width = most_width;
      reach = most_rows;
    }

-- so many people, of whom all the answers over lines are told
pub record AgreeOver (kind : Kind) (counts : List ℕ) (answers : List Answer) (people : People) : Type 0 where
  pub counted : map length people ≡ counts
  pub same : AllByRecursion (λ a. told kind (of_lines people a.rows) ≡ a.value) answers

-- some answer that is still possible would disclose a person's number: of no other people the same is told, with another number of hers
pub record EndangersSomebody (kind : Kind) (counts : List ℕ) (answers : List Answer) (rows : List ℕ) : Type 0 where
  pub people : People
  pub agree : AgreeOver kind counts answers people
  pub line : ℕ
  pub person : ℕ
  pub line_below : line < length counts
  pub person_below : person < count_at counts line
  pub disclosed : (others : People) → AgreeOver kind counts answers others → told kind (of_lines others rows) ≡ told kind (of_lines people rows) →
      number_at (of_line others line) person ≡ number_at (of_line people line) person

-- a question over lines is dangerous exactly if it would be over all their people: no more is denied, and no less
abbrev pub DangerIsThatOfPeople : Type 0
DangerIsThatOfPeople =
    (kind : Kind) (counts : List ℕ) (answers : List Answer) (rows : List ℕ) → AllByRecursion (λ count. 0 < count) counts →
    AllByRecursion (λ a. AreRows (length counts) a.rows) answers → AreRows (length counts) rows →
    IsDangerous (known_over kind counts answers) rows ↔ EndangersSomebody kind counts answers rows

-- of several people behind a row one may have any amount more in a column of sums if another has as much less, and in one of maxima any number up
-- to what the row tells if another has that: the row tells the same
pub record AnotherMakesUp : Type 0 where
  pub sums : (numbers : List ℤ) (person another : ℕ) (amount : ℤ) → person ≢ another → person < length numbers → another < length numbers →
      told Sum (slice_set (slice_set numbers person (number_at numbers person +ℤ amount)) another (number_at numbers another -ℤ amount)) ≡ told Sum numbers
  pub maxima : (numbers : List ℤ) (person another : ℕ) (number : ℤ) → person ≢ another → person < length numbers → another < length numbers →
      number_at numbers another ≡ told Max numbers → number ≤ℤ told Max numbers → told Max (slice_set numbers person number) ≡ told Max numbers
