-- Records, histories, what a history tells of one column, and which histories are legal and disclose nothing that is guarded.
use Rattle.std.specs.Prelude.{◌≡◌, ◌≢◌, ℕ, ◌<◌, ◌≤◌, ℤ, ◌==◌, List, [], ◌∷◌, map, length, take, slice_get, Some, All}
use Rattle.audit_types.specs.Limits.{most_rows, most_records, most_groups, most_width}
use Rattle.std.specs.List.{filter, slice_index_or, AllByRecursion}
use Rattle.audit_types.specs.declared.shapes.Kind.TheVariants.{Sum}
use Rattle.audit_types.specs.declared.shapes.Shape.{Shape}
use Rattle.audit_types.specs.declared.records.Answered.{Answered}
use Rattle.audit_types.specs.declared.records.Protected.{Protected}
use Rattle.audit_types.specs.declared.records.Verdict.{Verdict}
use Rattle.audit_types.specs.declared.records.Verdict.TheVariants.{Released}
use Rattle.audit_types.specs.Rows.{Rows, AreRows}
use Rattle.audit_types.specs.Headcount.{Headcount, CountPeople}
use Rattle.audit_types.specs.Shapes.{columns, kind_at}
use Rattle.audit_types.specs.Truth.{truth}
use Rattle.audit_types.specs.Column.{Known, Answer, Agrees, AreOwn, AreSameAt, IsGuarded}
use Rattle.audit_types.specs.Judgement.{IsDecision, IsJudgement}

-- a question or a record that fits: a column of the shape, and some rows of its table
pub record FitsShape (shape : Shape) (column : ℕ) (rows : Rows) : Type 0 where
  pub column_below : column < columns shape
  pub same_n : rows.n ≡ shape.rows
  pub are_rows : AreRows rows.n rows.list
  pub some : rows.list ≢ []

-- the rows and the answer of a record
abbrev pub answer_in : Answered → Answer
answer_in r = record { rows = r.rows.list; value = r.answer }

-- the answers of a column in a history, in order
abbrev pub answers_of : ℕ → List Answered → List Answer
answers_of column history = map answer_in (filter (λ r. r.column == column) history)

-- the entry of a group, which has a place in the schema's list, with these of n rows: one that has none needs no protection
abbrev pub entry_of : ℕ → ℕ → ℕ → List ℕ → List Protected
entry_of column place n [] = []
entry_of column place n (row ∷ rows) = record { column = column; place = place; rows = record { n = n; list = row ∷ rows } } ∷ []

-- the groups of a column, in order
abbrev pub groups_of : ℕ → List Protected → List (List ℕ)
groups_of column protected = map (λ p. p.rows.list) (filter (λ p. p.column == column) protected)

-- what is guarded, and how: the protected groups, the people behind the rows, how wide a reduced form may be, and of how many rows a change
-- that leaves every sum may have to be
pub record Protection : Type 0 where
  pub groups : List Protected
  pub people : Headcount
  pub width : ℕ
  pub reach : ℕ

-- what a decision may read of a table, beside what was answered
pub record Setting : Type 0 where
  pub shape : Shape
  pub protected : Protection

-- what may be read of a table of this shape, with this protection
abbrev pub setting_of : Shape → Protection → Setting
setting_of shape protected = record { shape = shape; protected = protected }

-- a protected group that fits: some rows of a column of sums
abbrev pub IsProtected : Shape → Protected → Type 0
IsProtected shape p = FitsShape shape p.column p.rows × (kind_at shape p.column ≡ Sum)

-- protection that fits: at most 64 groups, people behind the rows of the table, a width from 1 to 2 ^ 56, and a reach from 2 to the most rows
-- of a table
abbrev pub AreProtected : Shape → Protection → Type 0
AreProtected shape protected =
    All (IsProtected shape) protected.groups × (length protected.groups ≤ most_groups) × CountPeople shape.rows protected.people
    × (0 < protected.width) × (protected.width ≤ most_width) × (1 < protected.reach) × (protected.reach ≤ most_rows)

-- what a history tells of a column
abbrev pub known_of : Setting → List Answered → ℕ → Known
known_of setting history column = record {
  kind = kind_at setting.shape column;
  n = setting.shape.rows;
  answers = answers_of column history;
  groups = groups_of column setting.protected.groups;
  people = setting.protected.people;
  width = setting.protected.width;
  reach = setting.protected.reach;
}

-- the lists of the secret columns
abbrev pub Secrets : Type 0
Secrets = List (List ℤ)

-- the list of one secret column
abbrev pub list_of : Secrets → ℕ → List ℤ
list_of secrets column = slice_index_or secrets column []

-- what a decision may read of a table, and its secret lists
pub record Table : Type 0 where
  pub setting : Setting
  pub secrets : Secrets

-- one list for each column, with a number for each row
pub record AreSecrets (shape : Shape) (secrets : Secrets) : Type 0 where
  pub one_each : length secrets ≡ columns shape
  pub numbers : AllByRecursion (λ w. length w ≡ shape.rows) secrets

-- the secrets give every answer of the history
abbrev pub AgreeWithHistory : Setting → List Answered → Secrets → Type 0
AgreeWithHistory setting history secrets = (column : ℕ) → column < columns setting.shape → Agrees (known_of setting history column) (list_of secrets column)

-- some secrets give every answer of the history
abbrev pub IsPossibleHistory : Setting → List Answered → Type 0
IsPossibleHistory setting history =
    (secrets : Secrets) × AreSecrets setting.shape secrets × AgreeWithHistory setting history secrets

-- the decision on a question after a history
abbrev pub IsDecisionAfter : Setting → List Answered → ℕ → List ℕ → Verdict → Type 0
IsDecisionAfter setting history column rows verdict = IsDecision (known_of setting history column) rows verdict

-- the judgement on a question after a history
abbrev pub IsJudgementAfter : Setting → List Answered → ℕ → List ℕ → Verdict → Type 0
IsJudgementAfter setting history column rows verdict = IsJudgement (known_of setting history column) rows verdict

-- a record that may follow a history: it fits, is true, and its question is released
pub record IsLegalRecord (table : Table) (history : List Answered) (r : Answered) : Type 0 where
  pub fits : FitsShape table.setting.shape r.column r.rows
  pub true_answer : r.answer ≡ truth (kind_at table.setting.shape r.column) (list_of table.secrets r.column) r.rows.list
  pub released : IsDecision (known_of table.setting history r.column) r.rows.list Released

-- at most 65,536 records, each of which may follow those before it
pub record IsLegal (table : Table) (history : List Answered) : Type 0 where
  pub few : length history ≤ most_records
  pub each : (i : ℕ) (r : Answered) → slice_get history i ≡ Some r → IsLegalRecord table (take i history) r

-- the secrets have the same numbers at these rows in each column
abbrev pub AreSameFor : List ℕ → Secrets → Secrets → Type 0
AreSameFor own secrets other = (column : ℕ) → AreSameAt own (list_of secrets column) (list_of other column)

-- other secrets that give the same answers, have the same numbers at these rows, and differ in this of a column
pub record HasTwin (table : Table) (history : List Answered) (own : List ℕ) (column : ℕ) (value : List ℤ → ℤ) : Type 0 where
  pub twin : Secrets
  pub are_secrets : AreSecrets table.setting.shape twin
  pub agree : AgreeWithHistory table.setting history twin
  pub same : AreSameFor own table.secrets twin
  pub differs : value (list_of twin column) ≢ value (list_of table.secrets column)

-- nothing that is guarded is disclosed to any asker: no number of one person, and no total of a protected group
abbrev pub IsUndisclosed : Table → List Answered → Type 0
IsUndisclosed table history =
    (column : ℕ) (own : List ℕ) (value : List ℤ → ℤ) → column < columns table.setting.shape → AreOwn (known_of table.setting history column) own →
    IsGuarded (known_of table.setting history column) own value → HasTwin table history own column value
