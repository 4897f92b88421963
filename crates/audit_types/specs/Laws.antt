-- What shows the definitions right: laws that the functions of `laws` state.
use Rattle.std.specs.Prelude.{◌≡◌, ◌≢◌, ◌↔◌, ℕ, ◌<◌, ℤ, ◌≤ℤ◌, true, List, [], ◌∷◌, ◌++◌}
use Rattle.audit_types.specs.declared.shapes.Kind.{Kind}
use Rattle.audit_types.specs.declared.records.Answered.{Answered}
use Rattle.audit_types.specs.declared.records.Verdict.{Verdict}
use Rattle.std.specs.List.{AllByRecursion}
use Rattle.audit_types.specs.Rows.{Rows, AreRows, has_row, with_row}
use Rattle.audit_types.specs.Form.{Reduced}
use Rattle.audit_types.specs.Direction.{IsCanonicalDirection}
use Rattle.audit_types.specs.Shapes.{kind_at}
use Rattle.audit_types.specs.Headcount.{AreFew}
use Rattle.audit_types.specs.Truth.{number_at, greatest_over, truth}
use Rattle.audit_types.specs.Column.{Known, IsPossible, IsDangerous}
use Rattle.audit_types.specs.History.{Setting, Secrets, Table, AreSecrets, AgreeWithHistory, IsPossibleHistory, IsLegal, known_of, list_of, answers_of, IsDecisionAfter}

-- the rows of the second list added to a set, one after another
abbrev pub with_rows : ℕ → List ℕ → List ℕ → List ℕ
with_rows n set [] = set
with_rows n set (r ∷ rows) = with_rows n (with_row n set r) rows

-- the same rows make the same set, in whatever order and however often they are added
abbrev pub SameSetInAnyOrder : Type 0
SameSetInAnyOrder =
    (n : ℕ) (set xs ys : List ℕ) → ((r : ℕ) → has_row xs r ≡ has_row ys r) → with_rows n set xs ≡ with_rows n set ys

-- so the truth over them is the same
abbrev pub SameTruthInAnyOrder : Type 0
SameTruthInAnyOrder =
    (kind : Kind) (w : List ℤ) (n : ℕ) (set xs ys : List ℕ) → ((r : ℕ) → has_row xs r ≡ has_row ys r) →
    truth kind w (with_rows n set xs) ≡ truth kind w (with_rows n set ys)

-- no number over a set is above its greatest, and a row of the set has it
abbrev pub GreatestIsBoundAndReached : Type 0
GreatestIsBoundAndReached =
    (w : List ℤ) (rows : List ℕ) → rows ≢ [] →
    ((r : ℕ) → has_row rows r ≡ true → number_at w r ≤ℤ greatest_over w rows)
    × ((r : ℕ) × (has_row rows r ≡ true) × (number_at w r ≡ greatest_over w rows))

-- secrets that agree with a history agree with it still after a record of their own answer
abbrev pub TrueAnswersKeepAgreement : Type 0
TrueAnswersKeepAgreement =
    (setting : Setting) (history : List Answered) (r : Answered) (secrets : Secrets) → AgreeWithHistory setting history secrets →
    r.answer ≡ truth (kind_at setting.shape r.column) (list_of secrets r.column) r.rows.list →
    AgreeWithHistory setting (history ++ r ∷ []) secrets

-- a question after a possible history has an answer after which the history is still possible
abbrev pub SomeAnswerStaysPossible : Type 0
SomeAnswerStaysPossible =
    (setting : Setting) (history : List Answered) (column : ℕ) (rows : Rows) → IsPossibleHistory setting history →
    (answer : ℤ) × IsPossibleHistory setting (history ++ record { column = column; rows = rows; answer = answer } ∷ [])

-- what is legal for a table is possible: the table's own secrets agree with it
abbrev pub LegalIsPossible : Type 0
LegalIsPossible =
    (table : Table) (history : List Answered) → AreSecrets table.setting.shape table.secrets → IsLegal table history →
    IsPossibleHistory table.setting history

-- a question on one person's row is dangerous after every possible history
abbrev pub OneRowIsDangerous : Type 0
OneRowIsDangerous = (known : Known) (row : ℕ) → row < known.n → AreFew known.people [] (row ∷ []) → IsPossible known → IsDangerous known (row ∷ [])

-- a record of another column tells nothing of this one
abbrev pub OtherColumnsTellNothing : Type 0
OtherColumnsTellNothing =
    (setting : Setting) (before after : List Answered) (r : Answered) (column : ℕ) → r.column ≢ column →
    known_of setting (before ++ r ∷ after) column ≡ known_of setting (before ++ after) column

-- after histories with the same answers of a column a question on it is as dangerous, and decided alike
abbrev pub OwnAnswersDecide : Type 0
OwnAnswersDecide =
    (setting : Setting) (history other : List Answered) (column : ℕ) (rows : List ℕ) →
    answers_of column history ≡ answers_of column other →
    (IsDangerous (known_of setting history column) rows ↔ IsDangerous (known_of setting other column) rows)
    × ((verdict : Verdict) → IsDecisionAfter setting history column rows verdict ↔ IsDecisionAfter setting other column rows verdict)

-- for a reduced form and a row there is at most one canonical direction
abbrev pub OneCanonicalDirection : Type 0
OneCanonicalDirection =
    (n : ℕ) (sets : List (List ℕ)) (form : List (List ℤ)) (i : ℕ) (d e : List ℤ) → AllByRecursion (AreRows n) sets → Reduced n sets form →
    IsCanonicalDirection n sets form i d → IsCanonicalDirection n sets form i e → d ≡ e
