-- What a history and the records that are kept of it have in common.
use Rattle.std.specs.Prelude.{◌≡◌, ◌≢◌, ◌↔◌, ℕ, ℤ, ◌<◌, List, [], map}
use Rattle.std.specs.List.{AllByRecursion}
use Rattle.audit_types.specs.declared.shapes.Kind.TheVariants.{Sum}
use Rattle.audit_types.specs.declared.shapes.Shape.{Shape}
use Rattle.audit_types.specs.declared.records.Answered.{Answered}
use Rattle.audit_types.specs.declared.records.Verdict.{Verdict}
use Rattle.audit_types.specs.Rows.{AreRows}
use Rattle.audit_types.specs.Shapes.{kind_at, columns, IsShape}
use Rattle.audit_types.specs.Form.{set_row, InSpan, Reduced}
use Rattle.audit_types.specs.Column.{Answer, Agrees, IsPossible, IsWellFormed, known_sum, known_max, with_answer}
use Rattle.audit_types.specs.History.{Setting, Table, AreSecrets, AreProtected, IsLegal, IsDecisionAfter, known_of, answers_of}
use Rattle.implied_records.specs.Kept.{IsImplied, IsKeptOf, IsForced}

-- the sets of a column in a history, in order
abbrev pub sets_in : ℕ → List Answered → List (List ℕ)
sets_in column history = map (λ a. a.rows) (answers_of column history)

-- ---- when an answer is implied

-- if a sum and those before it are possible, it is implied exactly when the row of its set lies in the span of theirs
abbrev pub ImpliedBySpan : Type 0
ImpliedBySpan =
    (n : ℕ) (answers : List Answer) (a : Answer) → AllByRecursion (λ b. AreRows n b.rows) answers → AreRows n a.rows →
    IsPossible (with_answer (known_sum n answers) a.rows a.value) →
    IsImplied (known_sum n answers) a ↔ InSpan (map (set_row n) (map (λ b. b.rows) answers)) (set_row n a.rows)

-- if a maximum and those before it are possible, it is implied exactly when upper bounds and extreme rows force it
abbrev pub ImpliedByExtremes : Type 0
ImpliedByExtremes =
    (n : ℕ) (answers : List Answer) (a : Answer) → IsWellFormed (known_max n answers) → AreRows n a.rows → a.rows ≢ [] →
    IsPossible (with_answer (known_max n answers) a.rows a.value) →
    IsImplied (known_max n answers) a ↔ IsForced answers a

-- ---- what is kept

-- there is one list that is kept
abbrev pub OneIsKept : Type 0
OneIsKept = (shape : Shape) (history kept other : List Answered) → IsKeptOf shape history kept → IsKeptOf shape history other → kept ≡ other

-- the same lists agree with the kept records, on every column
abbrev pub SameListsAgree : Type 0
SameListsAgree =
    (setting : Setting) (history kept : List Answered) (column : ℕ) (w : List ℤ) → IsKeptOf setting.shape history kept →
    Agrees (known_of setting history column) w ↔ Agrees (known_of setting kept column) w

-- for a legal history they have the same reduced forms
abbrev pub SameForms : Type 0
SameForms =
    (table : Table) (history kept : List Answered) (column : ℕ) (form : List (List ℤ)) → AreSecrets table.setting.shape table.secrets → IsLegal table history →
    IsKeptOf table.setting.shape history kept → column < columns table.setting.shape → kind_at table.setting.shape column ≡ Sum →
    Reduced table.setting.shape.rows (sets_in column history) form ↔ Reduced table.setting.shape.rows (sets_in column kept) form

-- so every question is decided alike after them
abbrev pub SameDecisions : Type 0
SameDecisions =
    (table : Table) (history kept : List Answered) (column : ℕ) (rows : List ℕ) (verdict : Verdict) → AreSecrets table.setting.shape table.secrets → IsLegal table history →
    IsKeptOf table.setting.shape history kept → column < columns table.setting.shape →
    IsDecisionAfter table.setting history column rows verdict ↔ IsDecisionAfter table.setting kept column rows verdict

-- and they are legal
abbrev pub KeptIsLegal : Type 0
KeptIsLegal =
    (table : Table) (history kept : List Answered) → AreSecrets table.setting.shape table.secrets → IsLegal table history → IsKeptOf table.setting.shape history kept →
    IsLegal table kept

-- the history is legal for some table of this shape
pub record IsLegalForSome (shape : Shape) (history : List Answered) : Type 0 where
  pub valid : IsShape shape
  pub table : Table
  pub same_shape : table.setting.shape ≡ shape
  pub guard : AreProtected table.setting.shape table.setting.protected
  pub are_secrets : AreSecrets table.setting.shape table.secrets
  pub legal : IsLegal table history
