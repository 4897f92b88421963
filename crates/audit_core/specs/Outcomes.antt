-- What becomes of questions over the secrets of one table, by what was answered before.
use Rattle.std.specs.Prelude.{◌≡◌, ◌≢◌, ℕ, ◌<◌, ◌≤◌, ℤ, List, [], ◌∷◌, ◌++◌, length, Option, Some, None}
use Rattle.std.specs.Option.{option_to_list}
use Rattle.audit_types.specs.declared.records.Asked.{Asked}
use Rattle.audit_types.specs.declared.records.Answered.{Answered}
use Rattle.audit_types.specs.declared.records.Verdict.TheVariants.{Released}
use Rattle.audit_types.specs.Limits.{most_records}
use Rattle.audit_types.specs.Rows.{Rows}
use Rattle.audit_types.specs.Shapes.{kind_at}
use Rattle.audit_types.specs.Truth.{truth}
use Rattle.audit_types.specs.Judgement.{IsDecision}
use Rattle.audit_types.specs.History.{Table, known_of, list_of}
use Rattle.audit_core.specs.declared.outcome.Outcome.{Outcome}
use Rattle.audit_core.specs.declared.outcome.Outcome.TheVariants.{Answer, Denied, Full}

-- the true answer to a question over a secret column
abbrev pub true_answer : Table → ℕ → Rows → ℤ
true_answer table column rows = truth (kind_at table.setting.shape column) (list_of table.secrets column) rows.list

-- what becomes of a question after a history: it is refused if the history is full, else denied if the decision
-- is a denial, else answered truly
abbrev pub IsOutcome : Table → List Answered → Asked → Outcome → Type 0
IsOutcome table history asked Full = most_records ≤ length history
IsOutcome table history asked (Denied verdict) = (length history < most_records) × (verdict ≢ Released) × IsDecision (known_of table.setting history asked.column) asked.rows.list verdict
IsOutcome table history asked (Answer answer) = (length history < most_records) × IsDecision (known_of table.setting history asked.column) asked.rows.list Released × (answer ≡ true_answer table asked.column asked.rows)

-- the record that an outcome makes: an answer makes one
abbrev pub record_of : Asked → Outcome → Option Answered
record_of asked Full = None
record_of asked (Denied verdict) = None
record_of asked (Answer answer) = Some (record { column = asked.column; rows = asked.rows; answer = answer })

-- the records that the outcomes of questions make, in order
abbrev pub records_made : List Asked → List Outcome → List Answered
records_made [] outcomes = []
records_made (asked ∷ questions) [] = []
records_made (asked ∷ questions) (outcome ∷ outcomes) = option_to_list (record_of asked outcome) ++ records_made questions outcomes

-- one outcome for each question, each after the history and the records of those before it
abbrev pub AreOutcomes : Table → List Answered → List Asked → List Outcome → Type 0
AreOutcomes table history [] [] = Unit {0}
AreOutcomes table history [] (outcome ∷ outcomes) = ⊥
AreOutcomes table history (asked ∷ questions) [] = ⊥
AreOutcomes table history (asked ∷ questions) (outcome ∷ outcomes) = IsOutcome table history asked outcome × AreOutcomes table (history ++ option_to_list (record_of asked outcome)) questions outcomes
