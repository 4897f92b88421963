-- Laws of what is sent for the lines of an input.
use Rattle.std.specs.Prelude.{◌≡◌, ℕ, List, take}
use Rattle.audit_types.specs.declared.records.Answered.{Answered}
use Rattle.audit_types.specs.History.{AreProtected}
use Rattle.denial_proof.specs.Denied.{IsLegalIn}
use Rattle.schema_json.specs.Columns.{AreColumns}
use Rattle.set_index.specs.Indexed.{IndexView, public_setting, public_shape}
use Rattle.line_wire.specs.Lines.{CountedLine}
use Rattle.certificate_lines.specs.Explained.{IsExplained, AreExplained}

-- a schema, a public part with protected groups, and a history that is legal for some table of them
pub record CanBeExplained (index : IndexView) (history : List Answered) : Type 0 where
  pub schema : AreColumns index.columns
  pub fit : AreProtected (public_shape index) index.protected
  pub legal : IsLegalIn (public_setting index) history

-- at most one line is due to a counted line
abbrev pub OneLineIsDue : Type 0
OneLineIsDue =
    (index : IndexView) (history : List Answered) → CanBeExplained index history → (asked : CountedLine) (a b : List ℕ) →
    IsExplained index history asked a → IsExplained index history asked b → a ≡ b

-- so counted lines have at most one list of lines
abbrev pub LinesAreOne : Type 0
LinesAreOne =
    (index : IndexView) (history : List Answered) → CanBeExplained index history → (asked : List CountedLine) (lines others : List (List ℕ)) →
    AreExplained index history asked lines → AreExplained index history asked others → lines ≡ others

-- and what is due to the first of them is the first of what is due to all
abbrev pub FirstLinesAreDue : Type 0
FirstLinesAreDue =
    (index : IndexView) (history : List Answered) (asked : List CountedLine) (lines : List (List ℕ)) (count : ℕ) →
    AreExplained index history asked lines → AreExplained index history (take count asked) (take count lines)
