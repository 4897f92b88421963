-- The question of a line that json reads as an object of texts is the line's.
use Rattle.std.proofs.Common.{◌≡◌, ◌≤◌, ℕ, true, List, length, Option, Some, None, option_and_then, refl, ap, ◌∙◌, arith, IfSome}
use Rattle.std.specs.Prelude.{OnSome, IsUtf8}
use Rattle.json.specs.Json.{Json, document}
use Rattle.serde_json.specs.Data.{Data}
use Rattle.serde_json.specs.Read.{of_json}
use Rattle.line_wire.specs.Questions.{Written, text_of, question_in, question_of}
use Rattle.line_wire.specs.Plain.{is_plain, question_in_json}
use Rattle.line_wire.specs.Kept.{written_of}
use Rattle.line_wire.specs.declared.question.Question.{Question}
use Rattle.schema_json.specs.ValueLaws.{value_of-read}
use Rattle.line_wire.proofs.PlainObjects.{read-plain}
use Rattle.line_wire.proofs.Texts.Values.{longest-read}
use Rattle.line_wire.proofs.Texts.Asked.{condition_within}

nothing : (w : Written) → None ≡ Some w → ⊥
nothing w e = cc

-- what is asked, is asked by a value
value_in : (o : Option Data) (w : Written) → option_and_then question_in o ≡ Some w → (d : Data) × (o ≡ Some d) × (question_in d ≡ Some w)
value_in None w is = absurd (nothing w is)
value_in (Some d) w is = (d, refl, is)

pub line_writes : (line : List ℕ) (j : Json) (r : Option Question) → IsUtf8 line → document line ≡ Some j → OnSome r (is_plain j ≡ true) →
    IfSome r (λ q. question_in_json j ≡ Some (written_of q)) → IfSome r (λ q. question_of line ≡ Some (written_of q))
line_writes line j None text is plain writes = tt
line_writes line j (Some q) text is plain writes =
    let found = value_in (of_json j) (written_of q) writes in
    ap (option_and_then question_in) (value_of-read line found.0 text (read-plain line j is plain ∙ found.1)) ∙ found.2

pub line_within : (line : List ℕ) (j : Json) (r : Option Question) → document line ≡ Some j → OnSome r (is_plain j ≡ true) →
    IfSome r (λ q. question_in_json j ≡ Some (written_of q)) → IfSome r (λ q. length (text_of (written_of q)) ≤ length line)
line_within line j None is plain writes = tt
line_within line j (Some q) is plain writes =
    let found = value_in (of_json j) (written_of q) writes in
    condition_within found.0 (written_of q) (length line) (length line) found.2 (longest-read line found.0 (read-plain line j is plain ∙ found.1)) (omega arith)
