-- What is sent for the lines of an input after a history: the verdict on each, and for a denial as unsafe its certificate.
--
-- Nothing is recorded, so each line is decided after the same history. No table and no secret is an argument.
use Rattle.std.specs.Prelude.{◌≡◌, ◌⊎◌, ◌<◌, ◌≤◌, ℕ, List, length}
use Rattle.std.specs.List.{AllZip}
use Rattle.audit_types.specs.declared.records.Answered.{Answered}
use Rattle.audit_types.specs.declared.records.Asked.{Asked}
use Rattle.audit_types.specs.declared.records.Verdict.{Verdict}
use Rattle.audit_types.specs.declared.records.Verdict.TheVariants.{Released, DeniedUnsafe, DeniedWide}
use Rattle.audit_types.specs.History.{Setting, IsDecisionAfter}
use Rattle.audit_types.specs.Limits.{most_records}
use Rattle.denial_proof.specs.declared.proof_parts.Proof.{Proof}
use Rattle.denial_proof.specs.Canonical.{IsCanonical, IsTooWide}
use Rattle.set_index.specs.Indexed.{IndexView, public_setting}
use Rattle.line_wire.specs.Lines.{CountedLine}
use Rattle.line_wire.specs.Talks.{Talk}
use Rattle.line_wire.specs.declared.question.Take.{Take}
use Rattle.line_wire.specs.declared.reply.Reply.TheVariants as reply
use Rattle.question_plan.specs.declared.due.Due.TheVariants as due
use Rattle.question_plan.specs.declared.planning.Plan.{Plan}
use Rattle.question_plan.specs.declared.planning.Plan.TheVariants.{Ready, Ask}
use Rattle.question_plan.specs.Dues.{verdict_bytes, due_of_reply}
use Rattle.question_plan.specs.Replies.{IsPlan}
use Rattle.certificate_lines.specs.Texts.{proof_line, wide_line}

-- the line shows the canonical proof of the denial, which isn't too wide
pub record ShowsProof (setting : Setting) (history : List Answered) (take : Take) (asked : Asked) (line : List ℕ) : Type 0 where
  pub proof : Proof
  pub canonical : IsCanonical setting history asked proof
  pub narrow : ¬ (IsTooWide setting history asked)
  pub line_is : line ≡ proof_line take proof

-- the certificate of a denial as unsafe: such a line, or the one that says that its proof is too wide
abbrev pub IsCertificate : Setting → List Answered → Take → Asked → List ℕ → Type 0
IsCertificate setting history take asked line = ShowsProof setting history take asked line ⊎ (IsTooWide setting history asked × (line ≡ wide_line))

-- the line for a verdict on a question: if that is unsafe, its certificate
abbrev pub IsLineFor : Setting → List Answered → Take → Asked → Verdict → List ℕ → Type 0
IsLineFor setting history take asked Released line = line ≡ verdict_bytes due.Released
IsLineFor setting history take asked DeniedUnsafe line = IsCertificate setting history take asked line
IsLineFor setting history take asked DeniedWide line = line ≡ verdict_bytes due.Wide

-- after a history that has room, the line for the decision on a question
pub record IsDecided (setting : Setting) (history : List Answered) (take : Take) (asked : Asked) (line : List ℕ) : Type 0 where
  pub room : length history < most_records
  pub verdict : Verdict
  pub decided : IsDecisionAfter setting history asked.column asked.rows.list verdict
  pub line_for : IsLineFor setting history take asked verdict line

-- the line for a plan: the verdict of its reply, or what its question comes to
abbrev pub IsLineOf : Setting → List Answered → Plan → List ℕ → Type 0
IsLineOf setting history (Ready answer) line = line ≡ verdict_bytes (due_of_reply answer)
IsLineOf setting history (Ask take people asked) line =
    ((most_records ≤ length history) × (line ≡ verdict_bytes (due_of_reply reply.Full))) ⊎ IsDecided setting history take asked line

-- the line that is sent for a counted line
pub record IsExplained (index : IndexView) (history : List Answered) (asked : CountedLine) (line : List ℕ) : Type 0 where
  pub plan : Plan
  pub planned : IsPlan index.columns index.public asked plan
  pub line_of : IsLineOf (public_setting index) history plan line

-- those that are sent for counted lines, one for each
abbrev pub AreExplained : IndexView → List Answered → List CountedLine → List (List ℕ) → Type 0
AreExplained index history asked lines = AllZip (IsExplained index history) asked lines

-- what explaining the lines of an input sends: one line for each, and it refuses nothing
abbrev pub explanations : IndexView → List Answered → Talk (List ℕ) ⊥
explanations index history = record {
  bytes = λ line. line;
  Due = AreExplained index history;
  count = λ asked. length asked;
  Refuses = λ why input lines. ⊥;
  Reads = λ why input. ⊥;
}
