-- The text of an input is one: a line comes to one plan, its question to one decision, and a denial to one proof.
use Rattle.std.proofs.Common.{◌≡◌, ℕ, zero, suc, List, [], ◌∷◌, take, refl, sym, ap, ◌∙◌, subst, arith, inl, inr}
use Rattle.audit_types.specs.declared.records.Answered.{Answered}
use Rattle.audit_types.specs.declared.records.Asked.{Asked}
use Rattle.audit_types.specs.declared.records.Verdict.{Verdict}
use Rattle.audit_types.specs.declared.records.Verdict.TheVariants.{Released, DeniedUnsafe, DeniedWide}
use Rattle.audit_types.specs.History.{Setting, FitsShape, AreProtected, IsDecisionAfter}
use Rattle.denial_proof.specs.declared.proof_parts.Proof.{Proof}
use Rattle.denial_proof.specs.Denied.{IsLegalIn}
use Rattle.denial_proof.specs.Laws.{CanonicalProofsAreOne}
use Rattle.set_index.specs.Indexed.{IndexView, public_setting}
use Rattle.line_wire.specs.Lines.{CountedLine}
use Rattle.question_plan.specs.declared.planning.Plan.{Plan}
use Rattle.question_plan.specs.declared.planning.Plan.TheVariants.{Ready, Ask}
use Rattle.line_wire.specs.declared.question.Take.{Take}
use Rattle.question_plan.specs.Laws.{AskedQuestionsFit, OneDecisionIsMade, OnePlanIsMade}
use Rattle.question_plan.specs.Replies.{IsPlan}
use Rattle.certificate_lines.specs.Texts.{proof_line}
use Rattle.certificate_lines.specs.Explained.{IsCertificate, IsLineFor, IsLineOf, IsExplained, AreExplained}
use Rattle.certificate_lines.specs.Laws.{CanBeExplained}

module _ (proofs : CanonicalProofsAreOne) (plans : OnePlanIsMade) (fits : AskedQuestionsFit) (decisions : OneDecisionIsMade) where
  module _ (setting : Setting) (history : List Answered) (fit : AreProtected setting.shape setting.protected) (legal : IsLegalIn setting history) where
    -- a denial has one certificate
    one_certificate : (take : Take) (asked : Asked) → FitsShape setting.shape asked.column asked.rows →
        IsDecisionAfter setting history asked.column asked.rows.list DeniedUnsafe
        → (a b : List ℕ) → IsCertificate setting history take asked a → IsCertificate setting history take asked b → a ≡ b
    one_certificate take asked question denied a b (inl first) (inl second) =
        first.line_is
        ∙ ap (λ (p : Proof). proof_line take p)
        (proofs setting history asked first.proof second.proof fit legal question denied first.canonical second.canonical)
        ∙ sym second.line_is
    one_certificate take asked question denied a b (inl first) (inr second) = absurd (first.narrow second.0)
    one_certificate take asked question denied a b (inr first) (inl second) = absurd (second.narrow first.0)
    one_certificate take asked question denied a b (inr first) (inr second) = first.1 ∙ sym second.1

    -- a verdict has one line
    one_for : (take : Take) (asked : Asked) (verdict : Verdict) → FitsShape setting.shape asked.column asked.rows
        → IsDecisionAfter setting history asked.column asked.rows.list verdict
        → (a b : List ℕ) → IsLineFor setting history take asked verdict a → IsLineFor setting history take asked verdict b → a ≡ b
    one_for take asked Released question decided a b first second = first ∙ sym second
    one_for take asked DeniedUnsafe question decided a b first second = one_certificate take asked question decided a b first second
    one_for take asked DeniedWide question decided a b first second = first ∙ sym second

    -- a plan has one line
    one_of : (plan : Plan) → ((take : Take) (people : ℕ) (asked : Asked) → plan ≡ Ask take people asked → FitsShape setting.shape asked.column asked.rows)
        → (a b : List ℕ) → IsLineOf setting history plan a → IsLineOf setting history plan b → a ≡ b
    one_of (Ready answer) question a b first second = first ∙ sym second
    one_of (Ask take people asked) question a b (inl first) (inl second) = first.1 ∙ sym second.1
    one_of (Ask take people asked) question a b (inl first) (inr second) = absurd (omega (arith, first.0, second.room))
    one_of (Ask take people asked) question a b (inr first) (inl second) = absurd (omega (arith, second.0, first.room))
    one_of (Ask take people asked) question a b (inr first) (inr second) =
        let same : second.verdict ≡ first.verdict = decisions setting history asked.column asked.rows.list second.verdict first.verdict second.decided
        first.decided in
        one_for take asked first.verdict (question take people asked refl) first.decided a b first.line_for
        (subst (λ (v : Verdict). IsLineFor setting history take asked v b) same second.line_for)

  module _ (index : IndexView) (history : List Answered) (can : CanBeExplained index history) where
    abbrev setting_is : Setting
    setting_is = public_setting index

    -- so has a counted line
    pub one_line : (asked : CountedLine) (a b : List ℕ) → IsExplained index history asked a → IsExplained index history asked b → a ≡ b
    one_line asked a b first second =
        one_of setting_is history can.fit can.legal first.plan
        (λ take people question is. fits index.columns index.public asked take people question can.schema
        (subst (λ (p : Plan). IsPlan index.columns index.public asked p) is first.planned))
        a b first.line_of
        (subst (λ (p : Plan). IsLineOf setting_is history p b) (plans index.columns index.public asked second.plan first.plan second.planned first.planned)
        second.line_of)

    -- and so have all
    pub same_lines : (asked : List CountedLine) (lines others : List (List ℕ)) → AreExplained index history asked lines →
        AreExplained index history asked others → lines ≡ others
    same_lines [] [] [] are those = refl
    same_lines [] [] (b ∷ others) are those = absurd those
    same_lines [] (a ∷ lines) others are those = absurd are
    same_lines (next ∷ asked) [] others are those = absurd are
    same_lines (next ∷ asked) (a ∷ lines) [] are those = absurd those
    same_lines (next ∷ asked) (a ∷ lines) (b ∷ others) are those =
        ap (λ (l : List ℕ). l ∷ lines) (one_line next a b are.0 those.0) ∙ ap (λ (ls : List (List ℕ)). b ∷ ls) (same_lines asked lines others are.1 those.1)

module _ (index : IndexView) (history : List Answered) where
  -- the first lines are due to the first counted lines
  pub first_lines : (asked : List CountedLine) (lines : List (List ℕ)) (count : ℕ) → AreExplained index history asked lines →
      AreExplained index history (take count asked) (take count lines)
  first_lines asked lines zero are = tt
  first_lines [] [] (suc count) are = tt
  first_lines [] (line ∷ lines) (suc count) are = absurd are
  first_lines (next ∷ asked) [] (suc count) are = absurd are
  first_lines (next ∷ asked) (line ∷ lines) (suc count) are = (are.0, first_lines asked lines count are.1)
