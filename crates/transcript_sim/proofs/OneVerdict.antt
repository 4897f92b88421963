-- A transcript has one list of verdicts: a question calls for one reply, and a line that agrees makes one record.
use Rattle.std.proofs.Common.{◌≡◌, ◌↔◌, ℕ, ℤ, zero, suc, Bool, true, false, IsTrue, List, [], ◌∷◌, ◌++◌, take, Option, Some, None, refl, sym, ◌∙◌, ap, subst, arith, inl, inr}
use Rattle.std.specs.Option.{option_to_list}
use Rattle.std.proofs.lemmas.Bool.{true≢false}
use Rattle.audit_types.specs.declared.records.Answered.{Answered}
use Rattle.audit_types.specs.declared.records.Asked.{Asked}
use Rattle.audit_types.specs.declared.records.Verdict.{Verdict}
use Rattle.audit_types.specs.declared.records.Verdict.TheVariants.{Released, DeniedUnsafe, DeniedWide}
use Rattle.audit_types.specs.History.{Setting}
use Rattle.set_index.specs.Indexed.{IndexView, public_setting}
use Rattle.line_wire.specs.Lines.{CountedLine, text, long}
use Rattle.line_wire.specs.Reply.{IsReply}
use Rattle.line_wire.specs.declared.question.Take.{Take}
use Rattle.line_wire.specs.declared.reply.Reply.{Reply}
use Rattle.question_plan.specs.declared.planning.Plan.{Plan}
use Rattle.question_plan.specs.declared.planning.Plan.TheVariants.{Ready, Ask}
use Rattle.question_plan.specs.Session.{Replied, AreReplies}
use Rattle.question_plan.specs.Replies.{Tells}
use Rattle.question_plan.specs.Laws.{OnePlanIsMade, OneJudgementIsMade, OneAnswerIsTold}
use Rattle.question_plan.specs.InTurn.{MakesOneDue, same_replies}
use Rattle.transcript_sim.specs.declared.expecting.Expected.{Expected}
use Rattle.transcript_sim.specs.declared.expecting.Expected.TheVariants.{Only, Answer}
use Rattle.transcript_sim.specs.Verdicts.{CalledBy, CallsFor, Expects, AgreesWith, exchanges, IsTaken, IsVerdict, AreVerdicts, line_of}

-- a line is at most one reply
abbrev pub LineIsOneReply : Type 0
LineIsOneReply = (line : List ℕ) (a b : Reply) → IsReply line a → IsReply line b → a ≡ b

module _ (replies : LineIsOneReply) (plans : OnePlanIsMade) (judgements : OneJudgementIsMade) (answers : OneAnswerIsTold) where
  -- what one thing decides is one
  same_truth : {P : Type 0} (a b : Bool) → IsTrue a ↔ P → IsTrue b ↔ P → a ≡ b
  same_truth true true first second = refl
  same_truth false false first second = refl
  same_truth true false first second = absurd (true≢false (sym (second.1 (first.0 refl))))
  same_truth false true first second = absurd (true≢false (sym (first.1 (second.0 refl))))

  -- a verdict calls for one reply
  one_called : (setting : Setting) (history : List Answered) (take : Take) (people : ℕ) (asked : Asked) (verdict : Verdict) (a b : Expected) →
      CalledBy setting history take people asked verdict a → CalledBy setting history take people asked verdict b → a ≡ b
  one_called setting history take people asked Released a b first second =
      first.expected_is ∙ ap (λ (f : Bool). Answer take people asked f) (same_truth first.follows second.follows first.told second.told)
      ∙ sym second.expected_is
  one_called setting history take people asked DeniedUnsafe a b first second = first ∙ sym second
  one_called setting history take people asked DeniedWide a b first second = first ∙ sym second

  -- a plan calls for one reply
  one_call : (setting : Setting) (history : List Answered) (plan : Plan) (a b : Expected) → CallsFor setting history plan a → CallsFor setting history plan b →
      a ≡ b
  one_call setting history (Ready answer) a b first second = first ∙ sym second
  one_call setting history (Ask take people asked) a b (inl first) (inl second) = first.1 ∙ sym second.1
  one_call setting history (Ask take people asked) a b (inl first) (inr second) = absurd (omega (arith, first.0, second.room))
  one_call setting history (Ask take people asked) a b (inr first) (inl second) = absurd (omega (arith, second.0, first.room))
  one_call setting history (Ask take people asked) a b (inr first) (inr second) =
      let same = judgements setting history asked.column asked.rows.list second.verdict first.verdict second.judged first.judged in
      one_called setting history take people asked first.verdict a b first.called
      (subst (λ (v : Verdict). CalledBy setting history take people asked v b) same second.called)

  -- so does a question
  pub one_expected : (index : IndexView) (history : List Answered) (line : CountedLine) (a b : Expected) →
      Expects index history line a → Expects index history line b → a ≡ b
  one_expected index history line a b first second =
      let setting = public_setting index in
      one_call setting history first.plan a b first.calls
      (subst (λ (p : Plan). CallsFor setting history p b)
      (plans index.columns index.public line second.plan first.plan second.planned first.planned) second.calls)

  -- a line that agrees makes one record
  one_record : (line : CountedLine) (expected : Expected) (a b : Option Answered) → AgreesWith line expected a → AgreesWith line expected b → a ≡ b
  one_record long expected a b first second = absurd first
  one_record (text line) (Only answer) a b first second = first.1 ∙ sym second.1
  one_record (text line) (Answer take people asked follows) a b first second =
      let told = replies line second.told first.told second.is_reply first.is_reply in
      let same = answers take people first.answer second.answer first.told first.tells
      (subst (λ (r : Reply). Tells take people second.answer r) told second.tells) in
      let made : ℤ → Option Answered = λ z. Some (record { column = asked.column; rows = asked.rows; answer = z }) in
      first.added_is ∙ ap made same ∙ sym second.added_is

  one_taken : (expected : Expected) (shown : Option CountedLine) (a b : Option Answered) → IsTaken expected shown a → IsTaken expected shown b → a ≡ b
  one_taken expected None a b first second = first ∙ sym second
  one_taken expected (Some line) a b first second = one_record line expected a b first second

  module _ (index : IndexView) where
    -- one verdict is due on an exchange
    pub one_verdict : MakesOneDue (IsVerdict index)
    one_verdict history exchange a b first second =
        let same = one_expected index history exchange.question first.expected second.expected first.expects second.expects in
        let bytes : a.bytes ≡ b.bytes = first.bytes_are ∙ ap (λ (x : Expected). line_of x) same ∙ sym second.bytes_are in
        let added : a.added ≡ b.added = one_taken first.expected exchange.shown a.added b.added first.taken
        (subst (λ (x : Expected). IsTaken x exchange.shown b.added) (sym same) second.taken) in
        let made : List ℕ → Option Answered → Replied Answered = λ bytes added. record { bytes = bytes; added = added } in
        ap (λ (l : List ℕ). made l a.added) bytes ∙ ap (λ (r : Option Answered). made b.bytes r) added

    pub same_verdicts : (history : List Answered) (lines : List CountedLine) (verdicts others : List (Replied Answered)) →
        AreVerdicts index history lines verdicts → AreVerdicts index history lines others → verdicts ≡ others
    same_verdicts history lines verdicts others first second =
        same_replies (IsVerdict index) one_verdict history (exchanges lines) verdicts others first second

module _ (index : IndexView) where
  -- the verdict on a question doesn't wait for its reply
  before_reply : (history : List Answered) (question shown : CountedLine) (out : Replied Answered)
      → IsVerdict index history (record { question = question; shown = Some shown }) out
      → IsVerdict index history (record { question = question; shown = None }) (record { bytes = out.bytes; added = None })
  before_reply history question shown out is = record { expected = is.expected; expects = is.expects; bytes_are = is.bytes_are; taken = refl }

  first_verdicts : (count : ℕ) (history : List Answered) (lines : List CountedLine) (verdicts : List (Replied Answered))
      → AreReplies (IsVerdict index) history (exchanges lines) verdicts
      → (first : List (Replied Answered)) × AreReplies (IsVerdict index) history (exchanges (take count lines)) first
  first_verdicts zero history lines verdicts are = ([], tt)
  first_verdicts (suc count) history [] verdicts are = ([], tt)
  first_verdicts (suc count) history (question ∷ []) [] are = absurd are
  first_verdicts (suc zero) history (question ∷ []) (out ∷ verdicts) are = (out ∷ [], (are.0, tt))
  first_verdicts (suc (suc count)) history (question ∷ []) (out ∷ verdicts) are = (out ∷ [], (are.0, tt))
  first_verdicts (suc count) history (question ∷ shown ∷ lines) [] are = absurd are
  first_verdicts (suc zero) history (question ∷ shown ∷ lines) (out ∷ verdicts) are =
      (record { bytes = out.bytes; added = None } ∷ [], (before_reply history question shown out are.0, tt))
  first_verdicts (suc (suc count)) history (question ∷ shown ∷ lines) (out ∷ verdicts) are =
      let rest = first_verdicts count (history ++ option_to_list out.added) lines verdicts are.1 in
      (out ∷ rest.0, (are.0, rest.1))

  -- the first lines of a transcript have verdicts
  pub first_lines : (history : List Answered) (lines : List CountedLine) (verdicts : List (Replied Answered)) (count : ℕ) →
      AreVerdicts index history lines verdicts → (first : List (Replied Answered)) × AreVerdicts index history (take count lines) first
  first_lines history lines verdicts count are = first_verdicts count history lines verdicts are
