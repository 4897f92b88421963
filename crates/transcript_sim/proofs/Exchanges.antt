-- Exchanges after others, and the verdicts on them.
use Rattle.std.proofs.Common.{◌≡◌, ℕ, ◌-◌, ◌*◌, List, [], ◌∷◌, ◌++◌, length, Option, Some, None, refl, sym, ◌∙◌, ap, subst, arith, append_assoc}
use Rattle.std.specs.Option.{option_to_list}
use Rattle.std.proofs.lemmas.List.{append-nil}
use Rattle.std.proofs.lemmas.List.Concat.{flat_map-append}
use Rattle.audit_types.specs.declared.records.Answered.{Answered}
use Rattle.set_index.specs.Indexed.{IndexView}
use Rattle.line_wire.specs.Lines.{CountedLine}
use Rattle.question_plan.specs.Session.{Replied, records_of, AreReplies}
use Rattle.question_plan.specs.InTurn.{replies-append}
use Rattle.transcript_sim.specs.declared.expecting.Expected.{Expected}
use Rattle.transcript_sim.specs.Verdicts.{AgreesWith, AreVerdicts, Exchange, Expects, IsTaken, IsVerdict, exchanges, line_of}

-- if the lines before them are whole exchanges
pub exchanges-append : (lines more : List CountedLine) (half : ℕ) → length lines ≡ 2 * half → exchanges (lines ++ more) ≡ exchanges lines ++ exchanges more
exchanges-append [] more half even = refl
exchanges-append (question ∷ []) more half even = absurd (omega (arith, even))
exchanges-append (question ∷ shown ∷ lines) more half even =
    ap (λ (l : List Exchange). record { question = question; shown = Some shown } ∷ l) (exchanges-append lines more (half - 1) (omega (arith, even)))

-- the verdict for what a question calls for, with the record of its reply, if one was read
abbrev pub verdict_with : Expected → Option Answered → Replied Answered
verdict_with expected added = record { bytes = line_of expected; added = added }

-- the records of verdicts, and that of one more
pub records-push : (verdicts : List (Replied Answered)) (out : Replied Answered) →
    records_of (verdicts ++ out ∷ []) ≡ records_of verdicts ++ option_to_list out.added
records-push verdicts out =
    flat_map-append (λ (r : Replied Answered). option_to_list r.added) verdicts (out ∷ [])
    ∙ ap (λ (l : List Answered). records_of verdicts ++ l) (append-nil (option_to_list out.added))

-- verdicts on whole exchanges, and on one more
module _ (index : IndexView) (begun : List Answered) (lines : List CountedLine) (verdicts : List (Replied Answered))
    (are : AreVerdicts index begun lines verdicts) (even : length lines ≡ 2 * length verdicts) (question : CountedLine) (expected : Expected)
    (expects : Expects index (begun ++ records_of verdicts) question expected) where
  exchange-push : (shown : Option CountedLine) (added : Option Answered) → IsTaken expected shown added → (more : List CountedLine) →
      exchanges more ≡ record { question = question; shown = shown } ∷ [] →
      AreVerdicts index begun (lines ++ more) (verdicts ++ verdict_with expected added ∷ [])
  exchange-push shown added taken more is =
      let exchange : Exchange = record { question = question; shown = shown } in
      let verdict : IsVerdict index (begun ++ records_of verdicts) exchange (verdict_with expected added) =
      record { expected = expected; expects = expects; bytes_are = refl; taken = taken } in
      subst (λ (es : List Exchange). AreReplies (IsVerdict index) begun es (verdicts ++ verdict_with expected added ∷ []))
      (sym (exchanges-append lines more (length verdicts) even ∙ ap (λ (es : List Exchange). exchanges lines ++ es) is))
      (replies-append (IsVerdict index) begun (exchanges lines) (exchange ∷ []) verdicts (verdict_with expected added ∷ []) are (verdict, tt))

  -- a question whose reply isn't read yet
  pub question-push : AreVerdicts index begun (lines ++ question ∷ []) (verdicts ++ verdict_with expected None ∷ [])
  question-push = exchange-push None None refl (question ∷ []) refl

  -- and one whose reply agrees
  pub agreed-push : (shown : CountedLine) (added : Option Answered) → AgreesWith shown expected added →
      AreVerdicts index begun ((lines ++ question ∷ []) ++ shown ∷ []) (verdicts ++ verdict_with expected added ∷ [])
  agreed-push shown added agrees =
      subst (λ (ls : List CountedLine). AreVerdicts index begun ls (verdicts ++ verdict_with expected added ∷ []))
      (sym (append_assoc lines (question ∷ []) (shown ∷ []))) (exchange-push (Some shown) added agrees (question ∷ shown ∷ []) refl)
