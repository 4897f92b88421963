-- Outcomes of questions that are decided one after the other.
use Rattle.std.proofs.Common.{◌≡◌, ◌≤◌, List, [], ◌∷◌, ◌++◌, length, take, sym, ap, subst, ◌∙◌, arith, append_assoc, append-nil, length-append}
use Rattle.std.proofs.Math.Seq.{take-append_seam}
use Rattle.std.specs.Option.{option_to_list}
use Rattle.std.specs.Prelude.{Option, Some, None}
use Rattle.audit_types.specs.declared.records.Asked.{Asked}
use Rattle.audit_types.specs.declared.records.Answered.{Answered}
use Rattle.audit_types.specs.History.{Table}
use Rattle.audit_core.specs.declared.outcome.Outcome.{Outcome}
use Rattle.audit_core.specs.Outcomes.{IsOutcome, AreOutcomes, record_of, records_made}

-- one question more, decided after the history and the records of those before it
pub outcomes_more : (table : Table) (history : List Answered) (questions : List Asked) (outcomes : List Outcome) (asked : Asked) (outcome : Outcome)
    → AreOutcomes table history questions outcomes
    → IsOutcome table (history ++ records_made questions outcomes) asked outcome →
    AreOutcomes table history (questions ++ asked ∷ []) (outcomes ++ outcome ∷ [])
outcomes_more table history [] [] asked outcome are is = (subst (λ h. IsOutcome table h asked outcome) (append-nil history) is, tt)
outcomes_more table history [] (o ∷ outcomes) asked outcome are is = absurd are
outcomes_more table history (a ∷ questions) [] asked outcome are is = absurd are
outcomes_more table history (a ∷ questions) (o ∷ outcomes) asked outcome are is =
    let first = option_to_list (record_of a o) in (
      are.0,
      outcomes_more table (history ++ first) questions outcomes asked outcome are.1
          (subst (λ h. IsOutcome table h asked outcome) (sym (append_assoc history first (records_made questions outcomes))) is),
    )

-- its record stands after theirs
pub records_more : (table : Table) (history : List Answered) (questions : List Asked) (outcomes : List Outcome) (asked : Asked) (outcome : Outcome)
    → AreOutcomes table history questions outcomes
    → records_made (questions ++ asked ∷ []) (outcomes ++ outcome ∷ []) ≡ records_made questions outcomes ++ option_to_list (record_of asked outcome)
records_more table history [] [] asked outcome are = append-nil (option_to_list (record_of asked outcome))
records_more table history [] (o ∷ outcomes) asked outcome are = absurd are
records_more table history (a ∷ questions) [] asked outcome are = absurd are
records_more table history (a ∷ questions) (o ∷ outcomes) asked outcome are =
    let first = option_to_list (record_of a o) in
    ap (λ t. first ++ t) (records_more table (history ++ first) questions outcomes asked outcome are.1)
    ∙ sym (append_assoc first (records_made questions outcomes) (option_to_list (record_of asked outcome)))

at_most_one : (r : Option Answered) → length (option_to_list r) ≤ 1
at_most_one None = omega arith
at_most_one (Some r) = omega arith

-- a question makes at most one record
pub few_made : (questions : List Asked) (outcomes : List Outcome) → length (records_made questions outcomes) ≤ length questions
few_made [] outcomes = omega arith
few_made (a ∷ questions) [] = omega arith
few_made (a ∷ questions) (o ∷ outcomes) =
    omega (arith, few_made questions outcomes, at_most_one (record_of a o), length-append (option_to_list (record_of a o)) (records_made questions outcomes))

-- a history with more records begins with the old one
pub grown_begins : (old more new : List Answered) → new ≡ old ++ more → take (length old) new ≡ old
grown_begins old more new is = ap (λ h. take (length old) h) is ∙ take-append_seam old more

pub grown_within : (old more new : List Answered) → new ≡ old ++ more → length old ≤ length new
grown_within old more new is = omega (arith, ap length is, length-append old more)
