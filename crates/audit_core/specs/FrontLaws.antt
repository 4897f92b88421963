-- Facts on the first records of a history: what one record more adds to the sets of a column.
use Rattle.std.proofs.Common.{◌≡◌, ◌≢◌, ℕ, ◌+◌, ◌<◌, true, false, ◌==◌, List, [], ◌∷◌, ◌++◌, map, length, take, get_or, refl, ap, ◌∙◌}
use Rattle.std.proofs.lemmas.Bool.{ne_eqb, eq-eqb}
use Rattle.std.proofs.lemmas.List.{take_more, map-append, append-nil}
use Rattle.audit_types.specs.declared.records.Answered.{Answered}
use Rattle.audit_types.specs.History.{answers_of, answer_in}
use Rattle.audit_types.specs.HistoryLaws.{answers_of-append}
use Rattle.audit_core.specs.Laws.{sets_before}

-- the answers that one record gives to a column
own_answers : (column : ℕ) (r : Answered) → r.column ≡ column → answers_of column (r ∷ []) ≡ answer_in r ∷ []
own_answers column r own = let same : (r.column == column) ≡ true = eq-eqb r.column column own in rw same refl

no_answers : (column : ℕ) (r : Answered) → r.column ≢ column → answers_of column (r ∷ []) ≡ []
no_answers column r other = let none : (r.column == column) ≡ false = ne_eqb r.column column other in rw none refl

-- a record of the column adds its set
pub sets_after_own : (column : ℕ) (history : List Answered) (i : ℕ) (r : Answered) → i < length history → get_or history i r ≡ r → r.column ≡ column →
    sets_before column history (i + 1) ≡ sets_before column history i ++ r.rows.list ∷ []
sets_after_own column history i r within is own =
    ap (λ h. map (λ a. a.rows) (answers_of column h)) (take_more history i r within ∙ ap (λ x. take i history ++ x ∷ []) is)
    ∙ ap (map (λ a. a.rows)) (answers_of-append column (take i history) (r ∷ []) ∙ ap (λ x. answers_of column (take i history) ++ x) (own_answers column r own))
    ∙ map-append (λ a. a.rows) (answers_of column (take i history)) (answer_in r ∷ [])

-- a record of another column adds none
pub sets_after_other : (column : ℕ) (history : List Answered) (i : ℕ) (r : Answered) → i < length history → get_or history i r ≡ r → r.column ≢ column →
    sets_before column history (i + 1) ≡ sets_before column history i
sets_after_other column history i r within is other =
    ap (λ h. map (λ a. a.rows) (answers_of column h)) (take_more history i r within ∙ ap (λ x. take i history ++ x ∷ []) is)
    ∙ ap (map (λ a. a.rows)) (answers_of-append column (take i history) (r ∷ []) ∙ ap (λ x. answers_of column (take i history) ++ x) (no_answers column r other) ∙ append-nil (answers_of column (take i history)))
