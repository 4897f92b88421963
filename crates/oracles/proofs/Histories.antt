-- The answers of a column, one record at a time.
use Rattle.std.proofs.Common.{◌≡◌, ℕ, ◌+◌, ◌<◌, Bool, true, false, cond, ◌==◌, List, [], ◌∷◌, ◌++◌, map, length, refl, sym, ap, ◌∙◌, take, get_or, append-nil}
use Rattle.std.proofs.lemmas.List.{take_more}
use Rattle.audit_types.specs.declared.records.Answered.{Answered}
use Rattle.audit_types.specs.Column.{Answer}
use Rattle.audit_types.specs.HistoryLaws.{answers_of-append}
use Rattle.audit_types.specs.History.{answers_of, answer_in}

-- the answer of a record, if it is one of the column
abbrev pub answer_if : Bool → Answered → List Answer
answer_if own r = cond own (answer_in r ∷ []) []

-- the answer of one record
one_record : (own : Bool) (r : Answered) → map answer_in (cond own (r ∷ []) []) ≡ answer_if own r
one_record true r = refl
one_record false r = refl

-- a record more
pub answers_of-more : (column : ℕ) (history : List Answered) (i : ℕ) (r : Answered) → i < length history → r ≡ get_or history i r →
    answers_of column (take (i + 1) history) ≡ answers_of column (take i history) ++ answer_if (r.column == column) r
answers_of-more column history i r l is =
    ap (answers_of column) (take_more history i r l ∙ ap (λ x. take i history ++ x ∷ []) (sym is))
    ∙ answers_of-append column (take i history) (r ∷ [])
    ∙ ap (λ xs. answers_of column (take i history) ++ xs) (one_record (r.column == column) r)

-- a record of the column
pub answers_of-own : (column : ℕ) (history : List Answered) (i : ℕ) (r : Answered) → i < length history → r ≡ get_or history i r → (r.column == column) ≡ true →
    answers_of column (take (i + 1) history) ≡ answers_of column (take i history) ++ answer_in r ∷ []
answers_of-own column history i r l is own = answers_of-more column history i r l is ∙ ap (λ b. answers_of column (take i history) ++ answer_if b r) own

-- a record of another column
pub answers_of-other : (column : ℕ) (history : List Answered) (i : ℕ) (r : Answered) → i < length history → r ≡ get_or history i r →
    (r.column == column) ≡ false →
    answers_of column (take (i + 1) history) ≡ answers_of column (take i history)
answers_of-other column history i r l is other =
    answers_of-more column history i r l is ∙ ap (λ b. answers_of column (take i history) ++ answer_if b r) other
    ∙ append-nil (answers_of column (take i history))
