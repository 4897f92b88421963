-- A column's own answers in a history: what holds of each record, and which record of it is the last.
use Rattle.std.proofs.Common.{◌≡◌, ℕ, suc, Bool, true, false, cond, ◌==◌, List, [], ◌∷◌, ◌++◌, map, take, Some, refl, sym, ap, ◌∙◌, inl, inr, ◌⊎◌}
use Rattle.std.specs.Prelude.{slice_get}
use Rattle.std.specs.List.{AllByRecursion, filter}
use Rattle.std.proofs.lemmas.Bool.{eqb-true}
use Rattle.audit_types.specs.declared.records.Answered.{Answered}
use Rattle.audit_types.specs.Column.{Answer}
use Rattle.audit_types.specs.History.{answers_of, answer_in}
use Rattle.audit_types.specs.ListLaws.{all-map, all-filter}

-- what holds of the answer of each record holds of a column's answers
pub all_answers : (P : Answer → Type 0) (column : ℕ) (history : List Answered) → AllByRecursion (λ r. P (answer_in r)) history →
    AllByRecursion P (answers_of column history)
all_answers P column history all =
    all-map answer_in P (filter (λ r. r.column == column) history) (all-filter (λ r. P (answer_in r)) (λ r. r.column == column) history all)

-- the last record of a column: the column's answers are those before it and its own
pub record HasLast (column : ℕ) (history : List Answered) : Type 0 where
  pub place : ℕ
  pub last : Answered
  pub here : slice_get history place ≡ Some last
  pub own : last.column ≡ column
  pub answers : answers_of column history ≡ answers_of column (take place history) ++ answer_in last ∷ []

-- the answers with one more in front, if it is the column's
abbrev pub led_by : Answer → Bool → List Answer → List Answer
led_by a b answers = cond b (a ∷ answers) answers

led : (r : Answered) (others : List Answered) (b : Bool) → map answer_in (cond b (r ∷ others) others) ≡ led_by (answer_in r) b (map answer_in others)
led r others true = refl
led r others false = refl

pub answers_of-cons : (column : ℕ) (r : Answered) (history : List Answered) →
    answers_of column (r ∷ history) ≡ led_by (answer_in r) (r.column == column) (answers_of column history)
answers_of-cons column r history = led r (filter (λ x. x.column == column) history) (r.column == column)

led_apart : (first : Answer) (b : Bool) (front : List Answer) (a : Answer) → led_by first b (front ++ a ∷ []) ≡ led_by first b front ++ a ∷ []
led_apart first true front a = refl
led_apart first false front a = refl

-- the last record after the first one is the last
later : (column : ℕ) (r : Answered) (history : List Answered) → HasLast column history → HasLast column (r ∷ history)
later column r history found =
    let front = take found.place history in
    let last = answer_in found.last in
    record {
      place = suc found.place;
      last = found.last;
      here = found.here;
      own = found.own;
      answers =
          answers_of-cons column r history ∙ ap (led_by (answer_in r) (r.column == column)) found.answers
          ∙ led_apart (answer_in r) (r.column == column) (answers_of column front) last
          ∙ ap (λ l. l ++ last ∷ []) (sym (answers_of-cons column r front));
    }

-- if none is after it, the first record is the last, unless it is another column's
only : (column : ℕ) (r : Answered) (history : List Answered) (b : Bool) → (r.column == column) ≡ b → answers_of column history ≡ [] →
    (answers_of column (r ∷ history) ≡ []) ⊎ HasLast column (r ∷ history)
only column r history true own none = inr (record {
  place = 0;
  last = r;
  here = refl;
  own = eqb-true r.column column own;
  answers = answers_of-cons column r history ∙ ap (λ b. led_by (answer_in r) b (answers_of column history)) own ∙ ap (λ l. answer_in r ∷ l) none;
})
only column r history false other none = inl (answers_of-cons column r history ∙ ap (λ b. led_by (answer_in r) b (answers_of column history)) other ∙ none)

-- a column has no answers, or a last record
pub none_or_last : (column : ℕ) (history : List Answered) → (answers_of column history ≡ []) ⊎ HasLast column history
none_or_last column [] = inl refl
none_or_last column (r ∷ history) =
    elim (none_or_last column history) [
      | inl none ↦ only column r history (r.column == column) refl none
      | inr found ↦ inr (later column r history found)
    ]
