-- Facts on histories over more rows.
use Rattle.std.proofs.Common.{◌≡◌, ℕ, zero, suc, Bool, true, false, cond, ◌==◌, List, [], ◌∷◌, ◌++◌, map, length, take, Some, refl, sym, ap, ◌∙◌}
use Rattle.std.specs.Prelude.{slice_get}
use Rattle.std.specs.List.{AllByRecursion, filter}
use Rattle.std.proofs.lemmas.List.{length-map, map-append}
use Rattle.std.proofs.lemmas.Option.{none-some, same_Some}
use Rattle.audit_types.specs.declared.records.Answered.{Answered}
use Rattle.audit_types.specs.History.{answers_of, answer_in}
use Rattle.audit_types.specs.Widening.{wider, widened}

-- what was widened and is widened again is widened once
pub widened-widened : (m n : ℕ) (history : List Answered) → widened n (widened m history) ≡ widened n history
widened-widened m n [] = refl
widened-widened m n (r ∷ history) = ap (λ l. wider n r ∷ l) (widened-widened m n history)

pub widened-append : (n : ℕ) (history more : List Answered) → widened n (history ++ more) ≡ widened n history ++ widened n more
widened-append n history more = map-append (wider n) history more

pub length-widened : (n : ℕ) (history : List Answered) → length (widened n history) ≡ length history
length-widened n history = length-map history (wider n)

-- a history over n rows is itself over n rows
pub widened-same : (n : ℕ) (history : List Answered) → AllByRecursion (λ r. r.rows.n ≡ n) history → widened n history ≡ history
widened-same n [] are = refl
widened-same n (r ∷ history) are =
    ap (λ k. record { column = r.column; rows = record { n = k; list = r.rows.list }; answer = r.answer } ∷ widened n history) (sym are.0)
    ∙ ap (λ l. r ∷ l) (widened-same n history are.1)

-- and each record of a widened history is over n rows
pub over-widened : (n : ℕ) (history : List Answered) → AllByRecursion (λ r. r.rows.n ≡ n) (widened n history)
over-widened n [] = tt
over-widened n (r ∷ history) = (refl, over-widened n history)

-- a record of a widened history is a record of the old one over more rows
pub record_of_widened : (n : ℕ) (history : List Answered) (i : ℕ) (r : Answered) → slice_get (widened n history) i ≡ Some r →
    (old : Answered) × (slice_get history i ≡ Some old) × (wider n old ≡ r)
record_of_widened n [] i r here = absurd (none-some r here)
record_of_widened n (x ∷ history) zero r here = (x, refl, same_Some (wider n x) r here)
record_of_widened n (x ∷ history) (suc i) r here = record_of_widened n history i r here

-- and those before it are the old ones
pub take-widened : (n i : ℕ) (history : List Answered) → take i (widened n history) ≡ widened n (take i history)
take-widened n zero [] = refl
take-widened n (suc i) [] = refl
take-widened n zero (x ∷ history) = refl
take-widened n (suc i) (x ∷ history) = ap (λ l. wider n x ∷ l) (take-widened n i history)

-- the answers of a column say nothing of the number of rows
pub answers_of-widened : (n column : ℕ) (history : List Answered) → answers_of column (widened n history) ≡ answers_of column history
answers_of-widened n column [] = refl
answers_of-widened n column (x ∷ history) = one (x.column == column) (answers_of-widened n column history)
  where
    one : (b : Bool) → answers_of column (widened n history) ≡ answers_of column history →
        map answer_in (cond b (wider n x ∷ filter (λ r. r.column == column) (widened n history)) (filter (λ r. r.column == column) (widened n history)))
        ≡ map answer_in (cond b (x ∷ filter (λ r. r.column == column) history) (filter (λ r. r.column == column) history))
    one true rest = ap (λ l. answer_in x ∷ l) rest
    one false rest = rest
