-- Facts on the answers of a column in a history.
use Rattle.std.proofs.Common.{◌≡◌, ℕ, zero, suc, ◌<◌, Bool, true, false, cond, ◌==◌, List, [], ◌∷◌, ◌++◌, map, length, get_or, sym, ap, ◌∙◌, subst, arith}
use Rattle.std.specs.List.{AllByRecursion, filter}
use Rattle.std.proofs.lemmas.Bool.{eq-eqb}
use Rattle.std.proofs.lemmas.List.{map-append}
use Rattle.std.proofs.lemmas.List.Elements.{filter-append}
use Rattle.audit_types.specs.declared.records.Answered.{Answered}
use Rattle.audit_types.specs.Column.{Answer}
use Rattle.audit_types.specs.History.{answers_of, answer_in}

-- the answers of two histories, one after the other
pub answers_of-append : (column : ℕ) (history more : List Answered) → answers_of column (history ++ more) ≡ answers_of column history ++ answers_of column more
answers_of-append column history more =
    ap (map answer_in) (filter-append (λ r. r.column == column) history more)
    ∙ map-append answer_in (filter (λ r. r.column == column) history) (filter (λ r. r.column == column) more)

module _ (P : Answer → Type 0) (column : ℕ) where
  -- the answers without the first record's
  without_first : (r : Answered) (history : List Answered) → AllByRecursion P (answers_of column (r ∷ history)) → AllByRecursion P (answers_of column history)
  without_first r history all = go (r.column == column) (filter (λ q. q.column == column) history) all
    where
      go : (b : Bool) (rest : List Answered) → AllByRecursion P (map answer_in (cond b (r ∷ rest) rest)) → AllByRecursion P (map answer_in rest)
      go true rest h = h.1
      go false rest h = h

  -- what holds of all answers of a column holds of that of each of its records
  pub own_answer : (history : List Answered) (i : ℕ) (r : Answered) → i < length history → r ≡ get_or history i r → r.column ≡ column → AllByRecursion P (answers_of column history) → P (answer_in r)
  own_answer [] i r within is own all = absurd (omega arith)
  own_answer (x ∷ history) zero r within is own all =
      let same : (x.column == column) ≡ true = eq-eqb x.column column (ap (λ (y : Answered). y.column) (sym is) ∙ own) in
      subst (λ (y : Answered). P (answer_in y)) (sym is) (rw same at all).0
  own_answer (x ∷ history) (suc i) r within is own all = own_answer history i r (omega arith) is own (without_first x history all)
