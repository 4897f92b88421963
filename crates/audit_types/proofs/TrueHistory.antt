-- The secrets of a table agree with each history of true records.
use Rattle.std.proofs.Common.{◌≡◌, ℕ, Bool, true, false, cond, ◌==◌, List, [], ◌∷◌, map, ◌++◌, length, refl, sym, ap, subst, ◌∙◌, arith, ℤ}
use Rattle.std.specs.Prelude.{slice_get, Some}
use Rattle.std.specs.List.{AllByRecursion, filter}
use Rattle.std.proofs.lemmas.Bool.{eqb-true}
use Rattle.audit_types.specs.Rows.{Rows}
use Rattle.audit_types.specs.declared.records.Answered.{Answered}
use Rattle.audit_types.specs.Shapes.{kind_at}
use Rattle.audit_types.specs.Truth.{truth}
use Rattle.audit_types.specs.Column.{Answer}
use Rattle.audit_types.specs.ListLaws.{all_by_place, all-get_or, all-append}
use Rattle.audit_types.specs.HistoryLaws.{answers_of-append}
use Rattle.audit_types.specs.History.{Table, Setting, AreSecrets, AgreeWithHistory, IsPossibleHistory, IsLegal, list_of, answers_of, answer_in}

module _ (table : Table) where
  -- the answer of a record is the table's
  abbrev IsTrueAnswer : Answered → Type 0
  IsTrueAnswer r = r.answer ≡ truth (kind_at table.setting.shape r.column) (list_of table.secrets r.column) r.rows.list

  module _ (column : ℕ) where
    abbrev Gives : Answer → Type 0
    Gives a = truth (kind_at table.setting.shape column) (list_of table.secrets column) a.rows ≡ a.value

    own_record : (r : Answered) → (r.column == column) ≡ true → IsTrueAnswer r → Gives (answer_in r)
    own_record r own true_answer =
        let same : r.column ≡ column = eqb-true r.column column own in
        sym (true_answer ∙ ap (λ c. truth (kind_at table.setting.shape c) (list_of table.secrets c) r.rows.list) same)

    taken : (b : Bool) (r : Answered) (rest : List Answered) → (b ≡ true → Gives (answer_in r)) → AllByRecursion Gives (map answer_in rest) →
        AllByRecursion Gives (map answer_in (cond b (r ∷ rest) rest))
    taken true r rest first others = (first refl, others)
    taken false r rest first others = others

    all_given : (history : List Answered) → AllByRecursion IsTrueAnswer history → AllByRecursion Gives (answers_of column history)
    all_given [] h = tt
    all_given (r ∷ history) h = taken (r.column == column) r (filter (λ x. x.column == column) history) (λ own. own_record r own h.0) (all_given history h.1)

  pub true_history : AreSecrets table.setting.shape table.secrets → (history : List Answered) →
      ((i : ℕ) (r : Answered) → slice_get history i ≡ Some r → IsTrueAnswer r) → AgreeWithHistory table.setting history table.secrets
  true_history secrets history each column below = record {
    one_each = all-get_or (λ w. length w ≡ table.setting.shape.rows) table.secrets column [] secrets.numbers (omega (arith, secrets.one_each));
    same = all_given column history (all_by_place IsTrueAnswer history each);
  }

  -- the secrets of the table agree with a legal history
  pub legal_is_possible : (history : List Answered) → AreSecrets table.setting.shape table.secrets → IsLegal table history →
      IsPossibleHistory table.setting history
  legal_is_possible history secrets legal = (table.secrets, secrets, true_history secrets history (λ i r here. (legal.each i r here).true_answer))

-- secrets that agree do so after a record of their own answer
pub keeps_agreement : (table : Table) (history : List Answered) (r : Answered) → AgreeWithHistory table.setting history table.secrets → IsTrueAnswer table r →
    AgreeWithHistory table.setting (history ++ r ∷ []) table.secrets
keeps_agreement table history r agree true_answer column below = record {
  one_each = (agree column below).one_each;
  same = subst (AllByRecursion (Gives table column)) (sym (answers_of-append column history (r ∷ [])))
      (all-append (Gives table column) (answers_of column history) (answers_of column (r ∷ [])) (agree column below).same
      (all_given table column (r ∷ []) (true_answer, tt)));
}

-- so there is an answer after which the history is possible
pub some_answer : (setting : Setting) (history : List Answered) (column : ℕ) (rows : Rows) → IsPossibleHistory setting history →
    (answer : ℤ) × IsPossibleHistory setting (history ++ record { column = column; rows = rows; answer = answer } ∷ [])
some_answer setting history column rows possible =
    let answer = truth (kind_at setting.shape column) (list_of possible.0 column) rows.list in (
      answer,
      (
        possible.0,
        possible.1,
        keeps_agreement (record { setting = setting; secrets = possible.0 }) history (record { column = column; rows = rows; answer = answer }) possible.2 refl,
      ),
    )
