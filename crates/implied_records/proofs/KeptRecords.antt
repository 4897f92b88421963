-- What is kept of a history: one list, with which the same lists of numbers agree.
use Rattle.std.proofs.Common.{◌≡◌, ◌≢◌, ℕ, ◌≤◌, ℤ, List, [], ◌∷◌, ◌++◌, length, refl, sym, ap, ◌∙◌, subst, arith, inl, inr, ◌⊎◌, length-append}
use Rattle.std.specs.List.{AllByRecursion}
use Rattle.std.specs.Prelude.{◌↔◌}
use Rattle.std.proofs.lemmas.Bool.{cases_eq}
use Rattle.audit_types.specs.declared.shapes.Shape.{Shape}
use Rattle.audit_types.specs.declared.records.Answered.{Answered}
use Rattle.audit_types.specs.Truth.{truth}
use Rattle.audit_types.specs.Shapes.{kind_at}
use Rattle.audit_types.specs.Column.{Answer, Agrees}
use Rattle.audit_types.specs.History.{Setting, known_of, answers_of, answer_in}
use Rattle.audit_types.specs.ListLaws.{all-push, all-front}
use Rattle.implied_records.specs.Kept.{IsKeptOf, IsImpliedBy}
use Rattle.implied_records.specs.Kept.IsKeptOf.{none, left_out, stays}
use Rattle.implied_records.specs.Laws.{OneIsKept, SameListsAgree}
use Rattle.implied_records.proofs.Pushes.{own_answers, other_answers, same_push, none_pushed}

module _ (setting : Setting) (column : ℕ) (w : List ℤ) where
  -- a list that gives an answer
  abbrev Gives : Answer → Type 0
  Gives a = truth (kind_at setting.shape column) w a.rows ≡ a.value

  -- a list agrees with one record more of the column if it agreed and gives its answer
  agrees_own : (history : List Answered) (r : Answered) → r.column ≡ column → Agrees (known_of setting history column) w → Gives (answer_in r) →
      Agrees (known_of setting (history ++ r ∷ []) column) w
  agrees_own history r own agrees gives = record {
    one_each = agrees.one_each;
    same = subst (AllByRecursion Gives) (sym (own_answers column history r own)) (all-push Gives (answers_of column history) (answer_in r) agrees.same gives);
  }

  own_agreed : (history : List Answered) (r : Answered) → r.column ≡ column → Agrees (known_of setting (history ++ r ∷ []) column) w →
      Agrees (known_of setting history column) w × Gives (answer_in r)
  own_agreed history r own agrees =
      let parts = all-front Gives (answers_of column history) (answer_in r) (subst (AllByRecursion Gives) (own_answers column history r own) agrees.same) in
      (record { one_each = agrees.one_each; same = parts.0 }, parts.1)

  -- and with one of another column if it agreed
  agrees_other : (history : List Answered) (r : Answered) → r.column ≢ column → Agrees (known_of setting history column) w →
      Agrees (known_of setting (history ++ r ∷ []) column) w
  agrees_other history r apart agrees = record {
    one_each = agrees.one_each;
    same = subst (AllByRecursion Gives) (sym (other_answers column history r apart)) agrees.same;
  }

  other_agreed : (history : List Answered) (r : Answered) → r.column ≢ column → Agrees (known_of setting (history ++ r ∷ []) column) w →
      Agrees (known_of setting history column) w
  other_agreed history r apart agrees = record {
    one_each = agrees.one_each;
    same = subst (AllByRecursion Gives) (other_answers column history r apart) agrees.same;
  }

  -- an implied record's answer is given, whichever groups are protected
  implied_given : (before : List Answered) (r : Answered) → r.column ≡ column → IsImpliedBy setting.shape before r → Agrees (known_of setting before column) w →
      Gives (answer_in r)
  implied_given before r own implied agrees =
      let own_column : Agrees (known_of setting before r.column) w = subst (λ c. Agrees (known_of setting before c) w) (sym own) agrees in
      subst (λ c. truth (kind_at setting.shape c) w r.rows.list ≡ r.answer) own (implied w (record { one_each = own_column.one_each; same = own_column.same }))

  pub same_lists : {history kept : List Answered} → IsKeptOf setting.shape history kept →
      Agrees (known_of setting history column) w ↔ Agrees (known_of setting kept column) w
  same_lists none = (λ agrees. agrees, λ agrees. agrees)
  same_lists (left_out {before} {kept} r so_far implied) =
      let rest = same_lists so_far in
      elim (cases_eq r.column column) [
        | inl own ↦ (
          λ agrees. rest.0 (own_agreed before r own agrees).0,
          λ agrees. let old = rest.1 agrees in agrees_own before r own old (implied_given before r own implied old),
        )
        | inr apart ↦ (λ agrees. rest.0 (other_agreed before r apart agrees), λ agrees. agrees_other before r apart (rest.1 agrees))
      ]
  same_lists (stays {before} {kept} r so_far new) =
      let rest = same_lists so_far in
      elim (cases_eq r.column column) [
        | inl own ↦ (
          λ agrees. let parts = own_agreed before r own agrees in agrees_own kept r own (rest.0 parts.0) parts.1,
          λ agrees. let parts = own_agreed kept r own agrees in agrees_own before r own (rest.1 parts.0) parts.1,
        )
        | inr apart ↦ (
          λ agrees. agrees_other kept r apart (rest.0 (other_agreed before r apart agrees)),
          λ agrees. agrees_other before r apart (rest.1 (other_agreed kept r apart agrees)),
        )
      ]

pub same_lists_agree : SameListsAgree
same_lists_agree setting history kept column w is = same_lists setting column w is

-- what is kept of a history with one record more: what is kept without it, and the record unless it is implied
LastKept : Shape → List Answered → Answered → List Answered → Type 0
LastKept shape before r all =
    (IsKeptOf shape before all × IsImpliedBy shape before r)
    ⊎ ((kept : List Answered) × (all ≡ kept ++ r ∷ []) × IsKeptOf shape before kept × ¬ (IsImpliedBy shape before r))

last_of : (shape : Shape) {history all : List Answered} → IsKeptOf shape history all → (before : List Answered) (r : Answered) → history ≡ before ++ r ∷ [] →
    LastKept shape before r all
unfolding LastKept
last_of shape none before r is = absurd (none_pushed before r is)
last_of shape (left_out {before = front} {kept} x so_far implied) before r is =
    let parts = same_push front before x r is in
    inl (subst (λ h. IsKeptOf shape h kept) parts.0 so_far, subst (IsImpliedBy shape before) parts.1 (subst (λ h. IsImpliedBy shape h x) parts.0 implied))
last_of shape (stays {before = front} {kept} x so_far new) before r is =
    let parts = same_push front before x r is in
    inr (
      kept,
      ap (λ y. kept ++ y ∷ []) parts.1,
      subst (λ h. IsKeptOf shape h kept) parts.0 so_far,
      subst (λ y. ¬ (IsImpliedBy shape before y)) parts.1 (subst (λ h. ¬ (IsImpliedBy shape h x)) parts.0 new),
    )

nothing_of_none : (shape : Shape) {history kept : List Answered} → IsKeptOf shape history kept → history ≡ [] → [] ≡ kept
nothing_of_none shape none is = refl
nothing_of_none shape (left_out {before = front} {kept} x so_far implied) is = absurd (none_pushed front x (sym is))
nothing_of_none shape (stays {before = front} {kept} x so_far new) is = absurd (none_pushed front x (sym is))

one_kept : (shape : Shape) {history kept : List Answered} → IsKeptOf shape history kept → (other : List Answered) → IsKeptOf shape history other → kept ≡ other
unfolding LastKept
one_kept shape none other is = nothing_of_none shape is refl
one_kept shape (left_out {before} {kept} r so_far implied) other is = elim (last_of shape is before r refl) [
  | inl (same, told) ↦ one_kept shape so_far other same
  | inr (others, all, same, new) ↦ absurd (new implied)
]
one_kept shape (stays {before} {kept} r so_far new) other is = elim (last_of shape is before r refl) [
  | inl (same, told) ↦ absurd (new told)
  | inr (others, all, same, fresh) ↦ ap (λ l. l ++ r ∷ []) (one_kept shape so_far others same) ∙ sym all
]

pub one_is_kept : OneIsKept
one_is_kept shape history kept other is also = one_kept shape is other also

-- no more records are kept than there are
pub no_more : (shape : Shape) {history kept : List Answered} → IsKeptOf shape history kept → length kept ≤ length history
no_more shape none = omega arith
no_more shape (left_out {before} {kept} r so_far implied) = let rest = no_more shape so_far in omega (arith, length-append before (r ∷ []))
no_more shape (stays {before} {kept} r so_far new) =
    let rest = no_more shape so_far in
    omega (arith, length-append before (r ∷ []), length-append kept (r ∷ []))
