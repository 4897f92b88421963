-- The first name of extreme rows of few people, as the answers are gone through.
use Rattle.std.proofs.Common.{◌≡◌, ◌≢◌, ℕ, List, [], ◌∷◌, ◌++◌, length, Option, Some, None, sym, ap, ◌∙◌, subst, arith, inl, inr}
use Rattle.audit_types.specs.Rows.{Rows}
use Rattle.audit_types.specs.Headcount.{Headcount, CountPeople, AreFew}
use Rattle.std.specs.Prelude.{ℤ, IfSome, IfNone}
use Rattle.audit_types.specs.Column.{Answer, IsOneOf, IsWellFormed, known_max, guarding}
use Rattle.max_audit.specs.Laws.{LeavesFewPeople}
use Rattle.max_bounds.specs.Maxima.{and_answer}
use Rattle.audit_types.specs.Extremes.{extremes, IsConsistent}
use Rattle.max_bounds.specs.AnswerLaws.{one_of_front, one_of_last, front_or_last, extreme_rows, some_extreme}
use Rattle.denial_proof.specs.declared.few_rows.FewRows.{FewRows}
use Rattle.denial_proof.specs.FewRows.{AreFoundFew, name_of, ComesBefore, IsFirstName, IsFirstWith, IsLeastFew, IsLeastFewFound}
use Rattle.denial_proof.proofs.FewNames.{not_itself_first, not_before_first, through_first, IsNameOf, name_is}

module _ (n : ℕ) (people : Headcount) (answers seen : List Answer) (x : Answer) where
  -- one answer more, of which more than few people stand behind the extreme rows
  pub none_more : (first : Option FewRows) → IsLeastFewFound n people answers seen first → ¬ (AreFew people [] (extremes answers x)) →
      IsLeastFewFound n people answers (seen ++ x ∷ []) first
  none_more None before many = λ other one. elim (front_or_last seen x other one) [
    | inl earlier ↦ before other earlier
    | inr same ↦ subst (λ (a : Answer). ¬ (AreFew people [] (extremes answers a))) same many
  ]
  none_more (Some few) before many = record {
    answer = before.answer;
    one = one_of_front seen x before.answer before.one;
    are_few = before.are_few;
    named = before.named;
    least = λ other one are. elim (front_or_last seen x other one) [
      | inl earlier ↦ before.least other earlier are
      | inr same ↦ absurd (many (subst (λ (a : Answer). AreFew people [] (extremes answers a)) (sym same) are))
    ];
  }

  -- one whose extreme rows few stand behind
  pub one_more : (first : Option FewRows) (new few : FewRows) → IsLeastFewFound n people answers seen first → AreFew people [] (extremes answers x) →
      few ≡ name_of n people (extremes answers x) → IsFirstName first few new → IsLeastFew n people answers (seen ++ x ∷ []) new
  one_more None new few before are name is = record {
    answer = x;
    one = one_of_last seen x;
    are_few = are;
    named = sym (is ∙ name);
    least = λ other one others. elim (front_or_last seen x other one) [
      | inl earlier ↦ absurd (before other earlier others)
      | inr same ↦ subst (λ (a : Answer). ¬ (ComesBefore (name_of n people (extremes answers a)) new)) same
          (subst (λ (f : FewRows). ¬ (ComesBefore f new)) name (not_itself_first few new is))
    ];
  }
  one_more (Some old) new few before are name is =
      let none = not_before_first old few new is in
      let others : (other : Answer) → IsOneOf other (seen ++ x ∷ []) → AreFew people [] (extremes answers other) →
      ¬ (ComesBefore (name_of n people (extremes answers other)) new) = λ other one others. elim (front_or_last seen x other one) [
        | inl earlier ↦ λ sooner. before.least other earlier others (not_through other sooner)
        | inr same ↦ subst (λ (a : Answer). ¬ (ComesBefore (name_of n people (extremes answers a)) new)) same
            (subst (λ (f : FewRows). ¬ (ComesBefore f new)) name none)
      ] in
      elim is [
        | inl (same, sooner) ↦ record { answer = x; one = one_of_last seen x; are_few = are; named = sym (same ∙ name); least = others }
        | inr (same, later) ↦ record {
          answer = before.answer;
          one = one_of_front seen x before.answer before.one;
          are_few = before.are_few;
          named = before.named ∙ sym same;
          least = others;
        }
      ]
    where
      not_through : (other : Answer) → ComesBefore (name_of n people (extremes answers other)) new → ComesBefore (name_of n people (extremes answers other)) old
      not_through other sooner = through_first old few new (name_of n people (extremes answers other)) is sooner

  -- so with what was found of its extreme rows
  pub found_more : (first : Option FewRows) (left : Option Rows) (new : Option FewRows) → IsLeastFewFound n people answers seen first →
      AreFoundFew n people (extremes answers x) left → IsFirstWith people first left new → IsLeastFewFound n people answers (seen ++ x ∷ []) new
  found_more first None new before many is = subst (IsLeastFewFound n people answers (seen ++ x ∷ [])) (sym is) (none_more first before many)
  found_more first (Some rows) new before (rows_are, few) (name, found, is) =
      subst (IsLeastFewFound n people answers (seen ++ x ∷ [])) (sym found)
      (one_more first name (name_of rows.n people rows.list) before few (ap (λ (s : Rows). name_of s.n people s.list) rows_are) is)

-- an answer has some extreme row if all are possible
module _ (n : ℕ) (answers : List Answer) (formed : IsWellFormed (known_max n answers)) (consistent : IsConsistent answers) where
  not_none : (a : Answer) → IsOneOf a answers → extremes answers a ≢ []
  not_none a one none =
      let some = some_extreme answers consistent a one in
      let no = ap (λ rows. length rows) none in
      omega (arith, some, no)

  -- so the first name is one of the extreme rows of an answer
  pub first_is_name : (people : Headcount) → CountPeople n people → (few : FewRows) (least : IsLeastFew n people answers answers few) →
      IsNameOf n people (extremes answers least.answer) few
  first_is_name people count few least =
      subst (IsNameOf n people (extremes answers least.answer)) least.named
      (name_is n people count (extremes answers least.answer) (extreme_rows n answers formed.are_rows least.answer least.one)
      (not_none least.answer least.one))

-- what was found after a possible answer
module _ (n : ℕ) (people : Headcount) (before : List Answer) (rows : List ℕ) (answer : ℤ) where
  pub some_after : (found : Option FewRows) → IsConsistent (and_answer before rows answer) →
      IsLeastFewFound n people (and_answer before rows answer) (and_answer before rows answer) found →
      IfSome found (λ few. IsConsistent (and_answer before rows answer)
      × IsLeastFew n people (and_answer before rows answer) (and_answer before rows answer) few)
  some_after None possible least = tt
  some_after (Some few) possible least = (possible, least)

  pub none_after : (found : Option FewRows) → IsLeastFewFound n people (and_answer before rows answer) (and_answer before rows answer) found →
      IfNone found (¬ (LeavesFewPeople (guarding (known_max n before) people []) rows answer))
  none_after None none = λ leaves. none leaves.few.0 leaves.few.1 leaves.few.2
  none_after (Some few) least = tt
