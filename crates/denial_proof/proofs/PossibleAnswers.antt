-- An answer that an outlook lets pass is possible, if each answer before has extreme rows of more than few people.
use Rattle.std.proofs.Common.{ℕ, ◌<◌, ℤ, List, [], length, Option, Some, None, sym, subst, arith, inl, inr, ◌⊎◌}
use Rattle.std.specs.Prelude.{◌<ℤ◌, ◌≤ℤ◌}
use Rattle.std.proofs.lemmas.Int.{ints, by_lt_z}
use Rattle.audit_types.specs.Headcount.{Headcount, AreFew}
use Rattle.audit_types.specs.Column.{Answer, IsOneOf}
use Rattle.audit_types.specs.Extremes.{upper_bound, extremes, IsConsistent}
use Rattle.max_audit.specs.Candidates.{IsNearRange}
use Rattle.max_bounds.specs.AnswerLaws.{all_at, all_from, front_or_last}
use Rattle.max_bounds.specs.Few.{HasFewPeople}
use Rattle.max_bounds.specs.OneMoreLaws.{IsAtLeast, asked, with_asked, lower_keeps, higher_loses, asked_has}
use Rattle.max_bounds.specs.Outside.{outside}
use Rattle.max_bounds.specs.RowListLaws.{not_empty, some_length}
use Rattle.denial_proof.specs.declared.outlook.Outlook.{Outlook}
use Rattle.denial_proof.specs.Outlook.{reach_of, IsHeldWhole, IsOutlook, MayLeaveFew}

-- what is not above the reach of a row is not above its bound
at_most_reach : (x : ℤ) (bound : Option ℤ) → x ≤ℤ reach_of bound → IsAtLeast x bound
at_most_reach x None most = tt
at_most_reach x (Some b) most = most

module _ (answers : List Answer) (people : Headcount) (rows : List ℕ) (outlook : Outlook) (x : ℤ) (near : IsNearRange x)
    (few_none : AreFew people [] []) (none_few : ¬ (HasFewPeople people answers)) (is : IsOutlook answers people rows outlook)
    (passes : MayLeaveFew outlook x) where
  some_before : (a : Answer) → IsOneOf a answers → 0 < length (extremes answers a)
  some_before a one = some_length (extremes answers a) (λ none. none_few (a, one, subst (AreFew people []) (sym none) few_none))

  -- an answer above it isn't held whole
  some_outside : (a : Answer) → IsOneOf a answers → x <ℤ a.value → 0 < length (outside rows (extremes answers a))
  some_outside a one less =
      some_length (outside rows (extremes answers a))
      (elim (all_at (λ (b : Answer). (¬ (IsHeldWhole answers rows b)) ⊎ (b.value ≤ℤ outlook.holding.whole)) answers a is.holding.greatest one) [
        | inl some ↦ some
        | inr most ↦ let least = passes.whole in absurd (omega (arith, ints))
      ])

  of_earlier : (a : Answer) → IsOneOf a answers → 0 < length (extremes (with_asked answers rows x) a)
  of_earlier a one = by_lt_z x a.value
      (λ less. subst (λ (l : List ℕ). 0 < length l) (sym (higher_loses answers rows x a one less)) (some_outside a one less))
      (λ more. subst (λ (l : List ℕ). 0 < length l) (sym (lower_keeps answers rows x a one (omega (arith, ints)))) (some_before a one))

  of_asked : 0 < length (extremes (with_asked answers rows x) (asked answers rows x))
  of_asked = elim is.reach.reached [
    | inl none ↦ let least = near.low in let most = passes.reached in absurd (omega (arith, ints))
    | inr (r, there, high) ↦
        let most = passes.reached in
        not_empty (extremes (with_asked answers rows x) (asked answers rows x)) r
        (asked_has answers rows x r there (at_most_reach x (upper_bound answers r) (omega (arith, ints))))
  ]

  pub possible : IsConsistent (with_asked answers rows x)
  possible =
      all_from (λ (a : Answer). 0 < length (extremes (with_asked answers rows x) a)) (with_asked answers rows x) (λ a one.
      elim (front_or_last answers (asked answers rows x) a one) [
        | inl front ↦ of_earlier a front
        | inr same ↦ subst (λ (b : Answer). 0 < length (extremes (with_asked answers rows x) b)) same of_asked
      ])
