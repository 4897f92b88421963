-- What an outlook rules out leaves no answer extreme rows of few people: an answer that is possible and leaves such passes.
use Rattle.std.proofs.Common.{◌≡◌, ℕ, ◌<◌, true, ℤ, List, [], length, Option, Some, None, sym, ◌∙◌, subst, arith, inl, inr, ◌⊎◌}
use Rattle.std.specs.Prelude.{◌<ℤ◌, ◌≤ℤ◌}
use Rattle.std.proofs.lemmas.Int.{ints, by_lt_z}
use Rattle.audit_types.specs.Headcount.{Headcount, AreFew}
use Rattle.audit_types.specs.Column.{Answer, IsOneOf, known_max, guarding}
use Rattle.audit_types.specs.Extremes.{upper_bound, extremes}
use Rattle.max_audit.specs.Candidates.{IsNearRange}
use Rattle.max_audit.specs.Laws.{LeavesFewPeople}
use Rattle.max_bounds.specs.AnswerLaws.{one_of_front, one_of_last, front_or_last, some_extreme, all_at}
use Rattle.max_bounds.specs.Few.{HasFewPeople}
use Rattle.max_bounds.specs.Kept.{is_at_least}
use Rattle.max_bounds.specs.OneMoreLaws.{IsAtLeast, asked, with_asked, lower_keeps, higher_loses, has_asked}
use Rattle.max_bounds.specs.PeopleAmong.{people_grow}
use Rattle.max_bounds.specs.RowListLaws.{some_row}
use Rattle.denial_proof.specs.declared.outlook.Outlook.{Outlook}
use Rattle.denial_proof.specs.Outlook.{reach_of, HasMoreOutside, IsOutlook, MayLeaveFew}
use Rattle.denial_proof.proofs.FewLeft.{at_least, is_least, asked_left}

-- a row without a bound reaches every candidate, another one what is not above its bound
reach_up : (x : ℤ) (bound : Option ℤ) → IsNearRange x → IsAtLeast x bound → x ≤ℤ reach_of bound
reach_up x None near reaches = let most = near.high in omega (arith, ints)
reach_up x (Some b) near reaches = reaches

-- what is at least a number is at least each smaller one
lower_at_least : (low high : ℤ) (bound : Option ℤ) → low ≤ℤ high → is_at_least high bound ≡ true → is_at_least low bound ≡ true
lower_at_least low high bound less test = is_least low bound (by bound (at_least high bound test))
  where
    by : (b : Option ℤ) → IsAtLeast high b → IsAtLeast low b
    by None reaches = tt
    by (Some b) reaches = omega (arith, ints)

module _ (n : ℕ) (answers : List Answer) (people : Headcount) (rows : List ℕ) (outlook : Outlook) (x : ℤ) (near : IsNearRange x)
    (none_few : ¬ (HasFewPeople people answers)) (is : IsOutlook answers people rows outlook)
    (leaves : LeavesFewPeople (guarding (known_max n answers) people []) rows x) where
  -- so none above it was held whole
  whole_below : outlook.holding.whole ≤ℤ x
  whole_below = elim is.holding.whole [
    | inl none ↦ let least = near.low in omega (arith, ints)
    | inr (a, one, held, value) ↦ by_lt_z x a.value
        (λ less.
        let some = subst (λ (l : List ℕ). 0 < length l) (higher_loses answers rows x a one less ∙ held)
        (some_extreme (with_asked answers rows x) leaves.possible a (one_of_front answers (asked answers rows x) a one)) in
        absurd (omega (arith, some)))
        (λ more. omega (arith, ints))
  ]

  -- some row of the set reaches it
  reached : x ≤ℤ outlook.reach.top
  reached =
      let found = some_row (extremes (with_asked answers rows x) (asked answers rows x))
      (some_extreme (with_asked answers rows x) leaves.possible (asked answers rows x) (one_of_last answers (asked answers rows x))) in
      let there = has_asked answers rows x found.0 found.1 in
      let most = is.reach.top found.0 there.0 in
      let least = reach_up x (upper_bound answers found.0) near there.1 in
      omega (arith, ints)

  -- an earlier answer had more than few extreme rows before, so it is above the new one and has few left
  of_earlier : (a : Answer) → IsOneOf a answers → AreFew people [] (extremes (with_asked answers rows x) a) →
      (x <ℤ outlook.holding.stranded) ⊎ (outlook.reach.many <ℤ x)
  of_earlier a one few = by_lt_z x a.value
      (λ less.
      let left = subst (AreFew people []) (higher_loses answers rows x a one less) few in
      elim (all_at (λ (b : Answer). HasMoreOutside answers people rows b ⊎ (b.value ≤ℤ outlook.holding.stranded)) answers a is.holding.others one) [
        | inl more ↦ absurd (more left)
        | inr most ↦ inl (omega (arith, ints))
      ])
      (λ more. absurd (none_few (a, one, subst (AreFew people []) (lower_keeps answers rows x a one (omega (arith, ints))) few)))

  -- the new one has few because no more reach it
  of_asked : AreFew people [] (extremes (with_asked answers rows x) (asked answers rows x)) →
      (x <ℤ outlook.holding.stranded) ⊎ (outlook.reach.many <ℤ x)
  of_asked few = by_lt_z outlook.reach.many x
      (λ less. inr less)
      (λ more. elim is.reach.many [
        | inl none ↦ let least = near.low in absurd (omega (arith, ints))
        | inr many ↦
            let left = subst (AreFew people []) (asked_left n answers rows x) few in
            let no_more = people_grow people.counts (λ r. is_at_least outlook.reach.many (upper_bound answers r))
            (λ r. is_at_least x (upper_bound answers r)) rows
            (λ r there test. lower_at_least x outlook.reach.many (upper_bound answers r) more test) in
            absurd (many (omega (arith, left, no_more)))
      ])

  pub may_leave_few : MayLeaveFew outlook x
  may_leave_few = record {
    whole = whole_below;
    reached = reached;
    few = elim (front_or_last answers (asked answers rows x) leaves.few.0 leaves.few.1) [
      | inl one ↦ of_earlier leaves.few.0 one leaves.few.2
      | inr same ↦ of_asked (subst (λ (a : Answer). AreFew people [] (extremes (with_asked answers rows x) a)) (sym same) leaves.few.2)
    ];
  }
