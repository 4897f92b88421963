-- A maximum is dangerous exactly if the extreme rows of the answers before it tell so.
--
-- Few extreme rows of the new answer are among the highest rows of its set. Those of an earlier one were few, or are what the set leaves of it; then an
-- answer that loses all its rows cannot be above the new one. Conversely the greatest bound in the set leaves every extreme row, and no lower answer
-- has fewer rows of the set; and the number just below an answer leaves what is outside the set of it, and as much of all others as any
-- number below it does.
use Rattle.std.proofs.Common.{◌≡◌, ◌≢◌, ℕ, ◌<◌, ℤ, pos, Bool, true, false, not, List, [], length, refl, sym, ap, ◌∙◌, subst, arith, inl, inr, ◌⊎◌, Option, Some, None}
use Rattle.std.specs.Prelude.{◌↔◌, ◌<ℤ◌, ◌-ℤ◌, int_lt}
use Rattle.std.proofs.lemmas.Int.{ints, by_lt_z}
use Rattle.std.proofs.lemmas.Bool.{true≢false}
use Rattle.audit_types.specs.Headcount.{Headcount, AreFew}
use Rattle.audit_types.specs.Rows.{has_row, AreRows}
use Rattle.audit_types.specs.Column.{Answer, IsOneOf, known_max, guarding}
use Rattle.audit_types.specs.Extremes.{upper_bound, is_bound, extremes, IsConsistent}
use Rattle.audit_types.specs.ListLaws.{all-push}
use Rattle.max_bounds.specs.Outside.{outside}
use Rattle.max_bounds.specs.Few.{HasFewPeople, is_below_bound, HasFewHighest, IsNearlyHeld, IsFewByExtremes}
use Rattle.max_bounds.specs.PeopleAmong.{people_grow}
use Rattle.max_bounds.specs.AnswerLaws.{all_from, one_of_front, one_of_last, front_or_last, some_extreme}
use Rattle.max_bounds.specs.RowListLaws.{filter-has, has-filter, some_row, not_empty, some_length}
use Rattle.max_bounds.specs.BoundLaws.{exact_bound}
use Rattle.max_bounds.specs.OneMoreLaws.{IsAtLeast, asked, with_asked, lower_keeps, higher_loses, asked_has, has_asked}
use Rattle.max_audit.specs.Laws.{LeavesFewPeople, DangerousByExtremes}
use Rattle.max_audit.proofs.TopAnswers.{inside_or_all, IsTop, top_of, top_keeps, top_possible}
use Rattle.max_audit.proofs.DangerousByFewPeople.{dangerous_by_few_people}

-- a bound that isn't below one that is at least the answer is at least it
at_least_too : (x : ℤ) (o p : Option ℤ) → IsAtLeast x p → is_below_bound o p ≡ false → IsAtLeast x o
at_least_too x None p high e = tt
at_least_too x (Some b) None high e = absurd (true≢false e)
at_least_too x (Some b) (Some c) high e = omega (arith, ints)

not_true : (b : Bool) → not b ≡ true → b ≡ false
not_true true e = absurd cc
not_true false e = refl

module _ (people : Headcount) (answers : List Answer) (rows : List ℕ) where
  module _ (n : ℕ) (x : ℤ) (leaves : LeavesFewPeople (guarding (known_max n answers) people []) rows x) where
    before : (a : Answer) → IsOneOf a answers → 0 < length (extremes answers a)
    before a one =
        let now = some_extreme (with_asked answers rows x) leaves.possible a (one_of_front answers (asked answers rows x) a one) in
        by_lt_z x a.value
        (λ less.
        let lost = higher_loses answers rows x a one less in
        let left = some_row (outside rows (extremes answers a)) (subst (λ l. 0 < length l) lost now) in
        not_empty (extremes answers a) left.0 (filter-has (λ r. not (has_row rows r)) (extremes answers a) left.0 left.1).0)
        (λ no. subst (λ l. 0 < length l) (lower_keeps answers rows x a one (omega (arith, ints))) now)

    -- few extreme rows of the new answer are the highest
    highest_from : AreFew people [] (extremes (with_asked answers rows x) (asked answers rows x)) → HasFewHighest people (upper_bound answers) rows
    highest_from few =
        let hit = some_row (extremes (with_asked answers rows x) (asked answers rows x))
        (some_extreme (with_asked answers rows x) leaves.possible (asked answers rows x) (one_of_last answers (asked answers rows x))) in
        let own = has_asked answers rows x hit.0 hit.1 in
        let grows = people_grow people.counts (λ q. not (is_below_bound (upper_bound answers q) (upper_bound answers hit.0)))
        (λ q. is_bound (upper_bound (with_asked answers rows x) q) x) rows
        (λ q there high. (filter-has (λ s. is_bound (upper_bound (with_asked answers rows x) s) x) rows q
        (asked_has answers rows x q there (at_least_too x (upper_bound answers q) (upper_bound answers hit.0) own.1 (not_true _ high)))).1) in
        (hit.0, own.0, omega (arith, grows, few))

    earlier_from : (a : Answer) → IsOneOf a answers → AreFew people [] (extremes (with_asked answers rows x) a) →
        HasFewPeople people answers ⊎ ((p : Answer) × IsNearlyHeld people (extremes answers) answers rows p)
    earlier_from a one few = by_lt_z x a.value
        (λ less.
        let lost = higher_loses answers rows x a one less in
        inr (
          a,
          record {
            one = one;
            some_left = λ none.
                let now = some_extreme (with_asked answers rows x) leaves.possible a (one_of_front answers (asked answers rows x) a one) in
                let short = ap length (lost ∙ none) in
                absurd (omega arith);
            few_left = subst (AreFew people []) lost few;
            lower = λ b among none. by_lt_z x b.value
                (λ above.
                let now = some_extreme (with_asked answers rows x) leaves.possible b (one_of_front answers (asked answers rows x) b among) in
                let short = ap length (higher_loses answers rows x b among above ∙ none) in absurd (omega arith))
                (λ no. omega (arith, ints));
          },
        ))
        (λ no. inl (a, one, subst (AreFew people []) (lower_keeps answers rows x a one (omega (arith, ints))) few))

    to_extremes : IsFewByExtremes people answers rows
    to_extremes = record {
      consistent = all_from (λ a. 0 < length (extremes answers a)) answers before;
      cause = elim (front_or_last answers (asked answers rows x) leaves.few.0 leaves.few.1) [
        | inl front ↦ elim (earlier_from leaves.few.0 front leaves.few.2) [ inl few ↦ inl few | inr held ↦ inr (inr held) ]
        | inr last ↦ inr (inl (highest_from (subst (λ a. AreFew people [] (extremes (with_asked answers rows x) a)) (sym last) leaves.few.2)))
      ];
    }

  module _ (n : ℕ) (are : AreRows n rows) (some : rows ≢ []) (consistent : IsConsistent answers) where
    module _ (x : ℤ) (top : IsTop answers rows x) where
      few_stays : HasFewPeople people answers → LeavesFewPeople (guarding (known_max n answers) people []) rows x
      few_stays (a, one, few) = record {
        possible = top_possible n answers rows are some consistent x top;
        few = (
          a,
          one_of_front answers (asked answers rows x) a one,
          subst (AreFew people [])
              (sym (top_keeps n answers rows are some consistent x top a one)) few,
        );
      }

      -- a row at least the greatest answer isn't below another row
      not_below_top : (r q : ℕ) → has_row rows r ≡ true → has_row rows q ≡ true → (o p : Option ℤ) → upper_bound answers q ≡ o → upper_bound answers r ≡ p →
          IsAtLeast x o →
          is_below_bound o p ≡ false
      not_below_top r q r_there q_there None p e f high = refl
      not_below_top r q r_there q_there (Some b) None e f high = let less = top.free r q b f r_there q_there e in absurd (omega (arith, ints))
      not_below_top r q r_there q_there (Some b) (Some c) e f high =
          let low = top.under r c r_there f in
          elim (int_lt b c) as (λ t. int_lt b c ≡ t → t ≡ false) [
            | true ↦ λ less. absurd (omega (arith, ints))
            | false ↦ λ more. refl
          ] refl

      few_highest : HasFewHighest people (upper_bound answers) rows → LeavesFewPeople (guarding (known_max n answers) people []) rows x
      few_highest (r, there, few) =
          let grows = people_grow people.counts (λ q. is_bound (upper_bound (with_asked answers rows x) q) x)
          (λ q. not (is_below_bound (upper_bound answers q) (upper_bound answers r))) rows
          (λ q q_there reaches.
          let parts = has_asked answers rows x q (has_filter_of q q_there reaches) in
          ap not (not_below_top r q there q_there (upper_bound answers q) (upper_bound answers r) refl refl parts.1)) in
          record {
            possible = top_possible n answers rows are some consistent x top;
            few = (asked answers rows x, one_of_last answers (asked answers rows x), omega (arith, grows, few));
          }
        where
          has_filter_of : (q : ℕ) → has_row rows q ≡ true → is_bound (upper_bound (with_asked answers rows x) q) x ≡ true →
              has_row (extremes (with_asked answers rows x) (asked answers rows x)) q ≡ true
          has_filter_of q there reaches = has-filter (λ s. is_bound (upper_bound (with_asked answers rows x) s) x) rows q there reaches

    module _ (p : Answer) (held : IsNearlyHeld people (extremes answers) answers rows p) (e : ℕ) (extreme : has_row (extremes answers p) e ≡ true)
        (in_set : has_row rows e ≡ true) where
      x : ℤ
      x = p.value -ℤ pos 1

      still_some : (a : Answer) → IsOneOf a answers → 0 < length (extremes (with_asked answers rows x) a)
      unfolding x
      still_some a one = by_lt_z x a.value
          (λ less. subst (λ l. 0 < length l) (sym (higher_loses answers rows x a one less))
          (some_length (outside rows (extremes answers a)) (λ none. let low = held.lower a one none in absurd (omega (arith, ints)))))
          (λ no. subst (λ l. 0 < length l) (sym (lower_keeps answers rows x a one (omega (arith, ints)))) (some_extreme answers consistent a one))

      high_row : IsAtLeast x (upper_bound answers e)
      unfolding x
      high_row =
          let found = filter-has (λ r. is_bound (upper_bound answers r) p.value) p.rows e extreme in
          subst (IsAtLeast x) (sym (exact_bound (upper_bound answers e) p.value found.1)) (omega (arith, ints))

      few_left : LeavesFewPeople (guarding (known_max n answers) people []) rows x
      unfolding x
      few_left =
          let less : x <ℤ p.value = omega (arith, ints) in
          record {
            possible = all-push (λ a. 0 < length (extremes (with_asked answers rows x) a)) answers (asked answers rows x)
                (all_from (λ a. 0 < length (extremes (with_asked answers rows x) a)) answers still_some)
                (not_empty (extremes (with_asked answers rows x) (asked answers rows x)) e (asked_has answers rows x e in_set high_row));
            few = (
              p,
              one_of_front answers (asked answers rows x) p held.one,
              subst (AreFew people [])
                  (sym (higher_loses answers rows x p held.one less)) held.few_left,
            );
          }

    from_cause : HasFewPeople people answers ⊎
        (HasFewHighest people (upper_bound answers) rows ⊎ ((p : Answer) × IsNearlyHeld people (extremes answers) answers rows p)) →
        (x : ℤ) × LeavesFewPeople (guarding (known_max n answers) people []) rows x
    from_cause (inl few) = let top = top_of answers rows some in (top.0, few_stays top.0 top.1 few)
    from_cause (inr (inl highest)) = let top = top_of answers rows some in (top.0, few_highest top.0 top.1 highest)
    from_cause (inr (inr (p, held))) = elim (inside_or_all rows (extremes answers p)) [
      | inl (e, extreme, in_set) ↦ (x p held e extreme in_set, few_left p held e extreme in_set)
      | inr all ↦
          let top = top_of answers rows some in
          (top.0, few_stays top.0 top.1 (p, held.one, subst (AreFew people []) all held.few_left))
    ]

-- some answer leaves few exactly if the extreme rows of the answers before it tell so
few_by_extremes : (n : ℕ) (answers : List Answer) (people : Headcount) (rows : List ℕ) → AreRows n rows → rows ≢ [] →
    ((x : ℤ) × LeavesFewPeople (guarding (known_max n answers) people []) rows x) ↔ IsFewByExtremes people answers rows
few_by_extremes n answers people rows are some = (
  (λ found. to_extremes people answers rows n found.0 found.1),
  (λ told. from_cause people answers rows n are some told.consistent told.cause),
)

pub dangerous_by_extremes : DangerousByExtremes
dangerous_by_extremes n answers people rows well are some =
    let danger = dangerous_by_few_people n answers people rows well are some in
    let test = few_by_extremes n answers people rows are some in
    ((λ is. test.0 (danger.0 is)), (λ told. danger.1 (test.1 told)))
