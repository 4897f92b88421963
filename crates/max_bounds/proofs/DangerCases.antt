-- What the least count and the least sets tell of a question.
use Rattle.std.proofs.Common.{not, ◌+◌, ◌≡◌, ℕ, ◌<◌, ◌≤◌, List, [], ◌∷◌, length, map, refl, sym, ap, ◌∙◌, subst, arith, inl, inr}
use Rattle.std.specs.List.{AllByRecursion}
use Rattle.std.proofs.lemmas.Int.{ints}
use Rattle.std.proofs.lemmas.Bool.{cases_lt}
use Rattle.audit_types.specs.Rows.{has_row, AreRows}
use Rattle.audit_types.specs.Column.{Answer, IsOneOf}
use Rattle.audit_types.specs.Extremes.{upper_bound, extremes, IsConsistent, IsLone}
use Rattle.audit_types.specs.Headcount.{Headcount, CountPeople, AreFew, people_behind}
use Rattle.audit_types.specs.HeadcountLaws.{somebody_behind}
use Rattle.max_bounds.specs.Few.{HasFewPeople, HasFewHighest, HasNearlyHeld, IsFewByExtremes}
use Rattle.max_bounds.specs.PeopleAmong.{few_among}
use Rattle.max_bounds.specs.Outside.{outside}
use Rattle.max_bounds.specs.Kept.{fewest_of, TellsExtremes}
use Rattle.max_bounds.specs.AnswerLaws.{all_from, extreme_rows, some_extreme}
use Rattle.max_bounds.proofs.OutsideRows.{in_set, none_outside}
use Rattle.max_bounds.specs.RowListLaws.{filter-has, has-filter, filter-ascends}

-- the least count is at most each
fewest_below : (count : Answer → ℕ) (answers : List Answer) (a : Answer) → IsOneOf a answers → fewest_of (map count answers) ≤ count a
fewest_below count [] a one = absurd one
fewest_below count (b ∷ answers) a (inl same) = let is = ap count same in omega arith
fewest_below count (b ∷ answers) a (inr later) = let rest = fewest_below count answers a later in omega arith

-- and one of them, if it is small
fewest_reached : (count : Answer → ℕ) (answers : List Answer) → fewest_of (map count answers) < 65535 →
    (a : Answer) × IsOneOf a answers × (count a ≡ fewest_of (map count answers))
fewest_reached count [] small = absurd (omega arith)
fewest_reached count (b ∷ answers) small = elim (cases_lt (fewest_of (map count answers)) (count b)) [
  | inl less ↦ let found = fewest_reached count answers (omega arith) in let is = found.2 in (found.0, inr found.1, omega arith)
  | inr not ↦ (b, inl refl, omega arith)
]

-- as somebody stands behind each row, there are no fewer people than rows
pub somebody_each : (n : ℕ) (people : Headcount) → CountPeople n people → (rows : List ℕ) → length rows ≤ people_behind people.counts rows
somebody_each n people count [] = omega arith
somebody_each n people count (r ∷ rows) =
    let one = somebody_behind n people count r in let rest = somebody_each n people count rows in omega (arith, one, rest)

module _ (answers : List Answer) (counts : List ℕ) (fewest : ℕ) (sets : List Answer) (tells : TellsExtremes (extremes answers) answers counts fewest sets) where
  -- the least count, from the answers
  is : fewest ≡ fewest_of (map (λ a. length (extremes answers a)) answers)
  is = tells.fewest_is ∙ ap fewest_of tells.counted

  -- if it isn't 0, each answer has an extreme row
  pub consistent : 0 < fewest → IsConsistent answers
  consistent some = all_from (λ a. 0 < length (extremes answers a)) answers (λ a one.
      let low = fewest_below (λ b. length (extremes answers b)) answers a one in let same = is in omega arith)

  -- if it is 0, some answer has none
  pub not_consistent : fewest ≡ 0 → IsConsistent answers → ⊥
  not_consistent none all =
      let same = is in
      let found = fewest_reached (λ b. length (extremes answers b)) answers (omega arith) in
      let some = some_extreme answers all found.0 found.1 in
      let short = found.2 in
      absurd (omega arith)

  -- if it is more than 1, no row is lone
  pub none_lone : 1 < fewest → (r : ℕ) → IsLone answers r → ⊥
  none_lone more r (a, one, only) =
      let same = is in
      let low = fewest_below (λ b. length (extremes answers b)) answers a one in
      let short = ap length only in
      absurd (omega arith)

  module _ (n : ℕ) (are : AllByRecursion (λ a. AreRows n a.rows) answers) (people : Headcount) where
    -- the rows of a kept set ascend, as the extreme rows of an answer do
    kept_rows : (e : Answer) → IsOneOf e sets → AreRows n e.rows
    kept_rows e one = let source = tells.are_least.each e one in subst (AreRows n) source.3 (extreme_rows n answers are source.0 source.1)

    -- if there are no fewer extreme rows than that, with somebody behind each, no answer has few people
    pub none_few : (m : ℕ) → CountPeople m people → people.fewest + people.own ≤ fewest → HasFewPeople people answers → ⊥
    none_few m count more (a, one, few) =
        let same = is in
        let low = fewest_below (λ b. length (extremes answers b)) answers a one in
        let each = somebody_each m people count (extremes answers a) in
        absurd (omega (arith, same, low, each, few, more))

    module _ (rows : List ℕ) where
      -- a set that is nearly held is that of an answer that is
      pub held_answer : HasNearlyHeld people (λ a. a.rows) sets rows → HasNearlyHeld people (extremes answers) answers rows
      held_answer (e, held) =
          let found = tells.are_least.each e held.one in (
            found.0,
            record {
              one = found.1;
              some_left = λ none. held.some_left (ap (outside rows) (sym found.3) ∙ none);
              few_left = subst (λ l. AreFew people [] (outside rows l)) (sym found.3) held.few_left;
              lower = λ b one none.
                  let cover = tells.are_least.covered b one in
                  let less = held.lower cover.0 cover.1 (none_outside rows cover.0.rows
                  (λ r there. in_set rows (extremes answers b) r none (cover.3 r there))) in
                  let same_b = cover.2 in
                  let same_e = found.2 in
                  omega (arith, ints);
            },
          )

      -- and an answer that is has a set that is
      pub held_set : HasNearlyHeld people (extremes answers) answers rows → HasNearlyHeld people (λ a. a.rows) sets rows
      held_set (a, held) =
          let cover = tells.are_least.covered a held.one in
          let e = cover.0 in
          let source = tells.are_least.each e cover.1 in
          let value = cover.2 in (
            e,
            record {
              one = cover.1;
              some_left = λ none.
                  let low = held.lower source.0 source.1 (ap (outside rows) source.3 ∙ none) in
                  let same = source.2 in
                  absurd (omega (arith, ints));
              few_left = few_among people n [] (outside rows e.rows) (outside rows (extremes answers a))
                  (filter-ascends 0 n (λ r. not (has_row rows r)) e.rows (kept_rows e cover.1))
                  (filter-ascends 0 n (λ r. not (has_row rows r)) (extremes answers a) (extreme_rows n answers are a held.one))
                  (λ r there.
                  let found = filter-has (λ q. not (has_row rows q)) e.rows r there in
                  has-filter (λ q. not (has_row rows q)) (extremes answers a) r (cover.3 r found.0) found.1) held.few_left;
              lower = λ b one none.
                  let found = tells.are_least.each b one in
                  let low = held.lower found.0 found.1 (ap (outside rows) found.3 ∙ none) in
                  let same = found.2 in
                  omega (arith, ints);
            },
          )

    -- if no answer has few, few highest rows or a set that is nearly held decides
    pub decides : (rows : List ℕ) → (HasFewPeople people answers → ⊥) → IsFewByExtremes people answers rows →
        (HasFewHighest people (upper_bound answers) rows → ⊥) → HasNearlyHeld people (λ a. a.rows) sets rows
    decides rows none told not_highest = elim told.cause [
      | inl few ↦ absurd (none few)
      | inr other ↦ elim other [ inl highest ↦ absurd (not_highest highest) | inr held ↦ held_set rows held ]
    ]

    -- all rows of a list are outside no rows
    outside_none : (rows : List ℕ) → outside [] rows ≡ rows
    outside_none [] = refl
    outside_none (r ∷ rows) = ap (λ l. r ∷ l) (outside_none rows)

    -- a set that a question on no row nearly holds is one of few
    pub few_of_set : HasNearlyHeld people (λ a. a.rows) sets [] → HasFewPeople people answers
    few_of_set (e, held) =
        let source = tells.are_least.each e held.one in
        (source.0, source.1, subst (AreFew people []) (outside_none e.rows ∙ sym source.3) held.few_left)

    -- and if each answer has an extreme row, there is one if some answer has few
    pub set_of_few : IsConsistent answers → HasFewPeople people answers → HasNearlyHeld people (λ a. a.rows) sets []
    set_of_few all (a, one, few) =
        let cover = tells.are_least.covered a one in
        let e = cover.0 in (
          e,
          record {
            one = cover.1;
            some_left = λ none. some_in_set e cover.1 (sym (outside_none e.rows) ∙ none);
            few_left = subst (AreFew people []) (sym (outside_none e.rows))
                (few_among people n [] e.rows (extremes answers a) (kept_rows e cover.1) (extreme_rows n answers are a one) cover.3 few);
            lower = λ b among none. absurd (some_in_set b among (sym (outside_none b.rows) ∙ none));
          },
        )
      where
        some_in_set : (e : Answer) → IsOneOf e sets → e.rows ≡ [] → ⊥
        some_in_set e one none =
            let source = tells.are_least.each e one in
            let some = some_extreme answers all source.0 source.1 in
            let short : length (extremes answers source.0) ≡ 0 = ap length (source.3 ∙ none) in
            absurd (omega arith)
