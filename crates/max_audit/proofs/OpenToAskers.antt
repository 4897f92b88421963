-- What few people have is open to each asker, unless few people stand behind the extreme rows of some answer.
--
-- Let each row have its bound, or the high end where that is less or it has none; but the asker's own rows their numbers, and the rows of the few x. No
-- number is above an answer over a set with its row. So the answers stay if each has an extreme row beside those two sets. If one hasn't,
-- its extreme rows are among both: fewer people stand behind the few and the asker's own than are guarded.
use Rattle.std.proofs.Common.{◌≡◌, ◌≢◌, ℕ, zero, suc, ◌==◌, ◌+◌, ◌<◌, ◌≤◌, Bool, true, false, cond, not, ◌||◌, ℤ, pos, List, [], ◌∷◌, map, length, refl, sym, ap, ◌∙◌, subst, arith, inl, inr, ◌⊎◌, Option, Some, None}
use Rattle.std.specs.Prelude.{◌≤ℤ◌, ◌-ℤ◌}
use Rattle.std.specs.List.{AllByRecursion, range_with_len, filter}
use Rattle.std.specs.Int.{int_max, int_min}
use Rattle.std.proofs.lemmas.Int.{ints, clamps}
use Rattle.std.proofs.lemmas.Bool.{cases_lt, cases_Bool, or_cases, true≢false, eq-eqb, ne_eqb}
use Rattle.std.proofs.lemmas.List.FromFn.{length-map-range_with_len, get_or-map-range_with_len}
use Rattle.audit_types.specs.Headcount.{Headcount, AreFew, count_at, people_behind}
use Rattle.audit_types.specs.Rows.{has_row, AreRows, AscendsFrom}
use Rattle.audit_types.specs.RowLaws.{has_first}
use Rattle.audit_types.specs.WalkLaws.{row_within, has_later, first_or_later}
use Rattle.audit_types.specs.GreatestLaws.{bound_and_reached, greatest_is}
use Rattle.audit_types.specs.Truth.{number_at, greatest_over}
use Rattle.audit_types.specs.Column.{Known, Answer, Agrees, AreOwn, AreSameAt, IsGuarded, number, greatest, total, IsOneOf, IsWellFormed, known_max, guarding}
use Rattle.audit_types.specs.Extremes.{least_of, upper_bound, is_bound, extremes}
use Rattle.audit_types.specs.Numbers.{zero_or_not}
use Rattle.max_bounds.specs.AnswerLaws.{all_at, all_from, one_or_none, rows_of, extreme_rows}
use Rattle.max_bounds.specs.BoundLaws.{bound_below, exact_bound}
use Rattle.max_bounds.specs.RowListLaws.{filter-has, filter-ascends}
use Rattle.max_bounds.specs.Few.{HasFewPeople}
use Rattle.max_bounds.specs.PeopleAmong.{people_among, people_parted}
use Rattle.max_audit.specs.Knowing.{IsOpenTo, IsFreeFor, IsRaised, FewOrAny, FewOrOpen}
use Rattle.max_audit.proofs.UpperBounds.{below_bound}

-- the least of a number and a bound is what both are at least
least_at_least : (high x : ℤ) (o : Option ℤ) → x ≤ℤ high → ((b : ℤ) → o ≡ Some b → x ≤ℤ b) → x ≤ℤ least_of high o
least_at_least high x None h k = h
least_at_least high x (Some b) h k = let bound = k b refl in omega (arith, ints, clamps)

least_at_most : (high : ℤ) (o : Option ℤ) → least_of high o ≤ℤ high
least_at_most high None = omega (arith, ints)
least_at_most high (Some b) = omega (arith, ints, clamps)

least_below : (high b top : ℤ) (o : Option ℤ) → o ≡ Some b → b ≤ℤ top → least_of high o ≤ℤ top
least_below high b top o e h = rw e (omega (arith, ints, clamps))

least_is : (high b : ℤ) (o : Option ℤ) → o ≡ Some b → b ≤ℤ high → least_of high o ≡ b
least_is high b o e h = rw e (omega (arith, ints, clamps))

-- each row of a list passes a test, or one doesn't
all_or_other : (test : ℕ → Bool) (rows : List ℕ) →
    ((r : ℕ) → has_row rows r ≡ true → test r ≡ true) ⊎ ((e : ℕ) × (has_row rows e ≡ true) × (test e ≡ false))
all_or_other test [] = inl (λ r there. absurd (true≢false (sym there)))
all_or_other test (x ∷ rows) = elim (cases_Bool (test x)) [
  | inr out ↦ inr (x, has_first x rows, out)
  | inl here ↦ elim (all_or_other test rows) [
    | inl all ↦ inl (λ r there. elim (first_or_later x r rows there) [ inl same ↦ ap test (sym same) ∙ here | inr later ↦ all r later ])
    | inr (e, there, out) ↦ inr (e, has_later x e rows there, out)
  ]
]

-- of two tests that don't pass each fails
not_either : (a b : Bool) → (a || b) ≡ false → (a ≡ false) × (b ≡ false)
not_either true b e = absurd (true≢false e)
not_either false b e = (refl, e)

-- no more people stand behind rows of one person each than there are rows
one_each : (counts rows : List ℕ) → AllByRecursion (λ r. count_at counts r ≤ 1) rows → people_behind counts rows ≤ length rows
one_each counts [] all = omega arith
one_each counts (r ∷ rows) all = let rest = one_each counts rows all.1 in omega (arith, all.0, rest)

-- behind rows that are among two lists there are no more people than behind both
module _ (counts : List ℕ) (n : ℕ) (some own rows : List ℕ) (are_some : AreRows n some) (are_own : AreRows n own) (are : AreRows n rows)
    (all : (r : ℕ) → has_row some r ≡ true → (has_row own r || has_row rows r) ≡ true) where
  inside : people_behind counts (filter (λ r. has_row rows r) some) ≤ people_behind counts rows
  inside = people_among counts 0 n (filter (λ r. has_row rows r) some) rows (filter-ascends 0 n (λ r. has_row rows r) some are_some) are
      (λ r there. (filter-has (λ q. has_row rows q) some r there).1)

  is_own : (a b : Bool) → (a || b) ≡ true → not b ≡ true → a ≡ true
  is_own a b either out = elim (or_cases a b either) [ inl mine ↦ mine | inr here ↦ absurd (true≢false (sym out ∙ ap not here)) ]

  outside_own : people_behind counts (filter (λ r. not (has_row rows r)) some) ≤ people_behind counts own
  outside_own = people_among counts 0 n (filter (λ r. not (has_row rows r)) some) own (filter-ascends 0 n (λ r. not (has_row rows r)) some are_some) are_own
      (λ r there.
      let found = filter-has (λ q. not (has_row rows q)) some r there in
      is_own (has_row own r) (has_row rows r) (all r found.0) found.1)

  no_more_people : people_behind counts some ≤ people_behind counts rows + people_behind counts own
  no_more_people = let parts = people_parted counts (λ r. has_row rows r) some in omega (arith, inside, outside_own)

module _ (n : ℕ) (answers : List Answer) (people : Headcount) (w : List ℤ) (own rows : List ℕ) (high x : ℤ) (well : IsWellFormed (known_max n answers))
    (agrees : Agrees (known_max n answers) w) (are_own : AreOwn (guarding (known_max n answers) people []) own) (are : AreRows n rows)
    (apart : AllByRecursion (λ q. has_row rows q ≡ false) own) (few : AreFew people own rows) (free : IsFreeFor n answers w rows high x) where
  -- the own numbers, x at the rows, and each other row at its bound, as far as the high end lets it
  abbrev number_of : ℕ → ℤ
  number_of r = cond (has_row own r) (number_at w r) (cond (has_row rows r) x (least_of high (upper_bound answers r)))

  abbrev raised : List ℤ
  raised = map number_of (range_with_len 0 n)

  number_raised : (r : ℕ) → r < n → number_at raised r ≡ number_of r
  number_raised r l = get_or-map-range_with_len number_of 0 n r r (pos 0) l (omega arith)

  full : (a : Answer) → IsOneOf a answers → a.rows ≢ []
  full a one = all_at (λ b. b.rows ≢ []) answers a well.some one

  gives : (a : Answer) → IsOneOf a answers → greatest_over w a.rows ≡ a.value
  gives a one = all_at (λ b. greatest_over w b.rows ≡ b.value) answers a agrees.same one

  -- no answer is above the high end: some row of the table has it
  answer_under : (a : Answer) → IsOneOf a answers → a.value ≤ℤ high
  answer_under a one =
      let hit = (bound_and_reached w a.rows (full a one)).1 in
      let top = free.under hit.0 (row_within n a.rows hit.0 (rows_of n answers well.are_rows a one) hit.1) in
      let is = gives a one in
      let same = hit.2 in
      omega (arith, ints)

  no_number_above : (a : Answer) → IsOneOf a answers → (r : ℕ) → has_row a.rows r ≡ true → number_of r ≤ℤ a.value
  no_number_above a one r there = by (has_row own r) (has_row rows r) refl
    where
      by : (mine here : Bool) → has_row rows r ≡ here → cond mine (number_at w r) (cond here x (least_of high (upper_bound answers r))) ≤ℤ a.value
      by true here e = let most = (bound_and_reached w a.rows (full a one)).0 r there in let is = gives a one in omega (arith, ints)
      by false true e = all_at (λ b. (q : ℕ) → has_row rows q ≡ true → has_row b.rows q ≡ true → x ≤ℤ b.value) answers a free.below one r e there
      by false false e =
          let bound = bound_below answers a r one there in
          least_below high bound.0 a.value (upper_bound answers r) bound.1 bound.2

  -- an answer with an extreme row beside the own rows and these stays
  stays : (a : Answer) → IsOneOf a answers → (e : ℕ) → has_row (extremes answers a) e ≡ true → (has_row own e || has_row rows e) ≡ false →
      greatest_over raised a.rows ≡ a.value
  stays a one e there out =
      let extreme = filter-has (λ r. is_bound (upper_bound answers r) a.value) a.rows e there in
      let not = not_either (has_row own e) (has_row rows e) out in
      let below : (r : ℕ) → has_row a.rows r ≡ true → r < n = λ r in_set. row_within n a.rows r (rows_of n answers well.are_rows a one) in_set in
      greatest_is raised a.rows a.value e (full a one)
      (λ r in_set. subst (λ z. z ≤ℤ a.value) (sym (number_raised r (below r in_set))) (no_number_above a one r in_set)) extreme.0
      (number_raised e (below e extreme.0)
      ∙ ap (λ b. cond b (number_at w e) (cond (has_row rows e) x (least_of high (upper_bound answers e)))) not.0
      ∙ ap (λ b. cond b x (least_of high (upper_bound answers e))) not.1
      ∙ least_is high a.value (upper_bound answers e) (exact_bound (upper_bound answers e) a.value extreme.1) (answer_under a one))

  -- of an answer without one few people stand behind the extreme rows
  few_behind : (a : Answer) → IsOneOf a answers → ((r : ℕ) → has_row (extremes answers a) r ≡ true → (has_row own r || has_row rows r) ≡ true) →
      AreFew people [] (extremes answers a)
  few_behind a one all =
      let among = no_more_people people.counts n (extremes answers a) own rows
      (extreme_rows n answers well.are_rows a one) are_own.0 are all in
      let mine = one_each people.counts own are_own.2 in
      omega (arith, among, mine, few)

  -- whether a row is one of the own rows, or of these
  abbrev is_held : ℕ → Bool
  is_held r = has_row own r || has_row rows r

  -- an own row has its number
  own_same : (held : List ℕ) → AscendsFrom 0 n held → ((q : ℕ) → has_row held q ≡ true → has_row own q ≡ true) → AreSameAt held w raised
  own_same held ascends all = go 0 held ascends all
    where
      go : (low : ℕ) (some : List ℕ) → AscendsFrom low n some → ((q : ℕ) → has_row some q ≡ true → has_row own q ≡ true) → AreSameAt some w raised
      go low [] up all = tt
      go low (q ∷ some) up all = (
        number_raised q up.1 ∙ ap (λ b. cond b (number_at w q) (cond (has_row rows q) x (least_of high (upper_bound answers q)))) (all q (has_first q some)),
        go (q + 1) some up.2 (λ r there. all r (has_later q r some there)),
      )

  -- these rows are none of the own
  not_own : (held : List ℕ) → AllByRecursion (λ q. has_row rows q ≡ false) held → (r : ℕ) → has_row rows r ≡ true → has_row held r ≡ false
  not_own held all r there = elim (cases_Bool (has_row held r)) [ inr out ↦ out | inl mine ↦ absurd (true≢false (sym there ∙ none held all mine)) ]
    where
      none : (some : List ℕ) → AllByRecursion (λ q. has_row rows q ≡ false) some → has_row some r ≡ true → has_row rows r ≡ false
      none [] all mine = absurd (true≢false (sym mine))
      none (q ∷ some) all mine = elim (first_or_later q r some mine) [ inl same ↦ ap (has_row rows) (sym same) ∙ all.0 | inr later ↦ none some all.1 later ]

  few_or_raised : HasFewPeople people answers ⊎ IsRaised n answers w own rows high x
  few_or_raised = elim (one_or_none (λ a. (r : ℕ) → has_row (extremes answers a) r ≡ true → is_held r ≡ true)
      (λ a. (e : ℕ) × (has_row (extremes answers a) e ≡ true) × (is_held e ≡ false)) (λ a. all_or_other is_held (extremes answers a)) answers) [
        | inl (a, one, all) ↦ inl (a, one, few_behind a one all)
        | inr other ↦ inr (record {
          other = raised;
          agrees = record {
            one_each = length-map-range_with_len number_of 0 n;
            same = all_from (λ a. greatest_over raised a.rows ≡ a.value) answers (λ a one. let hit = other a one in stays a one hit.0 hit.1 hit.2);
          };
          same = own_same own are_own.0 (λ q there. there);
          here = λ r l there.
              number_raised r l
              ∙ ap (λ b. cond b (number_at w r) (cond (has_row rows r) x (least_of high (upper_bound answers r)))) (not_own own apart r there)
              ∙ ap (λ b. cond b x (least_of high (upper_bound answers r))) there;
          others = λ r l out. subst (λ z. (number_at w r ≤ℤ z) × (z ≤ℤ high)) (sym (number_raised r l)) (between r l (has_row own r) (has_row rows r) out);
        })
      ]
    where
      between : (r : ℕ) → r < n → (mine here : Bool) → here ≡ false →
          (number_at w r ≤ℤ cond mine (number_at w r) (cond here x (least_of high (upper_bound answers r))))
          × (cond mine (number_at w r) (cond here x (least_of high (upper_bound answers r))) ≤ℤ high)
      between r l true here out = (omega (arith, ints), free.under r l)
      between r l false true out = absurd (true≢false out)
      between r l false false out = (
        least_at_least high (number_at w r) (upper_bound answers r) (free.under r l) (λ b e. below_bound w answers r b agrees.same e),
        least_at_most high (upper_bound answers r),
      )

-- ---- whatever is guarded

pub few_or_any : FewOrAny
few_or_any n answers people w own rows high x well agrees are_own are apart few free =
    few_or_raised n answers people w own rows high x well agrees are_own are apart few free

-- some number is above all of a list
above_all : (w : List ℤ) (n : ℕ) → (high : ℤ) × ((r : ℕ) → r < n → number_at w r ≤ℤ high)
above_all w zero = (pos 0, λ r l. absurd (omega (arith, l)))
above_all w (suc n) =
    let before = above_all w n in (
      int_max before.0 (number_at w n),
      λ r l. elim (cases_lt r n) [
        | inl less ↦ let low = before.1 r less in omega (arith, ints, clamps)
        | inr last ↦ let same : n ≡ r = omega (arith, l, last) in
            subst (λ k. number_at w k ≤ℤ int_max before.0 (number_at w n)) same (omega (arith, ints, clamps))
      ],
    )

-- and some is above none of the answers, nor of another number
below_answers : (high : ℤ) (answers : List Answer) → (x : ℤ) × (x ≤ℤ high) × AllByRecursion (λ a. x ≤ℤ a.value) answers
below_answers high [] = (high, omega (arith, ints), tt)
below_answers high (a ∷ answers) =
    let rest = below_answers high answers in (
      int_min a.value rest.0,
      (let low = rest.1 in omega (arith, ints, clamps)),
      (
        omega (arith, ints, clamps),
        all_from (λ b. int_min a.value rest.0 ≤ℤ b.value) answers
            (λ b one. let low = all_at (λ c. rest.0 ≤ℤ c.value) answers b rest.2 one in omega (arith, ints, clamps)),
      ),
    )

-- two numbers that differ: one of them isn't a third
one_differs : (y z v : ℤ) → y ≢ z → (y ≢ v) ⊎ (z ≢ v)
one_differs y z v apart = elim (zero_or_not (y -ℤ v)) [
  | inl none ↦ inr (λ same. apart (omega (arith, ints)))
  | inr some ↦ inl (λ same. some (omega (arith, ints)))
]

-- the greatest over rows that all have one number is that
greatest_of_same : (v : List ℤ) (n : ℕ) (rows : List ℕ) (x : ℤ) → AreRows n rows → rows ≢ [] → ((r : ℕ) → r < n → has_row rows r ≡ true → number_at v r ≡ x) →
    greatest_over v rows ≡ x
greatest_of_same v n rows x are some all =
    let hit = (bound_and_reached v rows some).1 in
    sym hit.2 ∙ all hit.0 (row_within n rows hit.0 are hit.1) hit.1

module _ (n : ℕ) (answers : List Answer) (people : Headcount) (w : List ℤ) (well : IsWellFormed (known_max n answers))
    (agrees : Agrees (known_max n answers) w) where
  abbrev known : Known
  known = guarding (known_max n answers) people []

  abbrev high : ℤ
  high = (above_all w n).0

  -- a number that other rows of few people may have, and one less
  abbrev low : ℤ
  low = (below_answers high answers).0

  low_free : (rows : List ℕ) → IsFreeFor n answers w rows high low
  low_free rows = record {
    under = (above_all w n).1;
    within = (below_answers high answers).1;
    below = all_from (λ a. (r : ℕ) → has_row rows r ≡ true → has_row a.rows r ≡ true → low ≤ℤ a.value) answers
        (λ a one r here there. all_at (λ b. low ≤ℤ b.value) answers a (below_answers high answers).2 one);
  }

  lower_free : (rows : List ℕ) → IsFreeFor n answers w rows high (low -ℤ pos 1)
  lower_free rows = record {
    under = (above_all w n).1;
    within = (let most = (below_answers high answers).1 in omega (arith, ints));
    below = all_from (λ a. (r : ℕ) → has_row rows r ≡ true → has_row a.rows r ≡ true → (low -ℤ pos 1) ≤ℤ a.value) answers
        (λ a one r here there. let most = all_at (λ b. low ≤ℤ b.value) answers a (below_answers high answers).2 one in omega (arith, ints));
  }

  -- the greatest number over other rows of few people is open
  greatest_open : (own rows : List ℕ) → AreOwn known own → AreRows n rows → rows ≢ [] → AllByRecursion (λ q. has_row rows q ≡ false) own →
      AreFew people own rows → HasFewPeople people answers ⊎ IsOpenTo known own w (λ v. greatest_over v rows)
  greatest_open own rows are_own are some apart few = elim (few_or_any n answers people w own rows high low well agrees are_own are apart few (low_free rows)) [
    | inl behind ↦ inl behind
    | inr first ↦ elim (few_or_any n answers people w own rows high (low -ℤ pos 1) well agrees are_own are apart few (lower_free rows)) [
      | inl behind ↦ inl behind
      | inr second ↦
          let one = greatest_of_same first.other n rows low are some first.here in
          let other = greatest_of_same second.other n rows (low -ℤ pos 1) are some second.here in
          elim (one_differs low (low -ℤ pos 1) (greatest_over w rows) (λ e. absurd (omega (arith, ints)))) [
            | inl differs ↦ inr (record {
              other = first.other;
              agrees = record { one_each = first.agrees.one_each; same = first.agrees.same };
              same = first.same;
              differs = λ e. differs (sym one ∙ e);
            })
            | inr differs ↦ inr (record {
              other = second.other;
              agrees = record { one_each = second.agrees.one_each; same = second.agrees.same };
              same = second.same;
              differs = λ e. differs (sym other ∙ e);
            })
          ]
    ]
  ]

  -- rows that a list lacks are none of its
  none_of : (row : ℕ) (own : List ℕ) → has_row own row ≡ false → AllByRecursion (λ q. has_row (row ∷ []) q ≡ false) own
  none_of row [] out = tt
  none_of row (q ∷ own) out =
      let parts = not_either (q == row) (has_row own row) out in (
        ap (λ b. b || false) (ne_eqb row q (λ same. true≢false (sym (eq-eqb q row (sym same)) ∙ parts.0))),
        none_of row own parts.1,
      )

  -- and so is each number of few people
  open_here : (own : List ℕ) {value : List ℤ → ℤ} → AreOwn known own → IsGuarded known own value → HasFewPeople people answers ⊎ IsOpenTo known own w value
  open_here own are_own (number row below other few) =
      greatest_open own (row ∷ []) are_own (omega arith, below, tt) (λ e. cc) (none_of row own other) few
  open_here own are_own (greatest rows is are some apart few) = greatest_open own rows are_own are some apart few
  open_here own are_own (total group row one inside other) = let k = one.1 in absurd (omega arith)

pub few_or_open : FewOrOpen
few_or_open n answers people w well agrees = elim (has_few_or_not people answers) [
  | inl few ↦ inl few
  | inr none ↦ inr (λ own value are_own guarded. elim (open_here n answers people w well agrees own are_own guarded) [
    | inl few ↦ absurd (none few)
    | inr is ↦ is
  ])
]
  where
    has_few_or_not : (people : Headcount) (answers : List Answer) → HasFewPeople people answers ⊎ (HasFewPeople people answers → ⊥)
    has_few_or_not people answers = elim (one_or_none (λ a. AreFew people [] (extremes answers a)) (λ a. AreFew people [] (extremes answers a) → ⊥)
        (λ a. elim (cases_lt (people_behind people.counts (extremes answers a) + 0) (people.fewest + people.own)) [
          | inl few ↦ inl few
          | inr many ↦ inr (λ few. omega (arith, many, few))
        ]) answers) [
          | inl found ↦ inl found
          | inr none ↦ inr (λ found. none found.0 found.1 found.2)
        ]
