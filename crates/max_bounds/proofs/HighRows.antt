-- The rows with high bounds stand for all if one of them counts.
use Rattle.std.proofs.Common.{◌≡◌, ℕ, zero, suc, ◌<◌, ◌≤◌, ℤ, Bool, true, false, cond, not, ◌&&◌, List, [], ◌∷◌, ◌++◌, take, drop, refl, sym, ap, ◌∙◌, subst, arith, inl, inr, Option, Some, None}
use Rattle.std.specs.Prelude.{◌↔◌, ◌<ℤ◌, ◌≤ℤ◌, int_lt}
use Rattle.std.specs.Int.{int_min}
use Rattle.std.specs.List.{filter, AllByRecursion}
use Rattle.std.proofs.lemmas.Int.{ints, clamps}
use Rattle.std.proofs.lemmas.Bool.{true≢false, cases_lt, cases_Bool, and_parts, and_from}
use Rattle.audit_types.specs.Rows.{has_row, AreRows, intersection, complement}
use Rattle.audit_types.specs.Extremes.{least_of}
use Rattle.audit_types.specs.RowLaws.{ascending_same, AreRows-rows_that, has-rows_that, has-rows_that_above}
use Rattle.audit_types.specs.Headcount.{Headcount, AreFew, people_behind}
use Rattle.audit_types.specs.WalkLaws.{row_within}
use Rattle.max_bounds.specs.Few.{is_below_bound, not_below, HasFewHighest}
use Rattle.max_bounds.specs.PeopleAmong.{people_grow}
use Rattle.max_bounds.specs.Kept.{is_at_least, is_above, rows_at_least, rows_above, IsHigh, AreLow}
use Rattle.max_bounds.specs.RowListLaws.{filter-has, has-filter, filter-ascends}
use Rattle.max_bounds.specs.declared.high_rows.HighRows.{HighRows}
use Rattle.max_bounds.proofs.LoweredSets.{same_test}

-- a bound that is not below a number
from_at_least : (b x : ℤ) → not (int_lt b x) ≡ true → x ≤ℤ b
from_at_least b x h = elim (int_lt b x) as (λ t. int_lt b x ≡ t → not t ≡ true → x ≤ℤ b) [
  | true ↦ λ less k. absurd (true≢false (sym k))
  | false ↦ λ more k. omega (arith, ints)
] refl h

to_at_least : (b x : ℤ) → x ≤ℤ b → not (int_lt b x) ≡ true
to_at_least b x low = elim (int_lt b x) as (λ t. int_lt b x ≡ t → not t ≡ true) [
  | true ↦ λ less. absurd (omega (arith, ints))
  | false ↦ λ more. refl
] refl

-- what is at least a number is at least each smaller one
lower_at_least : (o : Option ℤ) (cut answer : ℤ) → cut ≤ℤ answer → is_at_least answer o ≡ true → is_at_least cut o ≡ true
lower_at_least None cut answer low h = refl
lower_at_least (Some b) cut answer low h = let most = from_at_least b answer h in to_at_least b cut (omega (arith, ints))

-- and so is what is above it
above_at_least : (o : Option ℤ) (cut answer : ℤ) → cut ≤ℤ answer → is_above answer o ≡ true → is_at_least cut o ≡ true
above_at_least None cut answer low h = absurd (true≢false (sym h))
above_at_least (Some b) cut answer low h = to_at_least b cut (omega (arith, ints))

-- a row of both sets
of_both : (n : ℕ) (rows high : List ℕ) (r : ℕ) → has_row (intersection n rows high) r ≡ true → has_row rows r ≡ true
of_both n rows high r there = elim (cases_lt r n) [
  | inl below ↦ (and_parts (has_row rows r) (has_row high r) (sym (has-rows_that (λ q. has_row rows q && has_row high q) n r below) ∙ there)).0
  | inr above ↦ absurd (true≢false (sym there ∙ has-rows_that_above (λ q. has_row rows q && has_row high q) n r above))
]

in_both : (n : ℕ) (rows high : List ℕ) (r : ℕ) → AreRows n rows → has_row rows r ≡ true → has_row high r ≡ true → has_row (intersection n rows high) r ≡ true
in_both n rows high r are there here =
    has-rows_that (λ q. has_row rows q && has_row high q) n r (row_within n rows r are there) ∙ and_from (has_row rows r) (has_row high r) there here

-- a test that only high rows pass passes the same rows among them
narrow : (n : ℕ) (test : ℕ → Bool) (rows high : List ℕ) → AreRows n rows → ((r : ℕ) → r < n → test r ≡ true → has_row high r ≡ true) →
    filter test (intersection n rows high) ≡ filter test rows
narrow n test rows high are covers = ascending_same 0 n n (filter test (intersection n rows high)) (filter test rows)
    (filter-ascends 0 n test (intersection n rows high) (AreRows-rows_that (λ q. has_row rows q && has_row high q) n)) (filter-ascends 0 n test rows are)
    (λ r. same_test (has_row (filter test (intersection n rows high)) r) (has_row (filter test rows) r)
    (λ there. let found = filter-has test (intersection n rows high) r there in has-filter test rows r (of_both n rows high r found.0) found.1)
    (λ there. let found = filter-has test rows r there in
    has-filter test (intersection n rows high) r (in_both n rows high r are found.0 (covers r (row_within n rows r are found.0) found.1)) found.1))

module _ (n : ℕ) (bound : ℕ → Option ℤ) (high : HighRows) (is : IsHigh n bound high) (rows : List ℕ) (are : AreRows n rows) where
  -- if an answer isn't below the cut, what it does to the high rows is all
  pub same_at_least : (answer : ℤ) → high.cut ≤ℤ answer → rows_at_least bound answer (intersection n rows high.rows.list) ≡ rows_at_least bound answer rows
  same_at_least answer low =
      narrow n (λ r. is_at_least answer (bound r)) rows high.rows.list are
      (λ r below passes. is.covers r below (lower_at_least (bound r) high.cut answer low passes))

  pub same_above : (answer : ℤ) → high.cut ≤ℤ answer → rows_above bound answer (intersection n rows high.rows.list) ≡ rows_above bound answer rows
  same_above answer low =
      narrow n (λ r. is_above answer (bound r)) rows high.rows.list are
      (λ r below passes. is.covers r below (above_at_least (bound r) high.cut answer low passes))

  -- what isn't below a bound that is at least the cut is at least the cut
  not_below_cut : (o p : Option ℤ) → is_at_least high.cut p ≡ true → not (is_below_bound o p) ≡ true → is_at_least high.cut o ≡ true
  not_below_cut None p more passes = refl
  not_below_cut (Some b) None more passes = absurd (true≢false (sym passes))
  not_below_cut (Some b) (Some c) more passes =
      let most = from_at_least c high.cut more in let low = from_at_least b c passes in to_at_least b high.cut (omega (arith, ints))

  -- and not below a bound that is below the cut
  not_below_low : (o p : Option ℤ) → is_at_least high.cut o ≡ true → is_at_least high.cut p ≡ false → not (is_below_bound o p) ≡ true
  not_below_low None p more less = refl
  not_below_low (Some b) None more less = absurd (true≢false less)
  not_below_low (Some b) (Some c) more less =
      let most = from_at_least b high.cut more in
      to_at_least b c (elim (int_lt c high.cut) as (λ t. int_lt c high.cut ≡ t → not t ≡ false → c ≤ℤ b) [
        | true ↦ λ e k. omega (arith, ints)
        | false ↦ λ e k. absurd (true≢false k)
      ] refl less)

  -- the rows that aren't below a row that reaches the cut are all high
  same_not_below : (r : ℕ) → is_at_least high.cut (bound r) ≡ true → not_below bound (intersection n rows high.rows.list) r ≡ not_below bound rows r
  same_not_below r reaches = narrow n (λ q. not (is_below_bound (bound q) (bound r))) rows high.rows.list are
      (λ q below passes. is.covers q below (not_below_cut (bound q) (bound r) reaches passes))

  -- and behind them there are no more people than behind those not below a row that doesn't reach it
  fewer_above : (counts l : List ℕ) (t r : ℕ) → is_at_least high.cut (bound t) ≡ true → is_at_least high.cut (bound r) ≡ false →
      people_behind counts (not_below bound l t) ≤ people_behind counts (not_below bound l r)
  fewer_above counts l t r reaches low = people_grow counts (λ q. not (is_below_bound (bound q) (bound t))) (λ q. not (is_below_bound (bound q) (bound r))) l
      (λ q there passes. not_below_low (bound q) (bound r) (not_below_cut (bound q) (bound t) reaches passes) low)

  -- if one of the high rows reaches the cut, they tell whether few people stand behind the highest rows
  pub same_highest : (people : Headcount) (t : ℕ) → has_row (intersection n rows high.rows.list) t ≡ true → is_at_least high.cut (bound t) ≡ true →
      HasFewHighest people bound (intersection n rows high.rows.list) ↔ HasFewHighest people bound rows
  same_highest people t there reaches = (
    (λ (r, here, few). elim (cases_Bool (is_at_least high.cut (bound r))) [
      | inl high_one ↦ (r, of_both n rows high.rows.list r here, subst (AreFew people []) (same_not_below r high_one) few)
      | inr low ↦ (
        t,
        of_both n rows high.rows.list t there,
        (let fewer = fewer_above people.counts (intersection n rows high.rows.list) t r reaches low in
            let same = ap (people_behind people.counts) (same_not_below t reaches) in
            omega (arith, fewer, same, few)),
      )
    ]),
    (λ (r, here, few). elim (cases_Bool (is_at_least high.cut (bound r))) [
      | inl high_one ↦ (
        r,
        in_both n rows high.rows.list r are here (is.covers r (row_within n rows r are here) high_one),
        subst (AreFew people []) (sym (same_not_below r high_one)) few,
      )
      | inr low ↦ (
        t,
        there,
        (let fewer = fewer_above people.counts rows t r reaches low in
            let same = ap (people_behind people.counts) (same_not_below t reaches) in
            omega (arith, fewer, same, few)),
      )
    ]),
  )

-- a number that a row gets for its bound is not above the one before
fallen : (o : Option ℤ) (cut x : ℤ) → is_at_least x o ≡ true → is_at_least cut (Some x) ≡ true → is_at_least cut o ≡ true
fallen o cut x more reaches = lower_at_least o cut x (from_at_least x cut reaches) more

-- the high rows stay so as bounds fall
pub high_stays : (n : ℕ) (before after : ℕ → Option ℤ) (high : HighRows) (x : ℤ) (rows : List ℕ) → IsHigh n before high →
    ((r : ℕ) → after r ≡ cond (has_row (rows_at_least before x rows) r) (Some x) (before r)) → IsHigh n after high
high_stays n before after high x rows is settled = record {
  same_n = is.same_n;
  covers = λ r below reaches. is.covers r below (step r (has_row (rows_at_least before x rows) r) refl (sym (ap (is_at_least high.cut) (settled r)) ∙ reaches));
}
  where
    step : (r : ℕ) (b : Bool) → has_row (rows_at_least before x rows) r ≡ b → is_at_least high.cut (cond b (Some x) (before r)) ≡ true →
        is_at_least high.cut (before r) ≡ true
    step r true there reaches = fallen (before r) high.cut x (filter-has (λ q. is_at_least x (before q)) rows r there).1 reaches
    step r false there reaches = reaches

-- so do all, for all cuts
pub all_stay : (n : ℕ) (before after : ℕ → Option ℤ) (x : ℤ) (rows : List ℕ) (highs : List HighRows) → AllByRecursion (IsHigh n before) highs →
    ((r : ℕ) → after r ≡ cond (has_row (rows_at_least before x rows) r) (Some x) (before r)) → AllByRecursion (IsHigh n after) highs
all_stay n before after x rows [] all settled = tt
all_stay n before after x rows (h ∷ highs) all settled = (high_stays n before after h x rows all.0 settled, all_stay n before after x rows highs all.1 settled)

-- one more among all
pub all_inserted : {X : Type 0} (P : X → Type 0) (xs : List X) (i : ℕ) (x : X) → AllByRecursion P xs → P x → AllByRecursion P (take i xs ++ x ∷ drop i xs)
all_inserted P [] zero x all p = (p, tt)
all_inserted P [] (suc i) x all p = (p, tt)
all_inserted P (y ∷ xs) zero x all p = (p, all)
all_inserted P (y ∷ xs) (suc i) x all p = (all.0, all_inserted P xs i x all.1 p)

-- the high rows of a cut stay so without rows whose bounds are below it
pub low_leave : (n : ℕ) (bound : ℕ → Option ℤ) (before after : HighRows) (answer : ℤ) (others rows : List ℕ) → after.rows.n ≡ before.rows.n →
    after.cut ≡ before.cut →
    after.rows.list ≡ intersection before.rows.n before.rows.list others → others ≡ complement n rows → answer <ℤ before.cut → AreLow bound answer rows →
    IsHigh n bound before → IsHigh n bound after
low_leave n bound before after answer others rows same cut both are higher low is = record {
  same_n = same ∙ is.same_n;
  covers = λ r below reaches.
      let high : is_at_least before.cut (bound r) ≡ true = ap (λ x. is_at_least x (bound r)) (sym cut) ∙ reaches in
      let there : has_row before.rows.list r ≡ true = is.covers r below high in
      let small : r < before.rows.n = omega (arith, is.same_n) in
      ap (λ l. has_row l r) both ∙ has-rows_that (λ q. has_row before.rows.list q && has_row others q) before.rows.n r small
      ∙ ap (λ b. b && has_row others r) there ∙ ap (λ l. has_row l r) are ∙ has-rows_that (λ q. not (has_row rows q)) n r below
      ∙ gone r high (has_row rows r) refl;
}
  where
    gone : (r : ℕ) → is_at_least before.cut (bound r) ≡ true → (b : Bool) → has_row rows r ≡ b → not b ≡ true
    gone r high true there = absurd (true≢false (sym high ∙ low r before.cut there higher))
    gone r high false there = refl

-- a number below a cut isn't at least the cut
under_cut : (b cut : ℤ) → b <ℤ cut → not (int_lt b cut) ≡ false
under_cut b cut less = elim (int_lt b cut) as (λ t. int_lt b cut ≡ t → not t ≡ false) [
  | true ↦ λ yes. refl
  | false ↦ λ no. absurd (omega (arith, ints))
] refl

-- nor is the bound of a row that has an answer below it
pub least_low : (o : Option ℤ) (x cut : ℤ) → x <ℤ cut → is_at_least cut (Some (least_of x o)) ≡ false
least_low None x cut higher = under_cut x cut higher
least_low (Some b) x cut higher = under_cut (int_min x b) cut (omega (arith, ints, clamps))

-- what holds of all of either list
pub of_either : {X : Type 0} (P : X → Type 0) (b : Bool) (xs ys : List X) → AllByRecursion P xs → AllByRecursion P ys → AllByRecursion P (cond b xs ys)
of_either P true xs ys one other = one
of_either P false xs ys one other = other
