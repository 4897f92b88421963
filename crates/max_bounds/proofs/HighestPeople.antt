-- The highest bound of the rows so far, and how many people are missing behind those that have it.
use Rattle.std.proofs.Common.{◌≡◌, ℕ, ◌+◌, ◌-◌, ◌<◌, ◌≤◌, append-nil, ℤ, Bool, true, false, not, List, [], ◌∷◌, ◌++◌, refl, sym, ap, ◌∙◌, subst, arith, inl, inr, ◌⊎◌, Option, Some, None}
use Rattle.std.specs.Prelude.{◌↔◌, int_lt}
use Rattle.std.specs.List.{filter}
use Rattle.std.specs.Ordering.{int_eq}
use Rattle.std.specs.Option.{option_eq}
use Rattle.std.proofs.lemmas.Int.{ints}
use Rattle.std.proofs.lemmas.Bool.{true≢false}
use Rattle.audit_types.specs.Rows.{has_row}
use Rattle.audit_types.specs.RowLaws.{has_first}
use Rattle.max_bounds.specs.Outside.{IsBelowBound}
use Rattle.audit_types.specs.Headcount.{Headcount, count_at, people_behind}
use Rattle.max_bounds.specs.Few.{is_below_bound, not_below, HasFewHighest}
use Rattle.max_bounds.specs.PeopleAmong.{people_grow, people_together}
use Rattle.std.proofs.lemmas.List.Elements.{filter-append}
use Rattle.audit_types.specs.WalkLaws.{first_or_later, has-push, has-front, has-last}
use Rattle.max_bounds.proofs.Walks.{filter-push, filter-none, equal_bounds, other_bounds}
use Rattle.max_bounds.proofs.HighestBounds.{never_below, not_both, below_higher, below_or_not}

-- bounds that are equal pass the test, and others don't
same_bounds : (o p : Option ℤ) → o ≡ p → option_eq int_eq o p ≡ true
same_bounds o p same = by (option_eq int_eq o p) refl
  where
    by : (b : Bool) → option_eq int_eq o p ≡ b → option_eq int_eq o p ≡ true
    by true e = e
    by false e = absurd (other_bounds o p e same)

apart_bounds : (o p : Option ℤ) → (o ≡ p → ⊥) → option_eq int_eq o p ≡ false
apart_bounds o p apart = by (option_eq int_eq o p) refl
  where
    by : (b : Bool) → option_eq int_eq o p ≡ b → option_eq int_eq o p ≡ false
    by true e = absurd (apart (equal_bounds o p e))
    by false e = e

-- a bound below another passes the test
tests_below : (o p : Option ℤ) → IsBelowBound o p → is_below_bound o p ≡ true
tests_below None p below = absurd below
tests_below (Some b) None below = refl
tests_below (Some b) (Some c) below = elim (int_lt b c) as (λ t. int_lt b c ≡ t → t ≡ true)
    [ true ↦ λ yes. refl | false ↦ λ more. absurd (omega (arith, ints)) ] refl

-- and what passes it is below
below_tested : (o p : Option ℤ) → is_below_bound o p ≡ true → IsBelowBound o p
below_tested None p e = absurd (true≢false (sym e))
below_tested (Some b) None e = tt
below_tested (Some b) (Some c) e = omega (arith, ints)

not_below_tested : (o p : Option ℤ) → (IsBelowBound o p → ⊥) → is_below_bound o p ≡ false
not_below_tested o p apart = by (is_below_bound o p) refl
  where
    by : (b : Bool) → is_below_bound o p ≡ b → is_below_bound o p ≡ false
    by true e = absurd (apart (below_tested o p e))
    by false e = e

-- whether the bound of a row is the highest
abbrev has_it : (ℕ → Option ℤ) → Option ℤ → ℕ → Bool
has_it bound highest q = option_eq int_eq (bound q) highest

-- so many people are missing behind the rows that pass a test
abbrev pub IsMissing : Headcount → (ℕ → Bool) → List ℕ → ℕ → Type 0
IsMissing people test seen missing = missing ≡ (people.fewest + people.own) - people_behind people.counts (filter test seen)

-- a row that passes, and one that doesn't
missing-push : (people : Headcount) (test : ℕ → Bool) (seen : List ℕ) (q missing : ℕ) → IsMissing people test seen missing → test q ≡ true →
    IsMissing people test (seen ++ q ∷ []) (missing - count_at people.counts q)
missing-push people test seen q missing h passes =
    let more = ap (people_behind people.counts) (filter-push test seen q true passes) in
    let both = people_together people.counts (filter test seen) (q ∷ []) in
    omega (arith, h, more, both)

missing-same : (people : Headcount) (test : ℕ → Bool) (seen : List ℕ) (q missing : ℕ) → IsMissing people test seen missing → test q ≡ false →
    IsMissing people test (seen ++ q ∷ []) missing
missing-same people test seen q missing h fails =
    h ∙ ap (λ l. (people.fewest + people.own) - people_behind people.counts l) (sym (filter-push test seen q false fails ∙ append-nil (filter test seen)))

-- behind no row all are missing
missing-none : (people : Headcount) (test : ℕ → Bool) (seen : List ℕ) → filter test seen ≡ [] → IsMissing people test seen (people.fewest + people.own)
missing-none people test seen none = let nobody = ap (people_behind people.counts) none in omega (arith, nobody)

-- the highest bound of the rows so far, and how many people are missing behind those that have it
pub record IsCounted (people : Headcount) (bound : ℕ → Option ℤ) (seen : List ℕ) (highest : Option ℤ) (missing : ℕ) : Type 0 where
  pub most : (q : ℕ) → has_row seen q ≡ true → (bound q ≡ highest) ⊎ IsBelowBound (bound q) highest
  pub row : ℕ
  pub there : has_row seen row ≡ true
  pub is : bound row ≡ highest
  pub counted : IsMissing people (has_it bound highest) seen missing

module _ (people : Headcount) (bound : ℕ → Option ℤ) where
  -- that of the first row
  pub count_begins : (r : ℕ) → IsCounted people bound (r ∷ []) (bound r) ((people.fewest + people.own) - count_at people.counts r)
  count_begins r = record {
    most = λ q there. elim (first_or_later r q [] there) [ inl same ↦ inl (ap bound (sym same)) | inr none ↦ absurd (true≢false (sym none)) ];
    row = r;
    there = has_first r [];
    is = refl;
    counted = missing-push people (has_it bound (bound r)) [] r (people.fewest + people.own) (missing-none people (has_it bound (bound r)) [] refl)
        (same_bounds (bound r) (bound r) refl);
  }

  module _ (seen : List ℕ) (highest : Option ℤ) (missing q : ℕ) (so_far : IsCounted people bound seen highest missing) where
    -- a row with the same bound
    pub count_equal : bound q ≡ highest → IsCounted people bound (seen ++ q ∷ []) highest (missing - count_at people.counts q)
    count_equal same = record {
      most = λ p there. elim (has-push seen q p there) [ inl front ↦ so_far.most p front | inr last ↦ inl (ap bound (sym last) ∙ same) ];
      row = so_far.row;
      there = has-front seen q so_far.row so_far.there;
      is = so_far.is;
      counted = missing-push people (has_it bound highest) seen q missing so_far.counted (same_bounds (bound q) highest same);
    }

    -- a row with a higher one
    pub count_above : IsBelowBound highest (bound q) → IsCounted people bound (seen ++ q ∷ []) (bound q)
        ((people.fewest + people.own) - count_at people.counts q)
    count_above above = record {
      most = λ p there. elim (has-push seen q p there) [ inl front ↦ inr (lower p front) | inr last ↦ inl (ap bound (sym last)) ];
      row = q;
      there = has-last seen q;
      is = refl;
      counted = missing-push people (has_it bound (bound q)) seen q (people.fewest + people.own)
          (missing-none people (has_it bound (bound q)) seen (filter-none (has_it bound (bound q)) seen
          (λ p there. apart_bounds (bound p) (bound q) (λ same. never_below (bound p) (bound q) same (lower p there)))))
          (same_bounds (bound q) (bound q) refl);
    }
      where
        lower : (p : ℕ) → has_row seen p ≡ true → IsBelowBound (bound p) (bound q)
        lower p there = elim (so_far.most p there) [
          | inl same ↦ subst (λ o. IsBelowBound o (bound q)) (sym same) above
          | inr under ↦ below_higher (bound p) highest (bound q) under above
        ]

    -- a row with a lower one
    pub count_below : (bound q ≡ highest → ⊥) → (IsBelowBound highest (bound q) → ⊥) → IsCounted people bound (seen ++ q ∷ []) highest missing
    count_below apart not_above = record {
      most = λ p there. elim (has-push seen q p there) [
        | inl front ↦ so_far.most p front
        | inr last ↦ inr (subst (λ r. IsBelowBound (bound r) highest) last (below_or_not (bound q) highest apart not_above))
      ];
      row = so_far.row;
      there = has-front seen q so_far.row so_far.there;
      is = so_far.is;
      counted = missing-same people (has_it bound highest) seen q missing so_far.counted (apart_bounds (bound q) highest apart);
    }

  -- behind the highest rows there are no more people than behind those not below a row
  highest_not_below : (rows : List ℕ) (highest : Option ℤ) (r : ℕ) → ((bound r ≡ highest) ⊎ IsBelowBound (bound r) highest) →
      people_behind people.counts (filter (has_it bound highest) rows) ≤ people_behind people.counts (not_below bound rows r)
  highest_not_below rows highest r most = people_grow people.counts (has_it bound highest) (λ q. not (is_below_bound (bound q) (bound r))) rows
      (λ q q_there passes.
      ap not (not_below_tested (bound q) (bound r) (λ under.
      let under_highest : IsBelowBound highest (bound r) = subst (λ o. IsBelowBound o (bound r)) (equal_bounds (bound q) highest passes) under in
      elim most [
        | inl same ↦ never_below highest (bound r) (sym same) under_highest
        | inr lower ↦ not_both highest (bound r) under_highest lower
      ])))

  -- once nobody is missing behind rows without a bound, enough people stand behind the highest rows
  pub enough_free : (seen later rows : List ℕ) (missing : ℕ) → IsCounted people bound seen None missing → missing ≡ 0 → seen ++ later ≡ rows →
      HasFewHighest people bound rows → ⊥
  enough_free seen later rows missing h nobody together (r, there, few) =
      let test = has_it bound None in
      let parts = ap (people_behind people.counts) (ap (filter test) (sym together) ∙ filter-append test seen later) in
      let both = people_together people.counts (filter test seen) (filter test later) in
      let most = highest_not_below rows None r (free_or_below (bound r)) in
      let is = h.counted in
      absurd (omega (arith, parts, both, most, is, nobody, few))
    where
      free_or_below : (o : Option ℤ) → (o ≡ None) ⊎ IsBelowBound o None
      free_or_below None = inl refl
      free_or_below (Some b) = inr tt

  -- at the end it tells whether few people stand behind the highest rows
  pub count_ends : (rows : List ℕ) (highest : Option ℤ) (missing : ℕ) → IsCounted people bound rows highest missing →
      (0 < missing) ↔ HasFewHighest people bound rows
  count_ends rows highest missing h = (
    (λ some. (
      h.row,
      h.there,
      (let fewer = people_grow people.counts (λ q. not (is_below_bound (bound q) (bound h.row))) (has_it bound highest) rows
          (λ q there passes. elim (h.most q there) [
            | inl same ↦ same_bounds (bound q) highest same
            | inr under ↦ absurd (passes_not (is_below_bound (bound q) (bound h.row)) passes
                (tests_below (bound q) (bound h.row) (subst (IsBelowBound (bound q)) (sym h.is) under)))
          ]) in let is = h.counted in omega (arith, fewer, is, some)),
    )),
    (λ (r, there, few).
        let fewer = highest_not_below rows highest r (h.most r there) in
        let is = h.counted in
        omega (arith, fewer, is, few)),
  )
    where
      passes_not : (b : Bool) → not b ≡ true → b ≡ true → ⊥
      passes_not true e f = true≢false (sym e)
      passes_not false e f = true≢false (sym f)

  -- over no row none are
  pub none_highest : (rows : List ℕ) → rows ≡ [] → HasFewHighest people bound rows → ⊥
  none_highest rows none (r, there, few) = true≢false (sym there ∙ ap (λ l. has_row l r) none)
