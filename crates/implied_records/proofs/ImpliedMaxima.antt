-- A maximum is implied by those before it exactly when upper bounds and extreme rows force it.
--
-- Each row at its bound, and rows without one anywhere, is a list that agrees: so an implied answer is no less than any bound of its
-- set. With the rows of the set held below the answer it agrees still, unless some earlier answer of this number has all its extreme
-- rows there.
use Rattle.std.proofs.Common.{◌≡◌, ◌≢◌, ℕ, ◌<◌, ℤ, pos, Bool, true, false, cond, List, [], ◌∷◌, length, map, refl, sym, ap, ◌∙◌, arith, inl, inr, ◌⊎◌, Option, Some, None}
use Rattle.std.specs.Prelude.{◌≤ℤ◌, ◌<ℤ◌, ◌+ℤ◌, ◌-ℤ◌}
use Rattle.std.specs.Int.{int_min}
use Rattle.std.specs.List.{range_with_len}
use Rattle.std.proofs.lemmas.Int.{ints, clamps, by_lt_z}
use Rattle.std.proofs.lemmas.Bool.{true≢false}
use Rattle.std.proofs.lemmas.List.FromFn.{get_or-map-range_with_len, length-map-range_with_len}
use Rattle.audit_types.specs.Rows.{has_row, AreRows}
use Rattle.audit_types.specs.Truth.{number_at, greatest_over}
use Rattle.audit_types.specs.Column.{Answer, Agrees, IsOneOf, IsWellFormed, known_max}
use Rattle.audit_types.specs.Extremes.{upper_bound, is_bound, extremes, IsConsistent}
use Rattle.audit_types.specs.Laws.{GreatestIsBoundAndReached}
use Rattle.audit_types.specs.ListLaws.{all-front}
use Rattle.max_bounds.specs.Laws.{UpperBoundIsLeast}
use Rattle.max_bounds.specs.AnswerLaws.{all_at, all_from, one_or_none}
use Rattle.max_bounds.specs.BoundLaws.{bound_is, exact_bound}
use Rattle.audit_types.specs.WalkLaws.{has_later, first_or_later, row_within}
use Rattle.audit_types.specs.GreatestLaws.{greatest_is}
use Rattle.max_bounds.specs.RowListLaws.{filter-has, has-filter, some_row}
use Rattle.audit_types.specs.RowLaws.{has_first}
use Rattle.max_audit.specs.Laws.{PossibleByExtremes}
use Rattle.implied_records.specs.Kept.{IsImplied, IsForced}
use Rattle.implied_records.specs.Laws.{ImpliedByExtremes}

-- the rows of a list are all in another, or one isn't
abbrev AllOrOther : List ℕ → List ℕ → Type 0
AllOrOther xs ys = ((r : ℕ) → has_row xs r ≡ true → has_row ys r ≡ true) ⊎ ((r : ℕ) × (has_row xs r ≡ true) × (has_row ys r ≡ false))

one_more_row : (x : ℕ) (xs ys : List ℕ) (b : Bool) → has_row ys x ≡ b → AllOrOther xs ys → AllOrOther (x ∷ xs) ys
one_more_row x xs ys false e rest = inr (x, has_first x xs, e)
one_more_row x xs ys true e (inl all) = inl
    (λ r there. elim (first_or_later x r xs there) [ inl same ↦ ap (has_row ys) (sym same) ∙ e | inr later ↦ all r later ])
one_more_row x xs ys true e (inr (r, there, not)) = inr (r, has_later x r xs there, not)

all_or_other : (xs ys : List ℕ) → AllOrOther xs ys
all_or_other [] ys = inl (λ r there. absurd (true≢false (sym there)))
all_or_other (x ∷ xs) ys = one_more_row x xs ys (has_row ys x) refl (all_or_other xs ys)

-- numbers are equal or not
same_or_not : (x y : ℤ) → (x ≡ y) ⊎ (x ≢ y)
same_or_not x y = by_lt_z x y (λ less. inr (λ e. omega (arith, ints)))
    (λ rest. by_lt_z y x (λ more. inr (λ e. omega (arith, ints))) (λ not. inl (omega (arith, ints))))

-- a bound, or this number if there is none
abbrev bound_or : ℤ → Option ℤ → ℤ
bound_or top None = top
bound_or top (Some b) = b

bound_or_is : (top : ℤ) (o : Option ℤ) (b : ℤ) → o ≡ Some b → bound_or top o ≡ b
bound_or_is top o b e = ap (bound_or top) e

-- a bound that is at most a number, where a number above that one stands for none
bound_within : (top most : ℤ) (o : Option ℤ) → most <ℤ top → bound_or top o ≤ℤ most → (b : ℤ) × (o ≡ Some b) × (b ≤ℤ most)
bound_within top most None above low = absurd (omega (arith, ints))
bound_within top most (Some b) above low = (b, refl, low)

-- held below a number, in a set
abbrev held : Bool → ℤ → ℤ → ℤ
held inside least x = cond inside (int_min x least) x

held_below : (inside : Bool) (least x : ℤ) → held inside least x ≤ℤ x
held_below true least x = omega (arith, ints, clamps)
held_below false least x = omega (arith, ints)

held_inside : (inside : Bool) (least x : ℤ) → inside ≡ true → held inside least x ≤ℤ least
held_inside true least x e = omega (arith, ints, clamps)
held_inside false least x e = absurd (true≢false (sym e))

held_outside : (inside : Bool) (least x : ℤ) → inside ≡ false → held inside least x ≡ x
held_outside true least x e = absurd (true≢false e)
held_outside false least x e = refl

held_low : (inside : Bool) (least x : ℤ) → x ≤ℤ least → held inside least x ≡ x
held_low true least x e = omega (arith, ints, clamps)
held_low false least x e = refl

module _ (greatest : GreatestIsBoundAndReached) (bounds : UpperBoundIsLeast) where
  module _ (n : ℕ) (answers : List Answer) (well : IsWellFormed (known_max n answers)) where
    -- an answer has some rows
    some_of : (p : Answer) → IsOneOf p answers → p.rows ≢ []
    some_of p one = all_at (λ b. b.rows ≢ []) answers p well.some one

    -- an extreme row is in the set, and the answer is its bound
    extreme_at : (p : Answer) (q : ℕ) → has_row (extremes answers p) q ≡ true → (has_row p.rows q ≡ true) × (upper_bound answers q ≡ Some p.value)
    extreme_at p q there =
        let found = filter-has (λ r. is_bound (upper_bound answers r) p.value) p.rows q there in
        (found.0, exact_bound (upper_bound answers q) p.value found.1)

    -- a number is at most its row's bound
    at_most_bound : (w : List ℤ) → Agrees (known_max n answers) w → (q : ℕ) (b : ℤ) → upper_bound answers q ≡ Some b → number_at w q ≤ℤ b
    at_most_bound w agrees q b is =
        let by = (bounds answers q).1 b is in
        let p = by.0 in
        let given = all_at (λ a. greatest_over w a.rows ≡ a.value) answers p agrees.same by.1 in
        let low = (greatest w p.rows (some_of p by.1)).0 q by.2 in
        let value = by.3 in
        omega (arith, ints)

    number_in : (f : ℕ → ℤ) (r : ℕ) → r < n → number_at (map f (range_with_len 0 n)) r ≡ f r
    number_in f r below = get_or-map-range_with_len f 0 n r r (pos 0) below (omega arith)

    -- numbers below the bounds, of which each answer has one at an extreme row, agree
    agrees_below : (f : ℕ → ℤ) → ((r : ℕ) (b : ℤ) → upper_bound answers r ≡ Some b → f r ≤ℤ b) →
        ((p : Answer) → IsOneOf p answers → (q : ℕ) × (has_row (extremes answers p) q ≡ true) × (f q ≡ p.value)) →
        Agrees (known_max n answers) (map f (range_with_len 0 n))
    agrees_below f low hits = record {
      one_each = length-map-range_with_len f 0 n;
      same = all_from (λ p. greatest_over (map f (range_with_len 0 n)) p.rows ≡ p.value) answers (λ p one.
          let hit = hits p one in
          let rows : AreRows n p.rows = all_at (λ b. AreRows n b.rows) answers p well.are_rows one in
          let at = extreme_at p hit.0 hit.1 in
          greatest_is (map f (range_with_len 0 n)) p.rows p.value hit.0 (some_of p one)
          (λ r there.
          let bound = (bounds answers r).0 p one there in
          let under = low r bound.0 bound.1 in
          let least = bound.2 in
          let is = number_in f r (row_within n p.rows r rows there) in
          omega (arith, ints))
          at.0 (number_in f hit.0 (row_within n p.rows hit.0 rows at.0) ∙ hit.2));
    }

    module _ (a : Answer) (are : AreRows n a.rows) (some : a.rows ≢ []) where
      -- what bounds and extreme rows force is implied
      pub forced : IsForced answers a → IsImplied (known_max n answers) a
      forced t w agrees =
          let e = t.reached.answer in
          let given = all_at (λ b. greatest_over w b.rows ≡ b.value) answers e agrees.same t.reached.one in
          let reached = (greatest w e.rows (some_of e t.reached.one)).1 in
          let q = reached.0 in
          let bound = (bounds answers q).0 e t.reached.one reached.1 in
          let most = at_most_bound w agrees q bound.0 bound.1 in
          let low = bound.2 in
          let has_it = reached.2 in
          let same : bound.0 ≡ e.value = omega (arith, ints) in
          let extreme = has-filter (λ r. is_bound (upper_bound answers r) e.value) e.rows q reached.1
          (bound_is (upper_bound answers q) bound.0 e.value bound.1 same) in
          let equal = t.reached.same in
          greatest_is w a.rows a.value q some
          (λ r there. let b = t.bounded r there in let under = at_most_bound w agrees r b.0 b.1 in let least = b.2 in omega (arith, ints))
          (t.reached.within q extreme) (omega (arith, ints))

      module _ (consistent : IsConsistent answers) (implied : IsImplied (known_max n answers) a) where
        -- each row at its bound, the others above the answer
        abbrev high : ℕ → ℤ
        high r = bound_or (a.value +ℤ pos 1) (upper_bound answers r)

        high_is : (r : ℕ) (b : ℤ) → upper_bound answers r ≡ Some b → high r ≡ b
        high_is r b e = bound_or_is (a.value +ℤ pos 1) (upper_bound answers r) b e

        high_low : (r : ℕ) (b : ℤ) → upper_bound answers r ≡ Some b → high r ≤ℤ b
        high_low r b e = let same = high_is r b e in omega (arith, ints)

        -- an extreme row of an answer
        hit : (p : Answer) → IsOneOf p answers → (q : ℕ) × (has_row (extremes answers p) q ≡ true)
        hit p one = some_row (extremes answers p) (all_at (λ b. 0 < length (extremes answers b)) answers p consistent one)

        high_at : (p : Answer) (q : ℕ) → has_row (extremes answers p) q ≡ true → high q ≡ p.value
        high_at p q there = high_is q p.value (extreme_at p q there).1

        -- so no bound in the set is above the answer
        bounded : (r : ℕ) → has_row a.rows r ≡ true → (b : ℤ) × (upper_bound answers r ≡ Some b) × (b ≤ℤ a.value)
        bounded r there =
            let given = implied (map high (range_with_len 0 n)) (agrees_below high high_low (λ p one. let h = hit p one in (h.0, h.1, high_at p h.0 h.1))) in
            let low = (greatest (map high (range_with_len 0 n)) a.rows some).0 r there in
            let is = number_in high r (row_within n a.rows r are there) in
            bound_within (a.value +ℤ pos 1) a.value (upper_bound answers r) (omega (arith, ints)) (omega (arith, ints))

        -- an earlier answer of this number with all its extreme rows in the set
        Within : Answer → Type 0
        Within p = (p.value ≡ a.value) × ((r : ℕ) → has_row (extremes answers p) r ≡ true → has_row a.rows r ≡ true)

        -- one of another number, or with an extreme row outside
        Outside : Answer → Type 0
        Outside p = (p.value ≢ a.value) ⊎ ((r : ℕ) × (has_row (extremes answers p) r ≡ true) × (has_row a.rows r ≡ false))

        within_or_outside : (p : Answer) → Within p ⊎ Outside p
        unfolding Within Outside
        within_or_outside p = elim (same_or_not p.value a.value) [
          | inr apart ↦ inr (inl apart)
          | inl same ↦ elim (all_or_other (extremes answers p) a.rows) [
            | inl all ↦ inl (same, all)
            | inr other ↦ inr (inr other)
          ]
        ]

        -- the same with the rows of the set below the answer
        abbrev lowered : ℕ → ℤ
        lowered r = held (has_row a.rows r) (a.value -ℤ pos 1) (high r)

        -- a number, whether a row is in the set or not
        in_or_out : (r : ℕ) → (has_row a.rows r ≡ true) ⊎ (has_row a.rows r ≡ false)
        in_or_out r = elim (has_row a.rows r) as (λ b. (b ≡ true) ⊎ (b ≡ false)) [ true ↦ inl refl | false ↦ inr refl ]

        -- an extreme row of another number keeps it
        kept_apart : (p : Answer) → p.value ≢ a.value → (q : ℕ) → has_row (extremes answers p) q ≡ true → lowered q ≡ p.value
        kept_apart p apart q there = elim (in_or_out q) [
          | inr out ↦ held_outside (has_row a.rows q) (a.value -ℤ pos 1) (high q) out ∙ high_at p q there
          | inl inside ↦
              let b = bounded q inside in
              let is = high_is q b.0 b.1 in
              let at = high_at p q there in
              let low = b.2 in
              held_low (has_row a.rows q) (a.value -ℤ pos 1) (high q) (omega (arith, ints)) ∙ at
        ]

        lowered_hits : (p : Answer) → IsOneOf p answers → Outside p → (q : ℕ) × (has_row (extremes answers p) q ≡ true) × (lowered q ≡ p.value)
        unfolding Outside
        lowered_hits p one (inl apart) = let h = hit p one in (h.0, h.1, kept_apart p apart h.0 h.1)
        lowered_hits p one (inr (q, there, out)) = (q, there, held_outside (has_row a.rows q) (a.value -ℤ pos 1) (high q) out ∙ high_at p q there)

        not_all_outside : ((p : Answer) → IsOneOf p answers → Outside p) → ⊥
        not_all_outside outside =
            let w = map lowered (range_with_len 0 n) in
            let agrees = agrees_below lowered
            (λ r b e. let low = held_below (has_row a.rows r) (a.value -ℤ pos 1) (high r) in let under = high_low r b e in omega (arith, ints))
            (λ p one. lowered_hits p one (outside p one)) in
            let given = implied w agrees in
            let reached = (greatest w a.rows some).1 in
            let is = number_in lowered reached.0 (row_within n a.rows reached.0 are reached.1) in
            let low = held_inside (has_row a.rows reached.0) (a.value -ℤ pos 1) (high reached.0) reached.1 in
            let equal = reached.2 in
            omega (arith, ints)

        is_forced : IsForced answers a
        unfolding Within
        is_forced = elim (one_or_none Within Outside within_or_outside answers) [
          | inl (p, one, (equal, within)) ↦ record {
            bounded = bounded;
            reached = record { answer = p; one = one; same = equal; within = within };
          }
          | inr outside ↦ absurd (not_all_outside outside)
        ]

pub implied_by_extremes : GreatestIsBoundAndReached → UpperBoundIsLeast → PossibleByExtremes → ImpliedByExtremes
implied_by_extremes greatest bounds consistent n answers a well are some possible = (
  is_forced greatest bounds n answers well a are some ((consistent n answers well).0 (
    possible.0,
    record {
      one_each = possible.1.one_each;
      same = (all-front (λ b. greatest_over possible.0 b.rows ≡ b.value) answers (record { rows = a.rows; value = a.value }) possible.1.same).0;
    },
  )),
  forced greatest bounds n answers well a are some,
)
