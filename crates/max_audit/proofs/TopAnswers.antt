-- The greatest answer that a question may have and that takes no extreme row of the answers before it: the greatest bound in its set, or a number above all
-- bounds if a row has none.
use Rattle.std.proofs.Common.{◌≡◌, ◌≢◌, ℕ, ◌<◌, ℤ, pos, Bool, true, false, cond, not, List, [], ◌∷◌, length, refl, sym, ap, ◌∙◌, subst, arith, inl, inr, ◌⊎◌, Option, Some, None}
use Rattle.std.specs.Prelude.{◌<ℤ◌, ◌≤ℤ◌, ◌+ℤ◌}
use Rattle.std.specs.Int.{int_max}
use Rattle.std.proofs.lemmas.Int.{ints, clamps, by_lt_z}
use Rattle.std.proofs.lemmas.Bool.{true≢false}
use Rattle.std.proofs.lemmas.Option.{same_Some}
use Rattle.audit_types.specs.Rows.{has_row, AreRows}
use Rattle.audit_types.specs.RowLaws.{has_first}
use Rattle.audit_types.specs.WalkLaws.{has_later, first_or_later}
use Rattle.audit_types.specs.Column.{Answer, IsOneOf}
use Rattle.audit_types.specs.Extremes.{upper_bound, extremes, IsConsistent}
use Rattle.audit_types.specs.ListLaws.{all-push}
use Rattle.max_bounds.specs.Outside.{outside}
use Rattle.max_bounds.specs.AnswerLaws.{all_from, some_extreme}
use Rattle.max_bounds.specs.RowListLaws.{not_empty}
use Rattle.max_bounds.specs.OneMoreLaws.{IsAtLeast, asked, with_asked, keeps_extremes, asked_has}

-- some row of a list is in a set, or all are outside
pub inside_or_all : (set rows : List ℕ) → ((e : ℕ) × (has_row rows e ≡ true) × (has_row set e ≡ true)) ⊎ (outside set rows ≡ rows)
inside_or_all set [] = inr refl
inside_or_all set (r ∷ rows) = first (has_row set r) refl (inside_or_all set rows)
  where
    first : (b : Bool) → has_row set r ≡ b → ((e : ℕ) × (has_row rows e ≡ true) × (has_row set e ≡ true)) ⊎ (outside set rows ≡ rows) →
        ((e : ℕ) × (has_row (r ∷ rows) e ≡ true) × (has_row set e ≡ true)) ⊎ (cond (not (has_row set r)) (r ∷ outside set rows) (outside set rows) ≡ r ∷ rows)
    first true is rest = inl (r, has_first r rows, is)
    first false is (inl (e, there, within)) = inl (e, has_later r e rows there, within)
    first false is (inr all) = inr (ap (λ b. cond (not b) (r ∷ outside set rows) (outside set rows)) is ∙ ap (λ l. r ∷ l) all)

-- an answer that takes no extreme row: no bound in the set is above it, a row is at least it, and bounds are below it if a row has none
pub record IsTop (answers : List Answer) (rows : List ℕ) (x : ℤ) : Type 0 where
  pub under : (q : ℕ) (b : ℤ) → has_row rows q ≡ true → upper_bound answers q ≡ Some b → b ≤ℤ x
  pub row : ℕ
  pub there : has_row rows row ≡ true
  pub high : IsAtLeast x (upper_bound answers row)
  pub free : (t q : ℕ) (b : ℤ) → upper_bound answers t ≡ None → has_row rows t ≡ true → has_row rows q ≡ true → upper_bound answers q ≡ Some b → b <ℤ x

-- a number that no bound of some rows is above
limit_of : (bound : ℕ → Option ℤ) (rows : List ℕ) → (m : ℤ) × ((q : ℕ) (b : ℤ) → has_row rows q ≡ true → bound q ≡ Some b → b ≤ℤ m)
limit_of bound [] = (pos 0, λ q b there is. absurd (true≢false (sym there)))
limit_of bound (r ∷ rows) = more (bound r) refl (limit_of bound rows)
  where
    more : (o : Option ℤ) → bound r ≡ o → ((m : ℤ) × ((q : ℕ) (b : ℤ) → has_row rows q ≡ true → bound q ≡ Some b → b ≤ℤ m)) →
        (m : ℤ) × ((q : ℕ) (b : ℤ) → has_row (r ∷ rows) q ≡ true → bound q ≡ Some b → b ≤ℤ m)
    more None none (m, low) = (
      m,
      λ q b there is. elim (first_or_later r q rows there) [
        | inl same ↦ absurd (let clash : None ≡ Some b = sym none ∙ ap bound same ∙ is in cc)
        | inr later ↦ low q b later is
      ],
    )
    more (Some c) some (m, low) = (
      int_max c m,
      λ q b there is. elim (first_or_later r q rows there) [
        | inl same ↦ let equal : Some c ≡ Some b = sym some ∙ ap bound same ∙ is in let is_c : c ≡ b = cc in omega (arith, ints, clamps)
        | inr later ↦ let under = low q b later is in omega (arith, ints, clamps)
      ],
    )

-- a row without a bound, or one with the greatest
abbrev FreeOrGreatest : (ℕ → Option ℤ) → List ℕ → Type 0
FreeOrGreatest bound rows = ((t : ℕ) × (has_row rows t ≡ true) × (bound t ≡ None))
    ⊎ ((t : ℕ) × (b : ℤ) × (has_row rows t ≡ true) × (bound t ≡ Some b) × ((q : ℕ) → has_row rows q ≡ true → (c : ℤ) × (bound q ≡ Some c) × (c ≤ℤ b)))

free_or_greatest : (bound : ℕ → Option ℤ) (r : ℕ) (rows : List ℕ) → FreeOrGreatest bound (r ∷ rows)
free_or_greatest bound r [] = single (bound r) refl
  where
    single : (o : Option ℤ) → bound r ≡ o → FreeOrGreatest bound (r ∷ [])
    single None none = inl (r, has_first r [], none)
    single (Some b) some = inr (
      r,
      b,
      has_first r [],
      some,
      λ q there. elim (first_or_later r q [] there) [
        | inl same ↦ (b, ap bound (sym same) ∙ some, omega (arith, ints))
        | inr later ↦ absurd (true≢false (sym later))
      ],
    )
free_or_greatest bound r (s ∷ rows) = more (bound r) refl (free_or_greatest bound s rows)
  where
    more : (o : Option ℤ) → bound r ≡ o → FreeOrGreatest bound (s ∷ rows) → FreeOrGreatest bound (r ∷ s ∷ rows)
    more o is (inl (t, there, none)) = inl (t, has_later r t (s ∷ rows) there, none)
    more None none (inr (t, b, there, some, most)) = inl (r, has_first r (s ∷ rows), none)
    more (Some c) is (inr (t, b, there, some, most)) = by_lt_z b c
        (λ less. inr (
          r,
          c,
          has_first r (s ∷ rows),
          is,
          λ q among. elim (first_or_later r q (s ∷ rows) among) [
            | inl same ↦ (c, ap bound (sym same) ∙ is, omega (arith, ints))
            | inr later ↦ let found = most q later in let under = found.2 in (found.0, found.1, omega (arith, ints))
          ],
        ))
        (λ not. inr (
          t,
          b,
          has_later r t (s ∷ rows) there,
          some,
          λ q among. elim (first_or_later r q (s ∷ rows) among) [
            | inl same ↦ (c, ap bound (sym same) ∙ is, omega (arith, ints))
            | inr later ↦ most q later
          ],
        ))

-- a set that is not empty has such an answer
pub top_of : (answers : List Answer) (rows : List ℕ) → rows ≢ [] → (x : ℤ) × IsTop answers rows x
top_of answers [] some = absurd (some refl)
top_of answers (r ∷ rows) some = elim (free_or_greatest (upper_bound answers) r rows) [
  | inl (t, there, none) ↦ let limit = limit_of (upper_bound answers) (r ∷ rows) in (
    limit.0 +ℤ pos 1,
    record {
      under = λ q b among is. let low = limit.1 q b among is in omega (arith, ints);
      row = t;
      there = there;
      high = subst (IsAtLeast (limit.0 +ℤ pos 1)) (sym none) tt;
      free = λ u q b free in_set among is. let low = limit.1 q b among is in omega (arith, ints);
    },
  )
  | inr (t, b, there, is_b, most) ↦ (
    b,
    record {
      under =
          λ q c among is. let found = most q among in let low = found.2 in let same = same_Some found.0 c (sym found.1 ∙ is) in omega (arith, ints);
      row = t;
      there = there;
      high = subst (IsAtLeast b) (sym is_b) (omega (arith, ints));
      free = λ u q c free in_set among is. let found = most u in_set in absurd (let clash : None ≡ Some found.0 = sym free ∙ found.1 in cc);
    },
  )
]

module _ (n : ℕ) (answers : List Answer) (rows : List ℕ) (are : AreRows n rows) (some : rows ≢ []) (consistent : IsConsistent answers) where
  module _ (x : ℤ) (top : IsTop answers rows x) where
    -- an earlier answer keeps its extreme rows
    pub top_keeps : (a : Answer) → IsOneOf a answers → extremes (with_asked answers rows x) a ≡ extremes answers a
    top_keeps a one = keeps_extremes answers rows x a one (λ r b there in_set is. top.under r b in_set is)

    -- the answer is possible
    pub top_possible : IsConsistent (with_asked answers rows x)
    top_possible = all-push (λ a. 0 < length (extremes (with_asked answers rows x) a)) answers (asked answers rows x)
        (all_from (λ a. 0 < length (extremes (with_asked answers rows x) a)) answers (λ a one.
        subst (λ l. 0 < length l) (sym (top_keeps a one)) (some_extreme answers consistent a one)))
        (not_empty (extremes (with_asked answers rows x) (asked answers rows x)) top.row (asked_has answers rows x top.row top.there top.high))
