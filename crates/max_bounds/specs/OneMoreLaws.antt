-- Laws of one answer more: what it does to the extreme rows of each answer.
--
-- An answer that is not above the new one keeps its extreme rows. A higher one keeps those outside the new set. The new one has the rows of
-- its set without a bound, and those with one that is not below it.
use Rattle.std.proofs.Common.{◌≡◌, ℕ, ℤ, Bool, true, false, cond, ◌&&◌, not, List, [], ◌∷◌, ◌++◌, refl, sym, ap, ◌∙◌, arith, Option, Some, None}
use Rattle.std.specs.Prelude.{◌<ℤ◌, ◌≤ℤ◌}
use Rattle.std.specs.Int.{int_min}
use Rattle.std.specs.Ordering.{int_eq}
use Rattle.std.specs.List.{filter}
use Rattle.std.proofs.lemmas.Int.{ints, clamps}
use Rattle.std.proofs.lemmas.Bool.Decides.{Decides-int_eq}
use Rattle.audit_types.specs.Rows.{has_row}
use Rattle.audit_types.specs.Column.{Answer, IsOneOf}
use Rattle.audit_types.specs.Extremes.{least_of, upper_bound, is_bound, extremes}
use Rattle.audit_types.specs.RowLaws.{has_first}
use Rattle.max_bounds.specs.Outside.{outside}
use Rattle.audit_types.specs.WalkLaws.{has_later}
use Rattle.max_bounds.specs.RowListLaws.{filter-has, has-filter}
use Rattle.max_bounds.specs.BoundLaws.{upper_bound-push, bound_below}

-- filters by tests that agree on the rows
pub filters_agree_on : (p q : ℕ → Bool) (rows : List ℕ) → ((r : ℕ) → has_row rows r ≡ true → p r ≡ q r) → filter p rows ≡ filter q rows
filters_agree_on p q [] same = refl
filters_agree_on p q (r ∷ rows) same =
    let head : p r ≡ q r = same r (has_first r rows) in
    let tail = filters_agree_on p q rows (λ x there. same x (has_later r x rows there)) in
    rw (head, tail) refl

-- a filter of what another leaves
filter_twice : (p q : ℕ → Bool) (rows : List ℕ) → filter p (filter q rows) ≡ filter (λ r. p r && q r) rows
filter_twice p q [] = refl
filter_twice p q (r ∷ rows) = step (p r) (q r) refl (filter_twice p q rows)
  where
    step : (b d : Bool) → p r ≡ b → filter p (filter q rows) ≡ filter (λ x. p x && q x) rows →
        filter p (cond d (r ∷ filter q rows) (filter q rows)) ≡ cond (p r && d) (r ∷ filter (λ x. p x && q x) rows) (filter (λ x. p x && q x) rows)
    step true true e rest = rw (e, rest) refl
    step true false e rest = rw (e, rest) refl
    step false true e rest = rw (e, rest) refl
    step false false e rest = rw (e, rest) refl

-- a row without a bound, or with one that is not below
abbrev pub IsAtLeast : ℤ → Option ℤ → Type 0
IsAtLeast x None = Unit {0}
IsAtLeast x (Some b) = x ≤ℤ b

-- a bound stays if the new answer isn't below it, or isn't that of its row
stays : (has : Bool) (o : Option ℤ) (b x : ℤ) → o ≡ Some b → (has ≡ true → b ≤ℤ x) → cond has (Some (least_of x o)) o ≡ o
stays true None b x e low = absurd cc
stays true (Some c) b x e low = let same : c ≡ b = cc in let under = low refl in ap Some (omega (arith, ints, clamps))
stays false o b x e low = refl

-- a test of the least of a number and a bound for what is above the number
too_low : (o : Option ℤ) (v x : ℤ) → x <ℤ v → is_bound (Some (least_of x o)) v ≡ false
too_low o v x less = fails (least_of x o) v (below o)
  where
    fails : (a b : ℤ) → a <ℤ b → int_eq a b ≡ false
    fails a b l = elim (int_eq a b) as (λ t. int_eq a b ≡ t → t ≡ false) [
      | true ↦ λ e. let same = (Decides-int_eq a b).0 e in absurd (omega (arith, ints))
      | false ↦ λ e. refl
    ] refl

    below : (p : Option ℤ) → least_of x p <ℤ v
    below None = less
    below (Some c) = omega (arith, ints, clamps)

-- a bound is that of a higher answer if it was, outside the new set
higher_test : (has : Bool) (o : Option ℤ) (v x : ℤ) → x <ℤ v → is_bound (cond has (Some (least_of x o)) o) v ≡ (not has && is_bound o v)
higher_test true o v x less = too_low o v x less
higher_test false o v x less = refl

-- the new answer is the bound if there was none, or none below it
reaches : (o : Option ℤ) (x : ℤ) → IsAtLeast x o → is_bound (Some (least_of x o)) x ≡ true
reaches None x high = (Decides-int_eq x x).1 refl
reaches (Some b) x high = (Decides-int_eq (int_min x b) x).1 (omega (arith, ints, clamps))

-- and nowhere else
reached_from : (o : Option ℤ) (x : ℤ) → is_bound (Some (least_of x o)) x ≡ true → IsAtLeast x o
reached_from None x e = tt
reached_from (Some b) x e = let same = (Decides-int_eq (int_min x b) x).0 e in omega (arith, ints, clamps)

module _ (answers : List Answer) (rows : List ℕ) (x : ℤ) where
  -- the new answer
  abbrev pub asked : Answer
  asked = record { rows = rows; value = x }

  -- the answers with it
  abbrev pub with_asked : List Answer
  with_asked = answers ++ asked ∷ []

  -- an answer whose rows in the new set have no bound above the new answer keeps its extreme rows
  pub keeps_extremes : (p : Answer) → IsOneOf p answers → ((r : ℕ) (b : ℤ) → has_row p.rows r ≡ true → has_row rows r ≡ true → upper_bound answers r ≡ Some b → b ≤ℤ x) →
      extremes with_asked p ≡ extremes answers p
  keeps_extremes p one low = filters_agree_on (λ r. is_bound (upper_bound with_asked r) p.value) (λ r. is_bound (upper_bound answers r) p.value) p.rows (λ r there.
      let b = bound_below answers p r one there in
      ap (λ o. is_bound o p.value) (upper_bound-push answers asked r ∙ stays (has_row rows r) (upper_bound answers r) b.0 x b.1 (λ in_set. low r b.0 there in_set b.1)))

  -- so does one that is not above it
  pub lower_keeps : (p : Answer) → IsOneOf p answers → p.value ≤ℤ x → extremes with_asked p ≡ extremes answers p
  lower_keeps p one low = keeps_extremes p one (λ r b there in_set is.
      let found = bound_below answers p r one there in
      let most = found.2 in
      let same : Some found.0 ≡ Some b = sym found.1 ∙ is in
      let equal : found.0 ≡ b = cc in
      omega (arith, ints))

  -- and a higher one those outside the new set
  pub higher_loses : (p : Answer) → IsOneOf p answers → x <ℤ p.value → extremes with_asked p ≡ outside rows (extremes answers p)
  higher_loses p one less =
      filters_agree_on (λ r. is_bound (upper_bound with_asked r) p.value) (λ r. not (has_row rows r) && is_bound (upper_bound answers r) p.value) p.rows (λ r there.
      ap (λ o. is_bound o p.value) (upper_bound-push answers asked r) ∙ higher_test (has_row rows r) (upper_bound answers r) p.value x less)
      ∙ sym (filter_twice (λ r. not (has_row rows r)) (λ r. is_bound (upper_bound answers r) p.value) p.rows)

  -- the bound of a row of the new set
  pub bound_in_set : (r : ℕ) → has_row rows r ≡ true → upper_bound with_asked r ≡ Some (least_of x (upper_bound answers r))
  bound_in_set r there = upper_bound-push answers asked r ∙ ap (λ b. cond b (Some (least_of x (upper_bound answers r))) (upper_bound answers r)) there

  -- a row of the new set with no bound below the new answer is extreme for it
  pub asked_has : (r : ℕ) → has_row rows r ≡ true → IsAtLeast x (upper_bound answers r) → has_row (extremes with_asked asked) r ≡ true
  asked_has r there high = has-filter (λ q. is_bound (upper_bound with_asked q) x) rows r there (ap (λ o. is_bound o x) (bound_in_set r there) ∙ reaches (upper_bound answers r) x high)

  -- and no other is
  pub has_asked : (r : ℕ) → has_row (extremes with_asked asked) r ≡ true → (has_row rows r ≡ true) × IsAtLeast x (upper_bound answers r)
  has_asked r there =
      let found = filter-has (λ q. is_bound (upper_bound with_asked q) x) rows r there in
      (found.0, reached_from (upper_bound answers r) x (ap (λ o. is_bound o x) (sym (bound_in_set r found.0)) ∙ found.1))
