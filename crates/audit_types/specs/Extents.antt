-- Facts on how many numbers of a list aren't 0, and on numbers that are 0 at all free columns of a form.
use Rattle.std.proofs.Common.{◌≡◌, ◌≢◌, ℕ, zero, suc, ◌+◌, ◌<◌, ◌≤◌, Bool, true, false, cond, ℤ, pos, List, [], ◌∷◌, length, refl, sym, ap, ◌∙◌, subst, arith}
use Rattle.std.specs.Prelude.{◌+ℤ◌, ◌*ℤ◌, not}
use Rattle.std.specs.List.{AllByRecursion}
use Rattle.std.proofs.lemmas.List.Sums.{sum_by-cons, count_by-le-length}
use Rattle.std.proofs.Math.IntN.{zero-*ℤ, *ℤ-zero}
use Rattle.audit_types.specs.Truth.{is_zero, number_at, sum_over}
use Rattle.audit_types.specs.Numbers.{zero_from_test, not_zero_from_test, test_of_not_zero, positive_not_zero}
use Rattle.audit_types.specs.Form.{pivot, pivot_entry, IsPrimitive, IsEchelon}
use Rattle.audit_types.specs.FormRows.{pivot_below, at_pivot, zero_at_others, IsZeroAtOthers}
use Rattle.audit_types.specs.Direction.{is_pivot}
use Rattle.audit_types.specs.Products.{zero_product, times-add}
use Rattle.audit_types.specs.Totals.{total-single, product}
use Rattle.audit_types.specs.Reach.{extent}

-- ---- extents

-- 1 for a number other than 0
abbrev one_for : ℤ → ℕ
one_for x = cond (not (is_zero x)) 1 0

extent-first : (x : ℤ) (d : List ℤ) → extent (x ∷ d) ≡ one_for x + extent d
extent-first x d = sum_by-cons one_for x d

one_for_zero : (x : ℤ) (b : Bool) → is_zero x ≡ b → x ≡ pos 0 → one_for x ≡ 0
one_for_zero x true e is = ap (λ t. cond (not t) 1 0) e
one_for_zero x false e is = absurd (not_zero_from_test x e is)

one_at_most : (b : Bool) → cond (not b) 1 0 ≤ 1
one_at_most true = omega arith
one_at_most false = omega arith

one_for_less : (x y : ℤ) (b : Bool) → is_zero y ≡ b → (y ≡ pos 0 → x ≡ pos 0) → one_for x ≤ one_for y
one_for_less x y true e same = let none = one_for_zero x (is_zero x) refl (same (zero_from_test y e)) in omega arith
one_for_less x y false e same = let one : one_for y ≡ 1 = ap (λ t. cond (not t) 1 0) e in let most = one_at_most (is_zero x) in omega arith

-- what is 0 everywhere has the extent 0
pub extent_none : (e : List ℤ) → ((i : ℕ) → number_at e i ≡ pos 0) → extent e ≡ 0
extent_none [] none = refl
extent_none (x ∷ e) none =
    let first = extent-first x e in
    let here = one_for_zero x (is_zero x) refl (none 0) in
    let rest = extent_none e (λ i. none (suc i)) in
    omega arith

-- what is 0 wherever another list is has no greater extent
pub extent_less : (d e : List ℤ) → ((i : ℕ) → number_at d i ≡ pos 0 → number_at e i ≡ pos 0) → extent e ≤ extent d
extent_less d [] same = omega arith
extent_less [] (x ∷ e) same = let none = extent_none (x ∷ e) (λ i. same i refl) in omega arith
extent_less (y ∷ d) (x ∷ e) same =
    let first = extent-first x e in
    let other = extent-first y d in
    let here = one_for_less x y (is_zero y) refl (same 0) in
    let rest = extent_less d e (λ i. same (suc i)) in
    omega arith

-- what is 0 everywhere but at one place has an extent of at most 1
pub extent_one : (e : List ℤ) (p : ℕ) → ((i : ℕ) → i ≢ p → number_at e i ≡ pos 0) → extent e ≤ 1
extent_one [] p none = omega arith
extent_one (x ∷ e) zero none =
    let first = extent-first x e in
    let most = one_at_most (is_zero x) in
    let rest = extent_none e (λ i. none (suc i) (λ same. omega arith)) in
    omega arith
extent_one (x ∷ e) (suc p) none =
    let first = extent-first x e in
    let here = one_for_zero x (is_zero x) refl (none 0 (λ same. omega arith)) in
    let rest = extent_one e p (λ i other. none (suc i) (λ same. other (omega arith))) in
    omega arith

-- no extent is above the length
pub extent_within : (e : List ℤ) → extent e ≤ length e
extent_within e = count_by-le-length (λ x. not (is_zero x)) e

-- the places of the numbers other than 0, counted from k
abbrev pub places_from : ℕ → List ℤ → List ℕ
places_from k [] = []
places_from k (x ∷ d) = cond (is_zero x) (places_from (suc k) d) (k ∷ places_from (suc k) d)

length-choice : (b : Bool) (k : ℕ) (rest : List ℕ) → length (cond b rest (k ∷ rest)) ≡ cond (not b) 1 0 + length rest
length-choice true k rest = omega arith
length-choice false k rest = omega arith

-- they are as many
pub length-places_from : (k : ℕ) (d : List ℤ) → length (places_from k d) ≡ extent d
length-places_from k [] = refl
length-places_from k (x ∷ d) =
    length-choice (is_zero x) k (places_from (suc k) d) ∙ ap (λ m. one_for x + m) (length-places_from (suc k) d) ∙ sym (extent-first x d)

-- what holds at these places holds wherever a number isn't 0
pub at_places : (P : ℕ → Type 0) (k : ℕ) (d : List ℤ) → AllByRecursion P (places_from k d) → (i : ℕ) → number_at d i ≢ pos 0 → P (k + i)
at_places P k [] all i some = absurd (some refl)
at_places P k (x ∷ d) all zero some =
    subst P (omega arith) (subst (λ b. AllByRecursion P (cond b (places_from (suc k) d) (k ∷ places_from (suc k) d))) (test_of_not_zero x some) all).0
at_places P k (x ∷ d) all (suc i) some = subst P (omega arith) (at_places P (suc k) d (later (is_zero x) all) i some)
  where
    later : (b : Bool) → AllByRecursion P (cond b (places_from (suc k) d) (k ∷ places_from (suc k) d)) → AllByRecursion P (places_from (suc k) d)
    later true all = all
    later false all = all.1

-- ---- free columns

-- a row of a form has products other than 0 with numbers that are 0 at all free columns at its pivot alone
module _ (n : ℕ) (form : List (List ℤ)) (x : ℕ → ℤ) (free : (i : ℕ) → i < n → is_pivot form i ≡ false → x i ≡ pos 0) where
  at_own_pivot : (row : List ℤ) → IsPrimitive n row → IsZeroAtOthers form row → product row x n ≡ pos 0 → x (pivot row) ≡ pos 0
  at_own_pivot row is zeros none =
      zero_product (pivot_entry row) (x (pivot row)) (sym (total-single (λ i. number_at row i *ℤ x i) n (pivot row) (pivot_below n row is)
      (λ i below other. go (is_pivot form i) i below other refl)) ∙ none) (positive_not_zero (pivot_entry row) is.leading)
    where
      go : (b : Bool) (i : ℕ) → i < n → i ≢ pivot row → is_pivot form i ≡ b → number_at row i *ℤ x i ≡ pos 0
      go true i below other e = ap (λ z. z *ℤ x i) (zeros i e other) ∙ zero-*ℤ (x i)
      go false i below other e = ap (λ z. number_at row i *ℤ z) (free i below e) ∙ *ℤ-zero (number_at row i)

  at_own_pivots : (rows : List (List ℤ)) → AllByRecursion (IsPrimitive n) rows → AllByRecursion (IsZeroAtOthers form) rows →
      AllByRecursion (λ row. product row x n ≡ pos 0) rows → AllByRecursion (λ row. x (pivot row) ≡ pos 0) rows
  at_own_pivots [] p z h = tt
  at_own_pivots (row ∷ rows) p z h = (at_own_pivot row p.0 z.0 h.0, at_own_pivots rows p.1 z.1 h.1)

  -- so numbers that are 0 at all free columns, and whose products with the rows are 0, are 0 everywhere
  pub zero_by_free : AllByRecursion (IsPrimitive n) form → IsEchelon form → AllByRecursion (λ row. product row x n ≡ pos 0) form →
      (i : ℕ) → i < n → x i ≡ pos 0
  zero_by_free primitive echelon zeros i below = go (is_pivot form i) refl
    where
      go : (b : Bool) → is_pivot form i ≡ b → x i ≡ pos 0
      go true e = at_pivot (λ p. x p ≡ pos 0) form i (at_own_pivots form primitive (zero_at_others form echelon) zeros) e
      go false e = free i below e

-- a sum of zeros is 0
pub sum_over_zeros : (d : List ℤ) (rows : List ℕ) → ((i : ℕ) → number_at d i ≡ pos 0) → sum_over d rows ≡ pos 0
sum_over_zeros d [] none = refl
sum_over_zeros d (r ∷ rows) none = ap (λ z. z +ℤ sum_over d rows) (none r) ∙ ap (λ z. pos 0 +ℤ z) (sum_over_zeros d rows none)

-- numbers that are multiples of others have sums that are
pub sum_over_times : (a b : ℤ) (d e : List ℤ) (rows : List ℕ) → ((i : ℕ) → a *ℤ number_at e i ≡ b *ℤ number_at d i) → a *ℤ sum_over e rows ≡ b *ℤ sum_over d rows
sum_over_times a b d e [] same = *ℤ-zero a ∙ sym (*ℤ-zero b)
sum_over_times a b d e (r ∷ rows) same =
    times-add a (number_at e r) (sum_over e rows) ∙ ap (λ z. z +ℤ a *ℤ sum_over e rows) (same r)
    ∙ ap (λ z. b *ℤ number_at d r +ℤ z) (sum_over_times a b d e rows same) ∙ sym (times-add b (number_at d r) (sum_over d rows))
