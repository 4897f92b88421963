-- If the reduced form of sets is narrow, the total of a set follows from the number of one row, or a direction that is 0 at this row and nowhere above twice
-- the cube of the width changes it.
--
-- If a row of the form begins at that row, the directions of the free columns are there as its entries at these columns, but for a factor that all
-- have; otherwise all but one are 0 there. So two directions, each taken as often as the other's entry says, make one that is 0 there. If none of
-- these changes the total, some multiple of the set's row, less some multiple of that row alone, has the product 0 with each direction.
use Rattle.std.proofs.Common.{◌≡◌, ◌≢◌, ◌⊎◌, ℕ, ◌*◌, ◌<◌, ◌≤◌, Bool, true, false, cond, ◌==◌, ℤ, pos, List, [], ◌∷◌, length, refl, sym, ap, ◌∙◌, arith, inl, inr}
use Rattle.std.specs.Prelude.{◌+ℤ◌, ◌*ℤ◌, neg_ℤ, unsigned_abs}
use Rattle.std.specs.List.{AllByRecursion}
use Rattle.std.proofs.lemmas.Bool.{cases_eq, eq-eqb, ne_eqb, eqb-true}
use Rattle.std.proofs.lemmas.Int.{ints, unsigned_abs-mul}
use Rattle.std.proofs.lemmas.List.{length-map}
use Rattle.std.proofs.lemmas.List.FromFn.{length-map-range_with_len}
use Rattle.std.proofs.Math.IntN.{*ℤ_comm, zero-*ℤ, *ℤ-zero, +ℤ_idr}
use Rattle.std.proofs.Math.Nat.{mul-le-mul}
use Rattle.audit_types.specs.Rows.{AreRows}
use Rattle.audit_types.specs.Truth.{number_at, sum_over}
use Rattle.audit_types.specs.Form.{set_row, combined, pivot, pivot_entry, IsEchelon, StandsBefore, Reduced, IsNarrow}
use Rattle.audit_types.specs.Direction.{IsDirection, is_pivot}
use Rattle.audit_types.specs.FormRows.{at_pivot}
use Rattle.audit_types.specs.Numbers.{size_negated, size_of_sum}
use Rattle.audit_types.specs.PrimitiveLines.{times, number_at-times}
use Rattle.audit_types.specs.Products.{times_assoc, neg-times, zero_product}
use Rattle.audit_types.specs.Totals.{total-agree, total-times, product, product-combined, product-combined_with, product-set_row}
use Rattle.sum_audit.specs.Pivots.{no_pivot, pivots_below}
use Rattle.sum_audit.specs.Shifts.{moved_by, number_at-moved_by, length-moved_by, sum_over-moved_by, sum_over-times}
use Rattle.sum_audit.specs.Laws.{StillOrMovedBySmall}
use Rattle.sum_audit.proofs.Reached.{products_are_zero}
use Rattle.sum_audit.proofs.SmallDirections.{by_test, at_number, entry_of, Goes, taken, entry_elsewhere, entry_there, product_of_entries, at_pivots, quotient, positive, goes, along, number_along, small, is_direction}
use Rattle.sum_audit.proofs.SpannedOrMoved.{columns}

-- ---- products of three numbers

-- a * (c * f) is what f * (c * a) is
exchanged : (a c f : ℤ) → neg_ℤ f *ℤ (c *ℤ a) +ℤ a *ℤ (c *ℤ f) ≡ pos 0
exchanged a c f =
    let minus = neg-times f (c *ℤ a) in
    let turned : f *ℤ (c *ℤ a) ≡ a *ℤ (c *ℤ f) = *ℤ_comm f (c *ℤ a) ∙ ap (λ z. z *ℤ f) (*ℤ_comm c a) ∙ times_assoc a c f in
    omega (arith, ints)

-- a common factor
factored : (a c s f t : ℤ) → a *ℤ s +ℤ neg_ℤ f *ℤ t ≡ pos 0 → (a *ℤ c) *ℤ s +ℤ neg_ℤ t *ℤ (c *ℤ f) ≡ pos 0
factored a c s f t none =
    let first : (a *ℤ c) *ℤ s ≡ c *ℤ (a *ℤ s) = ap (λ z. z *ℤ s) (*ℤ_comm a c) ∙ times_assoc c a s in
    let minus = neg-times t (c *ℤ f) in
    let turned : t *ℤ (c *ℤ f) ≡ c *ℤ (f *ℤ t) = *ℤ_comm t (c *ℤ f) ∙ times_assoc c f t in
    let less = neg-times f t in
    let same : a *ℤ s ≡ f *ℤ t = omega (arith, ints) in
    let whole : c *ℤ (a *ℤ s) ≡ c *ℤ (f *ℤ t) = ap (λ z. c *ℤ z) same in
    omega (arith, ints)

-- ---- the directions of all columns at one row

-- at row p each is a factor of its own, of at most the width, times one that all have
record HaveFactors (m : ℕ) (q : List ℤ → ℤ) (width : ℕ) (rows : List (List ℤ)) (p : ℕ) : Type 0 where
  factor : ℕ → ℤ
  common : ℤ
  size : (j : ℕ) → unsigned_abs (factor j) ≤ width
  some : common ≢ pos 0
  is : (j : ℕ) → entry_of m q rows j p ≡ common *ℤ factor j

module _ (m : ℕ) (q : List ℤ → ℤ) (width : ℕ) where
  at_first : (row : List ℤ) (rows : List (List ℤ)) (j : ℕ) → entry_of m q (row ∷ rows) j (pivot row) ≡ neg_ℤ (q row) *ℤ number_at row j
  at_first row rows j =
      by_test (pivot row == pivot row) (neg_ℤ (number_at row j *ℤ q row)) (entry_of m q rows j (pivot row)) (neg_ℤ (q row) *ℤ number_at row j)
      (λ e. ap neg_ℤ (*ℤ_comm (number_at row j) (q row)) ∙ sym (neg-times (q row) (number_at row j)))
      (λ e. let same = eq-eqb (pivot row) (pivot row) refl in absurd cc)

  -- at the pivot of a row: its entries
  at_each_pivot : (rows : List (List ℤ)) → IsEchelon rows → AllByRecursion (AllByRecursion (λ x. unsigned_abs x ≤ width)) rows →
      AllByRecursion (λ row. q row ≢ pos 0) rows → AllByRecursion (λ row. HaveFactors m q width rows (pivot row)) rows
  at_each_pivot [] echelon entries some = tt
  at_each_pivot (row ∷ rows) echelon entries some = (
    record {
      factor = number_at row;
      common = neg_ℤ (q row);
      size = at_number row entries.0;
      some = λ none. some.0 (omega (arith, ints));
      is = at_first row rows;
    },
    with_first rows echelon.0 (at_each_pivot rows echelon.1 entries.1 some.1),
  )
    where
      with_first : (later : List (List ℤ)) → AllByRecursion (StandsBefore row) later → AllByRecursion (λ r. HaveFactors m q width rows (pivot r)) later →
          AllByRecursion (λ r. HaveFactors m q width (row ∷ rows) (pivot r)) later
      with_first [] before have = tt
      with_first (r ∷ later) before have = (
        let first = have.0 in
            let lt = before.0.0 in
            record {
              factor = first.factor;
              common = first.common;
              size = first.size;
              some = first.some;
              is = λ j. by_test (pivot r == pivot row) (neg_ℤ (number_at row j *ℤ q row)) (entry_of m q rows j (pivot r)) (first.common *ℤ first.factor j)
                  (λ e. let same = eqb-true (pivot r) (pivot row) e in absurd (omega arith)) (λ e. first.is j);
            },
        with_first later before.1 have.1,
      )

  -- and at a free column the multiple for this column, and 0 for all others
  at_free : (rows : List (List ℤ)) (p : ℕ) → AllByRecursion (λ row. p ≢ pivot row) rows → 0 < m → m ≤ width → HaveFactors m q width rows p
  at_free rows p apart some few = record {
    factor = λ j. cond (p == j) (pos 1) (pos 0);
    common = pos m;
    size = λ j. by_size (p == j);
    some = λ none. omega (arith, ints);
    is = λ j. elim (cases_eq p j) [
      | inl same ↦ ap (λ k. entry_of m q rows k p) (sym same) ∙ entry_there m q rows p apart ∙ sym (*ℤ_comm (pos m) (pos 1) ∙ one_times (pos m))
          ∙ ap (λ b. pos m *ℤ cond b (pos 1) (pos 0)) (sym (eq-eqb p j same))
      | inr other ↦ entry_elsewhere m q rows j p other apart ∙ sym (*ℤ-zero (pos m)) ∙ ap (λ b. pos m *ℤ cond b (pos 1) (pos 0)) (sym (ne_eqb p j other))
    ];
  }
    where
      by_size : (b : Bool) → unsigned_abs (cond b (pos 1) (pos 0)) ≤ width
      by_size true = omega arith
      by_size false = omega arith

      one_times : (z : ℤ) → pos 1 *ℤ z ≡ z
      one_times z = omega (arith, ints)

-- what goes into the multiple isn't 0
not_zero : (m : ℕ) (q : List ℤ → ℤ) (rows : List (List ℤ)) → 0 < m → Goes m q rows → AllByRecursion (λ row. q row ≢ pos 0) rows
not_zero m q [] some goes = tt
not_zero m q (row ∷ rows) some goes = (
  λ none. let zero = ap (λ z. z *ℤ pivot_entry row) none ∙ zero-*ℤ (pivot_entry row) in let whole = goes.0 in omega (arith, ints),
  not_zero m q rows some goes.1,
)

-- ---- the form of some sets

module _ (width n : ℕ) (sets : List (List ℕ)) (are : AllByRecursion (AreRows n) sets) (form : List (List ℤ)) (reduced : Reduced n sets form)
    (narrow : IsNarrow width form) where
  abbrev m : ℕ
  m = narrow.common

  some : 0 < m
  some = positive width n sets are form reduced narrow

  abbrev column : ℕ → List ℤ
  column j = along width n sets are form reduced narrow j

  -- what has the product 0 with the direction of each free column has it with all directions
  module _ (g : ℕ → ℤ) (none : (j : ℕ) → j < n → is_pivot form j ≡ false → product (column j) g n ≡ pos 0) where
    taken_at : (r : ℕ) → r < n → (b : Bool) → is_pivot form r ≡ b → pos m *ℤ g r ≡ combined (taken m (quotient m) g form) form r
    taken_at r below true there =
        sym (at_pivot (λ k. combined (taken m (quotient m) g form) form k ≡ pos m *ℤ g k) form r
        (at_pivots m (quotient m) g form reduced.echelon (goes width n sets are form reduced narrow)) there)
    taken_at r below false free =
        let whole = product_of_entries m (quotient m) n r below g form reduced.echelon (pivots_below n form reduced.primitive) (no_pivot form r free) in
        let read = total-agree (λ k. number_at (column r) k *ℤ g k) (λ k. g k *ℤ entry_of m (quotient m) form r k) n
        (λ k l. *ℤ_comm (number_at (column r) k) (g k) ∙ ap (λ z. g k *ℤ z) (number_along width n sets are form reduced narrow r k l)) in
        let zero = none r below free in
        omega (arith, ints)

    still : (d : List ℤ) → IsDirection n sets d → product d g n ≡ pos 0
    still d direction =
        let whole = total-agree (λ r. pos m *ℤ (number_at d r *ℤ g r)) (λ r. combined (taken m (quotient m) g form) form r *ℤ number_at d r) n
        (λ r l. ap (λ z. pos m *ℤ z) (*ℤ_comm (number_at d r) (g r)) ∙ sym (times_assoc (pos m) (g r) (number_at d r))
        ∙ ap (λ z. z *ℤ number_at d r) (taken_at r l (is_pivot form r) refl)) in
        let zero = product-combined (number_at d) n (taken m (quotient m) g form) form (products_are_zero n sets form are reduced d direction) in
        zero_product (pos m) (product d g n) (sym (total-times (pos m) (λ r. number_at d r *ℤ g r) n) ∙ whole ∙ zero)
        (λ nothing. let more = some in omega (arith, ints))

  -- two directions, taken so many times each
  abbrev mixed : ℤ → ℕ → ℤ → ℕ → List ℤ
  mixed a j b k = moved_by (times a (column j)) (times b (column k))

  number_mixed : (a : ℤ) (j : ℕ) (b : ℤ) (k r : ℕ) → number_at (mixed a j b k) r ≡ b *ℤ number_at (column k) r +ℤ a *ℤ number_at (column j) r
  number_mixed a j b k r =
      number_at-moved_by (times a (column j)) (times b (column k)) r ∙ ap (λ z. z +ℤ number_at (times a (column j)) r) (number_at-times b (column k) r)
      ∙ ap (λ z. b *ℤ number_at (column k) r +ℤ z) (number_at-times a (column j) r)

  sum_mixed : (a : ℤ) (j : ℕ) (b : ℤ) (k : ℕ) (s : List ℕ) → sum_over (mixed a j b k) s ≡ b *ℤ sum_over (column k) s +ℤ a *ℤ sum_over (column j) s
  sum_mixed a j b k s =
      sum_over-moved_by (times a (column j)) (times b (column k)) s ∙ ap (λ z. z +ℤ sum_over (times a (column j)) s) (sum_over-times b (column k) s)
      ∙ ap (λ z. b *ℤ sum_over (column k) s +ℤ z) (sum_over-times a (column j) s)

  length_column : (j : ℕ) (a : ℤ) → length (times a (column j)) ≡ n
  length_column j a = length-map (column j) (λ x. a *ℤ x) ∙ length-map-range_with_len (entry_of m (quotient m) form j) 0 n

  module _ (a : ℤ) (j : ℕ) (b : ℤ) (k : ℕ) (first : IsDirection n sets (column j)) (second : IsDirection n sets (column k)) where
    zero_sums_mixed : (some : List (List ℕ)) → AllByRecursion (λ s. sum_over (column j) s ≡ pos 0) some →
        AllByRecursion (λ s. sum_over (column k) s ≡ pos 0) some →
        AllByRecursion (λ s. sum_over (mixed a j b k) s ≡ pos 0) some
    zero_sums_mixed [] one other = tt
    zero_sums_mixed (s ∷ some) one other = (
      sum_mixed a j b k s ∙ ap (λ z. b *ℤ z +ℤ a *ℤ sum_over (column j) s) other.0 ∙ ap (λ z. b *ℤ pos 0 +ℤ a *ℤ z) one.0
          ∙ ap (λ z. z +ℤ a *ℤ pos 0) (*ℤ-zero b) ∙ ap (λ z. pos 0 +ℤ z) (*ℤ-zero a),
      zero_sums_mixed some one.1 other.1,
    )

    direction_mixed : IsDirection n sets (mixed a j b k)
    direction_mixed = record {
      one_each = length-moved_by n (times a (column j)) (times b (column k)) (length_column j a) (length_column k b);
      zero_sums = zero_sums_mixed sets first.zero_sums second.zero_sums;
    }

  -- how large it is
  size_mixed : (a : ℤ) (j : ℕ) (b : ℤ) (k r : ℕ) → unsigned_abs a ≤ width → unsigned_abs b ≤ width →
      unsigned_abs (number_at (mixed a j b k) r) ≤ 2 * (width * (width * width))
  size_mixed a j b k r a_small b_small =
      let square = small width n sets are form reduced narrow in
      let one : unsigned_abs (b *ℤ number_at (column k) r) ≤ width * (width * width) =
      rw (unsigned_abs-mul b (number_at (column k) r)) (mul-le-mul {n₂ = width} {m₂ = width * width} b_small (square k r)) in
      let other : unsigned_abs (a *ℤ number_at (column j) r) ≤ width * (width * width) =
      rw (unsigned_abs-mul a (number_at (column j) r)) (mul-le-mul {n₂ = width} {m₂ = width * width} a_small (square j r)) in
      let both = size_of_sum (b *ℤ number_at (column k) r) (a *ℤ number_at (column j) r) (width * (width * width)) (width * (width * width)) one other in
      let is = ap unsigned_abs (number_mixed a j b k r) in
      omega (arith, both, is)

  module _ (u : List ℕ) (rows : AreRows n u) (p : ℕ) (below : p < n) where
    -- a direction that is 0 at row p, and changes the total
    abbrev Moved : Type 0
    Moved = (d : List ℤ) × IsDirection n sets d × (number_at d p ≡ pos 0) × ((r : ℕ) → unsigned_abs (number_at d r) ≤ 2 * (width * (width * width)))
        × (sum_over d u ≢ pos 0)

    abbrev Still : Type 0
    Still = (d : List ℤ) → IsDirection n sets d → number_at d p ≡ pos 0 → sum_over d u ≡ pos 0

    have_factors : HaveFactors m (quotient m) width form p
    have_factors = by (is_pivot form p) refl
      where
        by : (b : Bool) → is_pivot form p ≡ b → HaveFactors m (quotient m) width form p
        by true there = at_pivot (HaveFactors m (quotient m) width form) form p
            (at_each_pivot m (quotient m) width form reduced.echelon narrow.entries
            (not_zero m (quotient m) form some (goes width n sets are form reduced narrow))) there
        by false free = at_free m (quotient m) width form p (no_pivot form p free) some narrow.common_small

    abbrev f : ℕ → ℤ
    f j = have_factors.factor j

    abbrev c : ℤ
    c = have_factors.common

    abbrev s : ℕ → ℤ
    s j = sum_over (column j) u

    at_hers : (j : ℕ) → number_at (column j) p ≡ c *ℤ f j
    at_hers j = number_along width n sets are form reduced narrow j p below ∙ have_factors.is j

    -- products with the set's row are totals
    total_is : (v : List ℕ) → AreRows n v → (d : List ℤ) → product d (number_at (set_row n v)) n ≡ sum_over d v
    total_is v v_are d =
        total-agree (λ r. number_at d r *ℤ number_at (set_row n v) r) (λ r. number_at (set_row n v) r *ℤ number_at d r) n
        (λ r l. *ℤ_comm (number_at d r) (number_at (set_row n v) r)) ∙ product-set_row d n v v_are

    -- a choice that isn't 0 is of a free column
    chosen : (j : ℕ) (x : ℤ) (b : Bool) → is_pivot form j ≡ b → cond b (pos 0) x ≢ pos 0 → (is_pivot form j ≡ false) × (x ≢ pos 0)
    chosen j x true e differs = absurd (differs refl)
    chosen j x false e differs = (e, differs)

    not_chosen : (j : ℕ) (x : ℤ) → is_pivot form j ≡ false → cond (is_pivot form j) (pos 0) x ≡ pos 0 → x ≡ pos 0
    not_chosen j x free none = ap (λ b. cond b (pos 0) x) (sym free) ∙ none

    -- ---- all directions are 0 at the row

    module _ (zeros : (j : ℕ) → j < n → cond (is_pivot form j) (pos 0) (f j) ≡ pos 0) where
      by_one : Still ⊎ Moved
      by_one = elim (columns n (λ j. cond (is_pivot form j) (pos 0) (s j))) [
        | inl none ↦ inl (λ d direction zero. sym (total_is u rows d) ∙ still (number_at (set_row n u))
            (λ j l free. total_is u rows (column j) ∙ not_chosen j (s j) free (none j l)) d direction)
        | inr (j, l, differs) ↦
            let found = chosen j (s j) (is_pivot form j) refl differs in
            inr (
              column j,
              is_direction width n sets are form reduced narrow j l found.0,
              at_hers j ∙ ap (λ z. c *ℤ z) (not_chosen j (f j) found.0 (zeros j l)) ∙ *ℤ-zero c,
              (λ r.
                  let one : 1 ≤ width = let few = narrow.common_small in let more = some in omega arith in
                  let more = mul-le-mul {n₂ = width} {m₂ = width * width} one (small width n sets are form reduced narrow j r) in
                  omega arith),
              found.1,
            )
      ]

    -- ---- one isn't

    module _ (k : ℕ) (k_below : k < n) (k_free : is_pivot form k ≡ false) (k_some : f k ≢ pos 0) where
      abbrev pair : ℕ → List ℤ
      pair j = mixed (f k) j (neg_ℤ (f j)) k

      abbrev total_of_pair : ℕ → ℤ
      total_of_pair j = f k *ℤ s j +ℤ neg_ℤ (f j) *ℤ s k

      -- the set's row, less that row alone, each taken so often that all directions of free columns agree
      abbrev g : ℕ → ℤ
      g r = (f k *ℤ c) *ℤ number_at (set_row n u) r +ℤ neg_ℤ (s k) *ℤ number_at (set_row n (p ∷ [])) r

      product_with_g : (d : List ℤ) → product d g n ≡ (f k *ℤ c) *ℤ sum_over d u +ℤ neg_ℤ (s k) *ℤ number_at d p
      product_with_g d =
          product-combined_with d (f k *ℤ c) (number_at (set_row n u)) (neg_ℤ (s k)) (number_at (set_row n (p ∷ []))) n
          ∙ ap (λ z. (f k *ℤ c) *ℤ z +ℤ neg_ℤ (s k) *ℤ product d (number_at (set_row n (p ∷ []))) n) (total_is u rows d)
          ∙ ap (λ z. (f k *ℤ c) *ℤ sum_over d u +ℤ neg_ℤ (s k) *ℤ z) (total_is (p ∷ []) (omega arith, below, tt) d ∙ +ℤ_idr (number_at d p))

      follows : ((j : ℕ) → j < n → cond (is_pivot form j) (pos 0) (total_of_pair j) ≡ pos 0) → Still
      follows none d direction zero =
          let whole = sym (product_with_g d) ∙ still g (λ j l free.
          product_with_g (column j) ∙ ap (λ z. (f k *ℤ c) *ℤ s j +ℤ neg_ℤ (s k) *ℤ z) (at_hers j)
          ∙ factored (f k) c (s j) (f j) (s k) (not_chosen j (total_of_pair j) free (none j l))) d direction in
          let nothing : neg_ℤ (s k) *ℤ number_at d p ≡ pos 0 = ap (λ z. neg_ℤ (s k) *ℤ z) zero ∙ *ℤ-zero (neg_ℤ (s k)) in
          zero_product (f k *ℤ c) (sum_over d u) (omega (arith, ints)) (λ e. have_factors.some (zero_product (f k) c e k_some))

      by_two : Still ⊎ Moved
      by_two = elim (columns n (λ j. cond (is_pivot form j) (pos 0) (total_of_pair j))) [
        | inl none ↦ inl (follows none)
        | inr (j, l, differs) ↦
            let found = chosen j (total_of_pair j) (is_pivot form j) refl differs in
            inr (
              pair j,
              direction_mixed (f k) j (neg_ℤ (f j)) k (is_direction width n sets are form reduced narrow j l found.0)
                  (is_direction width n sets are form reduced narrow k k_below k_free),
              number_mixed (f k) j (neg_ℤ (f j)) k p ∙ ap (λ z. neg_ℤ (f j) *ℤ z +ℤ f k *ℤ number_at (column j) p) (at_hers k)
                  ∙ ap (λ z. neg_ℤ (f j) *ℤ (c *ℤ f k) +ℤ f k *ℤ z) (at_hers j) ∙ exchanged (f k) c (f j),
              (λ r. size_mixed (f k) j (neg_ℤ (f j)) k r (have_factors.size k) (let size = have_factors.size j in omega (arith, size, size_negated (f j)))),
              (λ e. found.1 (let whole = sum_mixed (f k) j (neg_ℤ (f j)) k u in omega (arith, ints, whole, e))),
            )
      ]

    still_or_moved : Still ⊎ Moved
    still_or_moved = elim (columns n (λ j. cond (is_pivot form j) (pos 0) (f j))) [
      | inl zeros ↦ by_one zeros
      | inr (k, l, differs) ↦ let found = chosen k (f k) (is_pivot form k) refl differs in by_two k l found.0 found.1
    ]

pub still_or_moved_by_small : StillOrMovedBySmall
still_or_moved_by_small width n sets form u p are rows below reduced narrow = still_or_moved width n sets are form reduced narrow u rows p below
