-- If the reduced form of sets is narrow, the row of a set lies in their span, or a direction that is nowhere above the square of the width
-- changes its total; and a row is pinned, or such a direction isn't 0 there.
--
-- The direction of a free column has the common multiple of the pivot entries there, 0 at the other free columns, and at each pivot what makes
-- up for it. If each of them leaves the total as it is, the rows of the form, each as often as the multiple goes into its pivot entry times
-- the set's entry at the pivot, add up to the multiple of the set's row.
use Rattle.std.proofs.Common.{◌≡◌, ◌≢◌, ℕ, zero, suc, ◌*◌, ◌/◌, ◌<◌, ◌≤◌, Bool, true, false, cond, ◌==◌, ℤ, pos, negsuc, List, [], ◌∷◌, map, length, refl, sym, ap, ◌∙◌, subst, arith, inl, inr, ◌⊎◌}
use Rattle.std.specs.Prelude.{◌+ℤ◌, ◌*ℤ◌, neg_ℤ, ◌<ℤ◌, unsigned_abs}
use Rattle.std.specs.Int.{◌∣◌}
use Rattle.std.specs.List.{AllByRecursion, range_with_len}
use Rattle.std.proofs.lemmas.Bool.{cases_eq, cases_lt, eq-eqb, eqb-true}
use Rattle.std.proofs.lemmas.Int.{ints, unsigned_abs-mul}
use Rattle.std.proofs.lemmas.List.{get_or_past}
use Rattle.std.proofs.lemmas.List.FromFn.{length-map-range_with_len, get_or-map-range_with_len}
use Rattle.std.proofs.Math.IntN.{*ℤ_comm, zero-*ℤ, *ℤ-zero, pos-*ℤ-pos}
use Rattle.std.proofs.Math.Nat.{div-mul_cancel, div-le_self, mul-le-mul, dvd-mul_right, dvd-mul_left_of_dvd, mul-pos, pos_of_dvd_of_pos}
use Rattle.audit_types.specs.Rows.{AreRows}
use Rattle.audit_types.specs.Truth.{number_at, sum_over}
use Rattle.audit_types.specs.Form.{set_row, combined, InSpan, pivot, pivot_entry, pivot_entries, IsPrimitive, IsEchelon, StandsBefore, IsLeastCommonMultiple, Reduced, IsNarrow}
use Rattle.audit_types.specs.Direction.{IsDirection, is_pivot}
use Rattle.audit_types.specs.Extents.{extent_less, extent_within, sum_over_zeros, sum_over_times, zero_by_free}
use Rattle.audit_types.specs.Reach.{Changes}
use Rattle.audit_types.specs.FormRows.{lengths_of_form, at_pivot, later_zero, zero_later}
use Rattle.audit_types.specs.ListLaws.{all-weaker}
use Rattle.audit_types.specs.Numbers.{size_negated, size_positive}
use Rattle.audit_types.specs.Products.{times_assoc, neg-times, zero_product}
use Rattle.audit_types.specs.RowNumbers.{length-set_row}
use Rattle.audit_types.specs.Totals.{total, total-agree, total-add, total-single, product, product-combined_with, product-set_row, products_in_span, sums_from_products}
use Rattle.sum_basis.specs.Spans.{combined_zero, span_trans}
use Rattle.sum_audit.specs.Pivots.{no_pivot, pivots_below}
use Rattle.sum_audit.specs.Laws.{IsSmallFor, SpannedOrMovedBySmall, PinnedOrMovedBySmall}
use Rattle.sum_audit.proofs.Reached.{products_are_zero, is_free, some_there}
use Rattle.sum_audit.proofs.PinnedRows.{pinned_by_unit_row}
use Rattle.sum_audit.proofs.SpannedOrMoved.{columns}

-- a choice is what both of its cases are
pub by_test : (b : Bool) (x y z : ℤ) → (b ≡ true → x ≡ z) → (b ≡ false → y ≡ z) → cond b x y ≡ z
by_test true x y z h k = h refl
by_test false x y z h k = k refl

-- what is small is so at each place
pub at_number : {width : ℕ} (xs : List ℤ) → AllByRecursion (λ x. unsigned_abs x ≤ width) xs → (j : ℕ) → unsigned_abs (number_at xs j) ≤ width
at_number [] h j = omega arith
at_number (x ∷ xs) h zero = h.0
at_number (x ∷ xs) h (suc j) = at_number xs h.1 j

equal_if_no_difference : (a x b y : ℤ) → a *ℤ x +ℤ neg_ℤ b *ℤ y ≡ pos 0 → a *ℤ x ≡ b *ℤ y
equal_if_no_difference a x b y e = let minus = neg-times b y in omega (arith, ints)

-- ---- the direction of a free column

module _ (m : ℕ) (q : List ℤ → ℤ) where
  -- the common multiple at column j, and at the pivot of each row what makes up for it, if q says how often its pivot entry goes into the multiple
  abbrev pub entry_of : List (List ℤ) → ℕ → ℕ → ℤ
  entry_of [] j r = cond (r == j) (pos m) (pos 0)
  entry_of (row ∷ rows) j r = cond (r == pivot row) (neg_ℤ (number_at row j *ℤ q row)) (entry_of rows j r)

  -- how often each row is taken, so that they have at their pivots the multiple of what u has
  abbrev pub taken : (ℕ → ℤ) → List (List ℤ) → List ℤ
  taken u rows = map (λ row. u (pivot row) *ℤ q row) rows

  -- q says that for each row
  abbrev pub Goes : List (List ℤ) → Type 0
  Goes rows = AllByRecursion (λ row. q row *ℤ pivot_entry row ≡ pos m) rows

  -- away from column j and from the pivots it is 0
  pub entry_elsewhere : (rows : List (List ℤ)) (j r : ℕ) → r ≢ j → AllByRecursion (λ row. r ≢ pivot row) rows → entry_of rows j r ≡ pos 0
  entry_elsewhere [] j r other apart = by_test (r == j) (pos m) (pos 0) (pos 0) (λ e. absurd (other (eqb-true r j e))) (λ e. refl)
  entry_elsewhere (row ∷ rows) j r other apart =
      by_test (r == pivot row) (neg_ℤ (number_at row j *ℤ q row)) (entry_of rows j r) (pos 0) (λ e. absurd (apart.0 (eqb-true r (pivot row) e)))
      (λ e. entry_elsewhere rows j r other apart.1)

  -- at column j, which is no pivot, it is the multiple
  pub entry_there : (rows : List (List ℤ)) (j : ℕ) → AllByRecursion (λ row. j ≢ pivot row) rows → entry_of rows j j ≡ pos m
  entry_there [] j apart = ap (λ b. cond b (pos m) (pos 0)) (eq-eqb j j refl)
  entry_there (row ∷ rows) j apart =
      by_test (j == pivot row) (neg_ℤ (number_at row j *ℤ q row)) (entry_of rows j j) (pos m) (λ e. absurd (apart.0 (eqb-true j (pivot row) e)))
      (λ e. entry_there rows j apart.1)

  -- the pivot of a row isn't that of a later one
  pivots_apart : (row : List ℤ) (rows : List (List ℤ)) → AllByRecursion (StandsBefore row) rows → AllByRecursion (λ later. pivot row ≢ pivot later) rows
  pivots_apart row [] h = tt
  pivots_apart row (later ∷ rows) h = ((λ e. let before = h.0.0 in absurd (omega arith)), pivots_apart row rows h.1)

  -- the product of u with the entries: the multiple of u at j, less the rows that are taken
  module _ (n j : ℕ) (below : j < n) (u : ℕ → ℤ) where
    pointwise : (row : List ℤ) (rows : List (List ℤ)) (r : ℕ) → entry_of rows j (pivot row) ≡ pos 0 → (b : Bool) → (r == pivot row) ≡ b →
        u r *ℤ cond b (neg_ℤ (number_at row j *ℤ q row)) (entry_of rows j r) ≡ cond b (u r *ℤ neg_ℤ (number_at row j *ℤ q row))
        (pos 0) +ℤ u r *ℤ entry_of rows j r
    pointwise row rows r none true e =
        let here = ap (λ k. u r *ℤ entry_of rows j k) (eqb-true r (pivot row) e) ∙ ap (λ z. u r *ℤ z) none ∙ *ℤ-zero (u r) in omega (arith, ints)
    pointwise row rows r none false e = omega (arith, ints)

    turned : (a x y : ℤ) → a *ℤ neg_ℤ (x *ℤ y) ≡ neg_ℤ ((a *ℤ y) *ℤ x)
    turned a x y =
        *ℤ_comm a (neg_ℤ (x *ℤ y)) ∙ neg-times (x *ℤ y) a ∙ ap neg_ℤ (*ℤ_comm (x *ℤ y) a ∙ ap (λ z. a *ℤ z) (*ℤ_comm x y) ∙ sym (times_assoc a y x))

    pub product_of_entries : (rows : List (List ℤ)) → IsEchelon rows → AllByRecursion (λ row. pivot row < n) rows → AllByRecursion (λ row. j ≢ pivot row) rows →
        total (λ r. u r *ℤ entry_of rows j r) n +ℤ combined (taken u rows) rows j ≡ pos m *ℤ u j
    product_of_entries [] echelon within apart =
        let one = total-single (λ r. u r *ℤ cond (r == j) (pos m) (pos 0)) n j below
        (λ r l other. ap (λ z. u r *ℤ z) (by_test (r == j) (pos m) (pos 0) (pos 0) (λ e. absurd (other (eqb-true r j e))) (λ e. refl)) ∙ *ℤ-zero (u r)) in
        let here = ap (λ z. u j *ℤ z) (by_test (j == j) (pos m) (pos 0) (pos m) (λ e. refl) (λ e. let same = eq-eqb j j refl in absurd cc))
        ∙ *ℤ_comm (u j) (pos m) in
        omega (arith, ints)
    product_of_entries (row ∷ rows) echelon within apart =
        let p = pivot row in
        let x = neg_ℤ (number_at row j *ℤ q row) in
        let none = entry_elsewhere rows j p (λ e. apart.0 (sym e)) (pivots_apart row rows echelon.0) in
        let split = total-agree (λ r. u r *ℤ cond (r == p) x (entry_of rows j r)) (λ r. cond (r == p) (u r *ℤ x) (pos 0) +ℤ u r *ℤ entry_of rows j r) n
        (λ r l. pointwise row rows r none (r == p) refl) in
        let both = total-add (λ r. cond (r == p) (u r *ℤ x) (pos 0)) (λ r. u r *ℤ entry_of rows j r) n in
        let one = total-single (λ r. cond (r == p) (u r *ℤ x) (pos 0)) n p within.0
        (λ r l other. by_test (r == p) (u r *ℤ x) (pos 0) (pos 0) (λ e. absurd (other (eqb-true r p e))) (λ e. refl)) in
        let here = by_test (p == p) (u p *ℤ x) (pos 0) (u p *ℤ x) (λ e. refl) (λ e. let same = eq-eqb p p refl in absurd cc) in
        let minus = turned (u p) (number_at row j) (q row) in
        let rest = product_of_entries rows echelon.1 within.1 apart.1 in
        omega (arith, ints)

  -- ---- what the rows that are taken come to

  -- a row that is 0 at all pivots takes none
  takes_none : (u : ℕ → ℤ) (rows : List (List ℤ)) (j : ℕ) → AllByRecursion (λ row. u (pivot row) ≡ pos 0) rows → combined (taken u rows) rows j ≡ pos 0
  takes_none u [] j h = refl
  takes_none u (row ∷ rows) j h =
      let first = ap (λ z. (z *ℤ q row) *ℤ number_at row j) h.0 ∙ ap (λ z. z *ℤ number_at row j) (zero-*ℤ (q row)) ∙ zero-*ℤ (number_at row j) in
      let rest = takes_none u rows j h.1 in
      omega (arith, ints)

  -- each row of the form takes itself alone, as often as makes it the multiple
  turn_over : (a b c : ℤ) → b *ℤ a ≡ pos m → (a *ℤ b) *ℤ c ≡ pos m *ℤ c
  turn_over a b c e = ap (λ z. z *ℤ c) (*ℤ_comm a b ∙ e)

  takes_itself : (rows : List (List ℤ)) (j : ℕ) → IsEchelon rows → Goes rows →
      AllByRecursion (λ row. combined (taken (number_at row) rows) rows j ≡ pos m *ℤ number_at row j) rows
  takes_itself [] j echelon goes = tt
  takes_itself (row ∷ rows) j echelon goes = (
    let first = turn_over (pivot_entry row) (q row) (number_at row j) goes.0 in
        let rest = takes_none (number_at row) rows j (zero_later row rows echelon.0) in omega (arith, ints),
    with_first rows (later_zero row rows echelon.0) (takes_itself rows j echelon.1 goes.1),
  )
    where
      with_first : (some : List (List ℤ)) → AllByRecursion (λ later. number_at later (pivot row) ≡ pos 0) some →
          AllByRecursion (λ later. combined (taken (number_at later) rows) rows j ≡ pos m *ℤ number_at later j) some →
          AllByRecursion (λ later. combined (taken (number_at later) (row ∷ rows)) (row ∷ rows) j ≡ pos m *ℤ number_at later j) some
      with_first [] zeros own = tt
      with_first (later ∷ some) zeros own = (
        let none = ap (λ z. (z *ℤ q row) *ℤ number_at row j) zeros.0 ∙ ap (λ z. z *ℤ number_at row j) (zero-*ℤ (q row)) ∙ zero-*ℤ (number_at row j) in
            let rest = own.0 in omega (arith, ints),
        with_first some zeros.1 own.1,
      )

  -- at the pivots the rows that are taken have the multiple of u
  pub at_pivots : (u : ℕ → ℤ) (rows : List (List ℤ)) → IsEchelon rows → Goes rows →
      AllByRecursion (λ row. combined (taken u rows) rows (pivot row) ≡ pos m *ℤ u (pivot row)) rows
  at_pivots u [] echelon goes = tt
  at_pivots u (row ∷ rows) echelon goes = (
    let first = times_assoc (u (pivot row)) (q row) (pivot_entry row) ∙ ap (λ z. u (pivot row) *ℤ z) goes.0 ∙ *ℤ_comm (u (pivot row)) (pos m) in
        let rest = combined_zero (taken u rows) rows (pivot row) (later_zero row rows echelon.0) in omega (arith, ints),
    with_first rows (zero_later row rows echelon.0) (at_pivots u rows echelon.1 goes.1),
  )
    where
      with_first : (some : List (List ℤ)) → AllByRecursion (λ later. number_at row (pivot later) ≡ pos 0) some →
          AllByRecursion (λ later. combined (taken u rows) rows (pivot later) ≡ pos m *ℤ u (pivot later)) some →
          AllByRecursion (λ later. combined (taken u (row ∷ rows)) (row ∷ rows) (pivot later) ≡ pos m *ℤ u (pivot later)) some
      with_first [] zeros own = tt
      with_first (later ∷ some) zeros own = (
        let none = ap (λ z. (u (pivot row) *ℤ q row) *ℤ z) zeros.0 ∙ *ℤ-zero (u (pivot row) *ℤ q row) in let rest = own.0 in omega (arith, ints),
        with_first some zeros.1 own.1,
      )

  -- ---- how large the entries are

  module _ (width : ℕ) (few : m ≤ width) (some : 0 < m) where
    of_choice : (b : Bool) (x y : ℤ) → unsigned_abs x ≤ width * width → unsigned_abs y ≤ width * width → unsigned_abs (cond b x y) ≤ width * width
    of_choice true x y h k = h
    of_choice false x y h k = k

    multiple_small : unsigned_abs (pos m) ≤ width * width
    multiple_small = let one : 1 ≤ width = omega arith in let square = mul-le-mul {n₂ = width} {m₂ = width} few one in omega arith

    product_small : (x y : ℤ) → unsigned_abs x ≤ width → unsigned_abs y ≤ width → unsigned_abs (neg_ℤ (x *ℤ y)) ≤ width * width
    product_small x y h k = rw (size_negated (x *ℤ y)) (rw (unsigned_abs-mul x y) (mul-le-mul {n₂ = width} {m₂ = width} h k))

    size_of_entry : (rows : List (List ℤ)) (j : ℕ) → AllByRecursion (AllByRecursion (λ x. unsigned_abs x ≤ width)) rows →
        AllByRecursion (λ row. unsigned_abs (q row) ≤ width) rows →
        (r : ℕ) → unsigned_abs (entry_of rows j r) ≤ width * width
    size_of_entry [] j entries times r = of_choice (r == j) (pos m) (pos 0) multiple_small (omega arith)
    size_of_entry (row ∷ rows) j entries times r =
        of_choice (r == pivot row) (neg_ℤ (number_at row j *ℤ q row)) (entry_of rows j r)
        (product_small (number_at row j) (q row) (at_number row entries.0 j) times.0)
        (size_of_entry rows j entries.1 times.1 r)

-- ---- how often the pivot entries go into their common multiple

abbrev pub quotient : ℕ → List ℤ → ℤ
quotient m row = pos (m / unsigned_abs (pivot_entry row))

quotient_is : (m : ℕ) (p : ℤ) → pos 0 <ℤ p → unsigned_abs p ∣ m → pos (m / unsigned_abs p) *ℤ p ≡ pos m
quotient_is m (pos a) h divides = pos-*ℤ-pos (m / a) a ∙ ap pos (div-mul_cancel a divides)
quotient_is m (negsuc a) h divides = absurd (omega (arith, ints))

quotients : (n m : ℕ) (rows : List (List ℤ)) → AllByRecursion (IsPrimitive n) rows → AllByRecursion (λ x. x ∣ m) (pivot_entries rows) → Goes m (quotient m) rows
quotients n m [] primitive divide = tt
quotients n m (row ∷ rows) primitive divide = (quotient_is m (pivot_entry row) primitive.0.leading divide.0, quotients n m rows primitive.1 divide.1)

small_quotients : (m width : ℕ) (rows : List (List ℤ)) → m ≤ width → AllByRecursion (λ row. unsigned_abs (quotient m row) ≤ width) rows
small_quotients m width [] few = tt
small_quotients m width (row ∷ rows) few = (let less = div-le_self m (unsigned_abs (pivot_entry row)) in omega arith, small_quotients m width rows few)

-- the product of numbers is a multiple of each
abbrev product_of : List ℕ → ℕ
product_of [] = 1
product_of (x ∷ xs) = x * product_of xs

divide_product : (xs : List ℕ) → AllByRecursion (λ x. x ∣ product_of xs) xs
divide_product [] = tt
divide_product (x ∷ xs) = (
  dvd-mul_right x (product_of xs),
  all-weaker (λ y. y ∣ product_of xs) (λ y. y ∣ (x * product_of xs)) (λ y divides. dvd-mul_left_of_dvd y divides x) xs (divide_product xs),
)

product_positive : (n : ℕ) (rows : List (List ℤ)) → AllByRecursion (IsPrimitive n) rows → 0 < product_of (pivot_entries rows)
product_positive n [] primitive = omega arith
product_positive n (row ∷ rows) primitive = mul-pos (size_positive (pivot_entry row) primitive.0.leading) (product_positive n rows primitive.1)

-- the common multiple of the pivot entries isn't 0
common_positive : (n m : ℕ) (rows : List (List ℤ)) → AllByRecursion (IsPrimitive n) rows → IsLeastCommonMultiple (pivot_entries rows) m → 0 < m
common_positive n m rows primitive is = pos_of_dvd_of_pos (is.least (product_of (pivot_entries rows)) (divide_product (pivot_entries rows)))
    (product_positive n rows primitive)

-- ---- the form of some sets

module _ (width n : ℕ) (sets : List (List ℕ)) (are : AllByRecursion (AreRows n) sets) (form : List (List ℤ)) (reduced : Reduced n sets form)
    (narrow : IsNarrow width form) where
  abbrev m : ℕ
  m = narrow.common

  pub positive : 0 < m
  positive = common_positive n m form reduced.primitive narrow.common_is

  pub goes : Goes m (quotient m) form
  goes = quotients n m form reduced.primitive narrow.common_is.multiple

  -- the direction of a column
  abbrev pub along : ℕ → List ℤ
  along j = map (entry_of m (quotient m) form j) (range_with_len 0 n)

  pub number_along : (j r : ℕ) → r < n → number_at (along j) r ≡ entry_of m (quotient m) form j r
  number_along j r l = get_or-map-range_with_len (entry_of m (quotient m) form j) 0 n r r (pos 0) l (omega arith)

  pub small : (j r : ℕ) → unsigned_abs (number_at (along j) r) ≤ width * width
  small j r = elim (cases_lt r n) [
    | inl l ↦ subst (λ z. unsigned_abs z ≤ width * width) (sym (number_along j r l))
        (size_of_entry m (quotient m) width narrow.common_small positive form j narrow.entries (small_quotients m width form narrow.common_small) r)
    | inr past ↦ subst (λ z. unsigned_abs z ≤ width * width)
        (sym (get_or_past (along j) r (pos 0) (let all = length-map-range_with_len (entry_of m (quotient m) form j) 0 n in omega arith))) (omega arith)
  ]

  -- at the other free columns it is 0
  only : (j i : ℕ) → is_pivot form i ≡ false → i ≢ j → number_at (along j) i ≡ pos 0
  only j i free other = elim (cases_lt i n) [
    | inl below ↦ number_along j i below ∙ entry_elsewhere m (quotient m) form j i other (no_pivot form i free)
    | inr past ↦ get_or_past (along j) i (pos 0) (let all = length-map-range_with_len (entry_of m (quotient m) form j) 0 n in omega arith)
  ]

  module _ (j : ℕ) (below : j < n) (free : is_pivot form j ≡ false) where
    -- the product of a row with it
    product_along : (row : List ℤ) → product row (number_at (along j)) n +ℤ combined (taken m (quotient m) (number_at row) form) form j
        ≡ pos m *ℤ number_at row j
    product_along row =
        let read = total-agree (λ r. number_at row r *ℤ number_at (along j) r) (λ r. number_at row r *ℤ entry_of m (quotient m) form j r) n
        (λ r l. ap (λ z. number_at row r *ℤ z) (number_along j r l)) in
        let whole = product_of_entries m (quotient m) n j below (number_at row) form reduced.echelon (pivots_below n form reduced.primitive)
        (no_pivot form j free) in
        omega (arith, ints)

    orthogonal : (rows : List (List ℤ)) → AllByRecursion (λ row. combined (taken m (quotient m) (number_at row) form) form j ≡ pos m *ℤ number_at row j) rows →
        AllByRecursion (λ row. product row (number_at (along j)) n ≡ pos 0) rows
    orthogonal [] own = tt
    orthogonal (row ∷ rows) own = ((let whole = product_along row in let here = own.0 in omega (arith, ints)), orthogonal rows own.1)

    pub is_direction : IsDirection n sets (along j)
    is_direction = record {
      one_each = length-map-range_with_len (entry_of m (quotient m) form j) 0 n;
      zero_sums =
          sums_from_products n (along j) sets are (products_in_span n (number_at (along j)) form (map (set_row n) sets)
          (orthogonal form (takes_itself m (quotient m) form j reduced.echelon goes)) reduced.spans);
    }

  module _ (u : List ℕ) (rows : AreRows n u) where
    -- the total of a free column's direction, and 0 for a pivot
    abbrev moved_at : ℕ → ℤ
    moved_at j = cond (is_pivot form j) (pos 0) (sum_over (along j) u)

    -- if none of them moves the total, the rows that are taken are the multiple of the set's row
    taken_at : ((j : ℕ) → j < n → moved_at j ≡ pos 0) → (j : ℕ) → (b : Bool) → is_pivot form j ≡ b →
        pos m *ℤ number_at (set_row n u) j ≡ combined (taken m (quotient m) (number_at (set_row n u)) form) form j
    taken_at none j true there =
        sym (at_pivot (λ k. combined (taken m (quotient m) (number_at (set_row n u)) form) form k ≡ pos m *ℤ number_at (set_row n u) k) form j
        (at_pivots m (quotient m) (number_at (set_row n u)) form reduced.echelon goes) there)
    taken_at none j false free = elim (cases_lt j n) [
      | inl below ↦
          let whole = product_along j below free (set_row n u) in
          let sum = product-set_row (along j) n u rows in
          let still = ap (λ b. cond b (pos 0) (sum_over (along j) u)) (sym free) ∙ none j below in
          omega (arith, ints)
      | inr past ↦
          let zeros = combined_zero (taken m (quotient m) (number_at (set_row n u)) form) form j
          (past_all form (lengths_of_form n form reduced.primitive) past) in
          let here = ap (λ z. pos m *ℤ z) (get_or_past (set_row n u) j (pos 0) (let all = length-set_row n u in omega arith)) ∙ *ℤ-zero (pos m) in
          omega (arith, ints)
    ]
      where
        past_all : (some : List (List ℤ)) → AllByRecursion (λ r. length r ≡ n) some → n ≤ j → AllByRecursion (λ row. number_at row j ≡ pos 0) some
        past_all [] lengths past = tt
        past_all (row ∷ some) lengths past = (get_or_past row j (pos 0) (let all = lengths.0 in omega arith), past_all some lengths.1 past)

    spanned : ((j : ℕ) → j < n → moved_at j ≡ pos 0) → InSpan (map (set_row n) sets) (set_row n u)
    spanned none = span_trans (map (set_row n) sets) form (set_row n u) reduced.within (record {
      multiple = m;
      positive = positive;
      coefficients = taken m (quotient m) (number_at (set_row n u)) form;
      is = λ j. taken_at none j (is_pivot form j) refl;
    })

    moves : (j : ℕ) (b : Bool) → is_pivot form j ≡ b → cond b (pos 0) (sum_over (along j) u) ≢ pos 0 → (is_pivot form j ≡ false) ×
        (sum_over (along j) u ≢ pos 0)
    moves j true e differs = absurd (differs refl)
    moves j false e differs = (e, differs)

    -- some direction of a free column moves it
    changes_here : (j : ℕ) → j < n → is_pivot form j ≡ false → sum_over (along j) u ≢ pos 0 → Changes n sets form n (λ w. sum_over w u)
    changes_here j below free moved = record {
      direction = along j;
      still = is_direction j below free;
      column = j;
      only = only j;
      near = let least = extent_within (along j) in let all = length-map-range_with_len (entry_of m (quotient m) form j) 0 n in omega arith;
      changed = moved;
    }

    spanned_or_changes : InSpan (map (set_row n) sets) (set_row n u) ⊎ Changes n sets form n (λ w. sum_over w u)
    spanned_or_changes = elim (columns n moved_at) [
      | inl none ↦ inl (spanned none)
      | inr (j, below, differs) ↦ let found = moves j (is_pivot form j) refl differs in inr (changes_here j below found.0 found.1)
    ]

  -- ---- another direction of the same free column

  module _ (reach : ℕ) (value : List ℤ → ℤ) (none : (d : List ℤ) → ((i : ℕ) → number_at d i ≡ pos 0) → value d ≡ pos 0)
      (times : (a b : ℤ) (d e : List ℤ) → ((i : ℕ) → a *ℤ number_at e i ≡ b *ℤ number_at d i) → a *ℤ value e ≡ b *ℤ value d)
      (c : Changes n sets form reach value) where
    free_there : is_pivot form c.column ≡ false
    free_there = is_free n sets form are reduced reach value none c

    below_there : c.column < n
    below_there = elim (cases_lt c.column n) [
      | inl below ↦ below
      | inr past ↦ absurd (some_there n sets form are reduced reach value none c
          (get_or_past c.direction c.column (pos 0) (let all = c.still.one_each in omega arith)))
    ]

    abbrev a : ℤ
    a = number_at c.direction c.column

    abbrev e : List ℤ
    e = along c.column

    there : number_at e c.column ≡ pos m
    there = number_along c.column c.column below_there ∙ entry_there m (quotient m) form c.column (no_pivot form c.column free_there)

    -- it is a multiple of the direction that changes the value: their difference is 0 at all free columns
    abbrev difference : ℕ → ℤ
    difference i = a *ℤ number_at e i +ℤ neg_ℤ (pos m) *ℤ number_at c.direction i

    products_of_both : (rows : List (List ℤ)) → AllByRecursion (λ row. product row (number_at e) n ≡ pos 0) rows →
        AllByRecursion (λ row. product row (number_at c.direction) n ≡ pos 0) rows → AllByRecursion (λ row. product row difference n ≡ pos 0) rows
    products_of_both [] first second = tt
    products_of_both (row ∷ rows) first second = (
      product-combined_with row a (number_at e) (neg_ℤ (pos m)) (number_at c.direction) n
          ∙ ap (λ z. a *ℤ z +ℤ neg_ℤ (pos m) *ℤ product row (number_at c.direction) n) first.0 ∙ ap (λ z. a *ℤ pos 0 +ℤ neg_ℤ (pos m) *ℤ z) second.0
          ∙ ap (λ z. z +ℤ neg_ℤ (pos m) *ℤ pos 0) (*ℤ-zero a) ∙ ap (λ z. pos 0 +ℤ z) (*ℤ-zero (neg_ℤ (pos m))),
      products_of_both rows first.1 second.1,
    )

    free_difference : (i : ℕ) → is_pivot form i ≡ false → difference i ≡ pos 0
    free_difference i free = elim (cases_eq i c.column) [
      | inl same ↦
          let here = ap (λ z. a *ℤ z) (ap (number_at e) same ∙ there) in
          let other = ap (λ k. neg_ℤ (pos m) *ℤ number_at c.direction k) same ∙ neg-times (pos m) a in
          let turned = *ℤ_comm a (pos m) in
          omega (arith, ints)
      | inr other ↦
          ap (λ z. a *ℤ z +ℤ neg_ℤ (pos m) *ℤ number_at c.direction i) (only c.column i free other)
          ∙ ap (λ z. a *ℤ pos 0 +ℤ neg_ℤ (pos m) *ℤ z) (c.only i free other)
          ∙ ap (λ z. z +ℤ neg_ℤ (pos m) *ℤ pos 0) (*ℤ-zero a) ∙ ap (λ z. pos 0 +ℤ z) (*ℤ-zero (neg_ℤ (pos m)))
    ]

    no_difference : (i : ℕ) → difference i ≡ pos 0
    no_difference i = elim (cases_lt i n) [
      | inl below ↦ zero_by_free n form difference (λ k l free. free_difference k free) reduced.primitive reduced.echelon
          (products_of_both form (products_are_zero n sets form are reduced e (is_direction c.column below_there free_there))
          (products_are_zero n sets form are reduced c.direction c.still)) i below
      | inr past ↦
          ap (λ z. a *ℤ z +ℤ neg_ℤ (pos m) *ℤ number_at c.direction i)
          (get_or_past e i (pos 0) (let all = length-map-range_with_len (entry_of m (quotient m) form c.column) 0 n in omega arith))
          ∙ ap (λ z. a *ℤ pos 0 +ℤ neg_ℤ (pos m) *ℤ z) (get_or_past c.direction i (pos 0) (let all = c.still.one_each in omega arith))
          ∙ ap (λ z. z +ℤ neg_ℤ (pos m) *ℤ pos 0) (*ℤ-zero a) ∙ ap (λ z. pos 0 +ℤ z) (*ℤ-zero (neg_ℤ (pos m)))
    ]

    differs_nowhere : (i : ℕ) → a *ℤ number_at e i ≡ pos m *ℤ number_at c.direction i
    differs_nowhere i = equal_if_no_difference a (number_at e i) (pos m) (number_at c.direction i) (no_difference i)

    -- so it changes the value too, at no more rows
    small_change : (d : List ℤ) × IsDirection n sets d × IsSmallFor width reach d × (value d ≢ pos 0)
    small_change = (
      e,
      is_direction c.column below_there free_there,
      record {
        size = small c.column;
        near =
            let less = extent_less c.direction e (λ i zero. zero_product a (number_at e i) (differs_nowhere i ∙ ap (λ z. pos m *ℤ z) zero ∙ *ℤ-zero (pos m))
            (some_there n sets form are reduced reach value none c)) in
            let near = c.near in omega arith;
      },
      λ still. c.changed (zero_product (pos m) (value c.direction) (sym (times a (pos m) c.direction e differs_nowhere) ∙ ap (λ z. a *ℤ z) still ∙ *ℤ-zero a)
          (λ nothing. let some = positive in omega (arith, ints))),
    )

pub spanned_or_moved_by_small : SpannedOrMovedBySmall
spanned_or_moved_by_small width reach n sets form u are rows reduced narrow near = elim (spanned_or_changes width n sets are form reduced narrow u rows) [
  | inl span ↦ inl span
  | inr changes ↦ inr (small_change width n sets are form reduced narrow reach (λ w. sum_over w u) (λ d none. sum_over_zeros d u none)
      (λ a b d e same. sum_over_times a b d e u same) (near changes))
]

-- so a row that isn't pinned has such a direction
pub pinned_or_moved_by_small : PinnedOrMovedBySmall
pinned_or_moved_by_small width reach n sets form i are below reduced narrow near =
    elim (spanned_or_changes width n sets are form reduced narrow (i ∷ []) (omega arith, below, tt)) [
      | inl span ↦ inl ((pinned_by_unit_row n sets i are below).1 span)
      | inr c ↦ inr (small_change width n sets are form reduced narrow reach (λ w. number_at w i) (λ d none. none i) (λ a b d e same. same i) (near (record {
        direction = c.direction;
        still = c.still;
        column = c.column;
        only = c.only;
        near = c.near;
        changed = λ e. c.changed (omega (arith, ints));
      })))
    ]
