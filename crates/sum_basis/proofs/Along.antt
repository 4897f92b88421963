-- Directions of the free columns of a form: each has one, and the rows of the form tell where it isn't 0.
--
-- A direction of a free column j is 0 at the other free columns. So the product with a row of the form has two numbers other than 0 at
-- most: at the row's pivot, and at j. As it is 0, the direction isn't 0 at the pivot exactly if the row isn't 0 at j.
use Rattle.std.proofs.Common.{◌≡◌, ◌≢◌, ℕ, zero, suc, ◌+◌, ◌<◌, Bool, true, false, cond, ◌||◌, ◌==◌, ℤ, pos, List, [], ◌∷◌, length, map, refl, sym, ap, ◌∙◌, arith, inl, inr}
use Rattle.std.specs.Prelude.{◌+ℤ◌, ◌*ℤ◌, neg_ℤ, not}
use Rattle.std.specs.List.{AllByRecursion, range_with_len}
use Rattle.std.proofs.lemmas.Int.{ints}
use Rattle.std.proofs.lemmas.Bool.{cases_eq, cases_lt, eq-eqb, ne_eqb, or_parts, or_right, true≢false}
use Rattle.std.proofs.lemmas.List.{get_or_past}
use Rattle.std.proofs.lemmas.List.Sums.{sum_by-cons}
use Rattle.std.proofs.lemmas.List.FromFn.{length-map-range_with_len, get_or-map-range_with_len}
use Rattle.std.proofs.Math.IntN.{*ℤ_comm, zero-*ℤ, *ℤ-zero}
use Rattle.audit_types.specs.Truth.{is_zero, number_at}
use Rattle.audit_types.specs.Form.{pivot, pivot_entry, IsPrimitive, IsEchelon, StandsBefore}
use Rattle.audit_types.specs.FormRows.{pivot_below, later_zero, zero_at_others, IsZeroAtOthers}
use Rattle.audit_types.specs.Direction.{is_pivot}
use Rattle.audit_types.specs.Reach.{extent}
use Rattle.audit_types.specs.Numbers.{zero_from_test, not_zero_from_test, test_of_not_zero, positive_not_zero}
use Rattle.audit_types.specs.Products.{neg-times, one-times, zero_product, product_not_zero}
use Rattle.audit_types.specs.Totals.{total, total-agree, total-add, total-single, product, product-combined_with}
use Rattle.sum_basis.specs.Reach.{IsAlong, one_if, met}

-- ---- totals

-- a function without its value at a place
abbrev pub without : (ℕ → ℤ) → ℕ → ℕ → ℤ
without f p i = cond (p == i) (pos 0) (f i)

apart : (b : Bool) (x : ℤ) → x ≡ cond b x (pos 0) +ℤ cond b (pos 0) x
apart true x = omega (arith, ints)
apart false x = omega (arith, ints)

-- a total is the value at one place and the total without it
pub total-without : (f : ℕ → ℤ) (n p : ℕ) → p < n → total f n ≡ f p +ℤ total (without f p) n
total-without f n p l =
    total-agree f (λ i. cond (p == i) (f i) (pos 0) +ℤ without f p i) n (λ i m. apart (p == i) (f i))
    ∙ total-add (λ i. cond (p == i) (f i) (pos 0)) (without f p) n
    ∙ ap (λ z. z +ℤ total (without f p) n)
    (total-single (λ i. cond (p == i) (f i) (pos 0)) n p l (λ i m other. ap (λ b. cond b (f i) (pos 0)) (ne_eqb p i (λ e. other (sym e))))
    ∙ ap (λ b. cond b (f p) (pos 0)) (eq-eqb p p refl))

-- if all values but two are 0, the total is their sum
pub total-two : (f : ℕ → ℤ) (n a b : ℕ) → a < n → b < n → a ≢ b → ((i : ℕ) → i < n → i ≢ a → i ≢ b → f i ≡ pos 0) → total f n ≡ f a +ℤ f b
total-two f n a b l m differ zeros =
    total-without f n a l ∙ ap (λ z. f a +ℤ z)
    (total-single (without f a) n b m (λ i k other. elim (cases_eq a i) [
      | inl e ↦ ap (λ t. cond t (pos 0) (f i)) (eq-eqb a i e)
      | inr not_a ↦ ap (λ t. cond t (pos 0) (f i)) (ne_eqb a i not_a) ∙ zeros i k (λ e. not_a (sym e)) other
    ]) ∙ ap (λ t. cond t (pos 0) (f b)) (ne_eqb a b differ))

-- ---- pivots

-- a column that is the pivot of a row, or of a later one
pivot_first : (row : List ℤ) (rows : List (List ℤ)) → is_pivot (row ∷ rows) (pivot row) ≡ true
pivot_first row rows = ap (λ b. b || is_pivot rows (pivot row)) (eq-eqb (pivot row) (pivot row) refl)

-- each row's pivot is a pivot
pub own_pivots : (form : List (List ℤ)) → AllByRecursion (λ row. is_pivot form (pivot row) ≡ true) form
own_pivots form = go form form (λ i e. e)
  where
    go : (rows some : List (List ℤ)) → ((i : ℕ) → is_pivot some i ≡ true → is_pivot rows i ≡ true) →
        AllByRecursion (λ row. is_pivot rows (pivot row) ≡ true) some
    go rows [] keeps = tt
    go rows (row ∷ some) keeps = (
      keeps (pivot row) (pivot_first row some),
      go rows some (λ i e. keeps i (or_right (pivot row == i) (is_pivot some i) e)),
    )

-- the pivot of a row is that of no later one
pub first_only : (row : List ℤ) (rows : List (List ℤ)) → AllByRecursion (StandsBefore row) rows → is_pivot rows (pivot row) ≡ false
first_only row [] h = refl
first_only row (next ∷ rows) h =
    let order = h.0.0 in ap (λ b. b || is_pivot rows (pivot row)) (ne_eqb (pivot next) (pivot row) (λ e. omega arith)) ∙ first_only row rows h.1

-- ---- where a direction isn't 0

module _ (n : ℕ) (form : List (List ℤ)) (primitive : AllByRecursion (IsPrimitive n) form) (echelon : IsEchelon form) (j : ℕ) (d : List ℤ)
    (along : IsAlong n form j d) where
  -- the column is one of the n
  pub column_below : j < n
  column_below = elim (cases_lt j n) [
    | inl l ↦ l
    | inr past ↦ absurd (along.some (get_or_past d j (pos 0) (let all = along.one_each in omega arith)))
  ]

  -- at a column where the row is 0 if it is a pivot, the product is 0, unless it is j
  pub product_only : (row : List ℤ) → ((i : ℕ) → is_pivot form i ≡ true → number_at row i ≡ pos 0) → product row (number_at d) n
      ≡ number_at row j *ℤ number_at d j
  product_only row zeros = total-single (λ i. number_at row i *ℤ number_at d i) n j column_below (λ i l other. go (is_pivot form i) i other refl)
    where
      go : (b : Bool) (i : ℕ) → i ≢ j → is_pivot form i ≡ b → number_at row i *ℤ number_at d i ≡ pos 0
      go true i other e = ap (λ z. z *ℤ number_at d i) (zeros i e) ∙ zero-*ℤ (number_at d i)
      go false i other e = ap (λ z. number_at row i *ℤ z) (along.only i e other) ∙ *ℤ-zero (number_at row i)

  -- a row that is 0 at each pivot but its own
  at_row : (row : List ℤ) → IsPrimitive n row → IsZeroAtOthers form row → is_pivot form (pivot row) ≡ true → product row (number_at d) n ≡ pos 0 →
      pivot_entry row *ℤ number_at d (pivot row) +ℤ number_at row j *ℤ number_at d j ≡ pos 0
  at_row row is zeros own none =
      sym (total-two (λ i. number_at row i *ℤ number_at d i) n (pivot row) j (pivot_below n row is) column_below
      (λ e. true≢false (sym own ∙ ap (is_pivot form) e ∙ along.free)) (λ i l not_pivot not_j. go (is_pivot form i) i not_pivot not_j refl)) ∙ none
    where
      go : (b : Bool) (i : ℕ) → i ≢ pivot row → i ≢ j → is_pivot form i ≡ b → number_at row i *ℤ number_at d i ≡ pos 0
      go true i not_pivot not_j e = ap (λ z. z *ℤ number_at d i) (zeros i e not_pivot) ∙ zero-*ℤ (number_at d i)
      go false i not_pivot not_j e = ap (λ z. number_at row i *ℤ z) (along.only i e not_j) ∙ *ℤ-zero (number_at row i)

  -- the direction is 0 at its pivot exactly if it is 0 at j
  pub zero_there : (row : List ℤ) → IsPrimitive n row → IsZeroAtOthers form row → is_pivot form (pivot row) ≡ true → product row (number_at d) n ≡ pos 0 →
      number_at d (pivot row) ≡ pos 0 → number_at row j ≡ pos 0
  zero_there row is zeros own none e =
      let whole = at_row row is zeros own none in
      let first = ap (λ z. pivot_entry row *ℤ z) e ∙ *ℤ-zero (pivot_entry row) in
      let turned = *ℤ_comm (number_at row j) (number_at d j) in
      zero_product (number_at d j) (number_at row j) (omega (arith, ints)) along.some

  pub zero_back : (row : List ℤ) → IsPrimitive n row → IsZeroAtOthers form row → is_pivot form (pivot row) ≡ true → product row (number_at d) n ≡ pos 0 →
      number_at row j ≡ pos 0 → number_at d (pivot row) ≡ pos 0
  zero_back row is zeros own none e =
      let whole = at_row row is zeros own none in
      let last = ap (λ z. z *ℤ number_at d j) e ∙ zero-*ℤ (number_at d j) in
      zero_product (pivot_entry row) (number_at d (pivot row)) (omega (arith, ints)) (positive_not_zero (pivot_entry row) is.leading)

-- ---- how many numbers of a direction aren't 0

-- 1 for a number other than 0
abbrev some_at : (ℕ → ℤ) → ℕ → ℤ
some_at f i = pos (one_if (f i))

total-first : (f : ℕ → ℤ) (n : ℕ) → total f (suc n) ≡ f 0 +ℤ total (λ i. f (suc i)) n
total-first f zero = omega (arith, ints)
total-first f (suc n) = let before = total-first f n in omega (arith, ints)

same_one : (b : Bool) → ◌≡◌ {A = ℕ} (cond (not b) 1 0) (cond b 0 1)
same_one true = refl
same_one false = refl

-- the count of the numbers other than 0, as a total
extent_total : (d : List ℤ) → pos (extent d) ≡ total (some_at (number_at d)) (length d)
extent_total [] = refl
extent_total (x ∷ d) =
    let step : extent (x ∷ d) ≡ one_if x + extent d = sum_by-cons (λ (z : ℤ). cond (not (is_zero z)) 1 0) x d
    ∙ ap (λ (m : ℕ). m + extent d) (same_one (is_zero x)) in
    let sum : pos (one_if x + extent d) ≡ pos (one_if x) +ℤ pos (extent d) = omega (arith, ints) in
    ap pos step ∙ sum ∙ ap (λ z. pos (one_if x) +ℤ z) (extent_total d) ∙ sym (total-first (some_at (number_at (x ∷ d))) (length d))

-- a function that is 0 at the pivots of the rows
abbrev off_pivots : List (List ℤ) → (ℕ → ℤ) → ℕ → ℤ
off_pivots rows f i = cond (is_pivot rows i) (pos 0) (f i)

-- the sum of its values at the pivots
abbrev at_pivots : List (List ℤ) → (ℕ → ℤ) → ℤ
at_pivots [] f = pos 0
at_pivots (row ∷ rows) f = f (pivot row) +ℤ at_pivots rows f

one_more_off : (here later : Bool) (x : ℤ) → cond here (pos 0) (cond later (pos 0) x) ≡ cond (here || later) (pos 0) x
one_more_off true later x = refl
one_more_off false later x = refl

-- a total is the sum at the pivots, and the total of the rest
total_by_pivots : (f : ℕ → ℤ) (n : ℕ) (rows : List (List ℤ)) → AllByRecursion (IsPrimitive n) rows → IsEchelon rows →
    total f n ≡ at_pivots rows f +ℤ total (off_pivots rows f) n
total_by_pivots f n [] p h = let same = total-agree f (off_pivots [] f) n (λ i l. refl) in omega (arith, ints)
total_by_pivots f n (row ∷ rows) p h =
    let rest = total_by_pivots f n rows p.1 h.1 in
    let here = total-without (off_pivots rows f) n (pivot row) (pivot_below n row p.0) in
    let value : off_pivots rows f (pivot row) ≡ f (pivot row) = ap (λ b. cond b (pos 0) (f (pivot row))) (first_only row rows h.0) in
    let both = total-agree (without (off_pivots rows f) (pivot row)) (off_pivots (row ∷ rows) f) n
    (λ i l. one_more_off (pivot row == i) (is_pivot rows i) (f i)) in
    omega (arith, ints)

-- numbers that are 0 together count alike
pub one_alike : (x y : ℤ) → (x ≡ pos 0 → y ≡ pos 0) → (y ≡ pos 0 → x ≡ pos 0) → one_if x ≡ one_if y
one_alike x y there back = go (is_zero x) (is_zero y) refl refl
  where
    go : (a b : Bool) → is_zero x ≡ a → is_zero y ≡ b → one_if x ≡ one_if y
    go true true e g = ap (λ t. cond t 0 1) e ∙ sym (ap (λ t. cond t 0 1) g)
    go false false e g = ap (λ t. cond t 0 1) e ∙ sym (ap (λ t. cond t 0 1) g)
    go true false e g = absurd (not_zero_from_test y g (there (zero_from_test x e)))
    go false true e g = absurd (not_zero_from_test x e (back (zero_from_test y g)))

module _ (n : ℕ) (form : List (List ℤ)) (primitive : AllByRecursion (IsPrimitive n) form) (echelon : IsEchelon form) (j : ℕ) (d : List ℤ)
    (along : IsAlong n form j d) where
  met_at_pivots : (rows : List (List ℤ)) → AllByRecursion (IsPrimitive n) rows → AllByRecursion (IsZeroAtOthers form) rows →
      AllByRecursion (λ row. is_pivot form (pivot row) ≡ true) rows → AllByRecursion (λ row. product row (number_at d) n ≡ pos 0) rows →
      at_pivots rows (some_at (number_at d)) ≡ pos (met rows j)
  met_at_pivots [] p z o h = refl
  met_at_pivots (row ∷ rows) p z o h =
      let rest = met_at_pivots rows p.1 z.1 o.1 h.1 in
      let first =
      one_alike (number_at d (pivot row)) (number_at row j) (zero_there n form primitive echelon j d along row p.0 z.0 o.0 h.0)
      (zero_back n form primitive echelon j d along row p.0 z.0 o.0 h.0) in
      omega (arith, ints)

  rest_is_one : total (off_pivots form (some_at (number_at d))) n ≡ pos 1
  rest_is_one =
      total-single (off_pivots form (some_at (number_at d))) n j (column_below n form primitive echelon j d along)
      (λ i l other. go (is_pivot form i) i other refl)
      ∙ ap (λ b. cond b (pos 0) (some_at (number_at d) j)) along.free ∙ ap (λ b. pos (cond b 0 1)) (test_of_not_zero (number_at d j) along.some)
    where
      go : (b : Bool) (i : ℕ) → i ≢ j → is_pivot form i ≡ b → off_pivots form (some_at (number_at d)) i ≡ pos 0
      go true i other e = ap (λ t. cond t (pos 0) (some_at (number_at d) i)) e
      go false i other e = ap (λ t. cond t (pos 0) (some_at (number_at d) i)) e ∙ ap (λ z. pos (one_if z)) (along.only i e other)

  -- a direction isn't 0 at its free column, and at the pivots of the rows that aren't 0 there
  pub extent_is : extent d ≡ 1 + met form j
  extent_is =
      let whole = extent_total d ∙ ap (total (some_at (number_at d))) along.one_each in
      let parts = total_by_pivots (some_at (number_at d)) n form primitive echelon in
      let pivots = met_at_pivots form primitive (zero_at_others form echelon) (own_pivots form) along.zeros in
      let free = rest_is_one in
      omega (arith, ints)

-- ---- each free column has a direction

-- 1 at a place
abbrev spike : ℕ → ℕ → ℤ
spike p i = cond (p == i) (pos 1) (pos 0)

product-spike : (row : List ℤ) (n p : ℕ) → p < n → product row (spike p) n ≡ number_at row p
product-spike row n p l =
    total-single (λ i. number_at row i *ℤ spike p i) n p l
    (λ i m other. ap (λ b. number_at row i *ℤ cond b (pos 1) (pos 0)) (ne_eqb p i (λ e. other (sym e))) ∙ *ℤ-zero (number_at row i))
    ∙ ap (λ b. number_at row p *ℤ cond b (pos 1) (pos 0)) (eq-eqb p p refl) ∙ *ℤ_comm (number_at row p) (pos 1) ∙ one-times (number_at row p)

-- what is orthogonal to the rows after a row, and 0 at its pivot, is made orthogonal to it too by what it has at its pivot
abbrev along_from : ℕ → List (List ℤ) → ℕ → ℕ → ℤ
along_from n [] j i = spike j i
along_from n (row ∷ rows) j i = pivot_entry row *ℤ along_from n rows j i +ℤ neg_ℤ (product row (along_from n rows j) n) *ℤ spike (pivot row) i

module _ (n : ℕ) where
  -- at each column that is no pivot, and isn't j, it is 0
  zero_elsewhere : (rows : List (List ℤ)) (j i : ℕ) → is_pivot rows i ≡ false → i ≢ j → along_from n rows j i ≡ pos 0
  zero_elsewhere [] j i e other = ap (λ b. cond b (pos 1) (pos 0)) (ne_eqb j i (λ same. other (sym same)))
  zero_elsewhere (row ∷ rows) j i e other =
      let parts = or_parts (pivot row == i) (is_pivot rows i) e in
      ap (λ z. pivot_entry row *ℤ z +ℤ neg_ℤ (product row (along_from n rows j) n) *ℤ spike (pivot row) i) (zero_elsewhere rows j i parts.1 other)
      ∙ ap (λ z. z +ℤ neg_ℤ (product row (along_from n rows j) n) *ℤ spike (pivot row) i) (*ℤ-zero (pivot_entry row))
      ∙ ap (λ b. pos 0 +ℤ neg_ℤ (product row (along_from n rows j) n) *ℤ cond b (pos 1) (pos 0)) parts.0
      ∙ ap (λ z. pos 0 +ℤ z) (*ℤ-zero (neg_ℤ (product row (along_from n rows j) n)))

  -- at j it isn't
  some_here : (rows : List (List ℤ)) (j : ℕ) → AllByRecursion (IsPrimitive n) rows → is_pivot rows j ≡ false → along_from n rows j j ≢ pos 0
  some_here [] j p e none = absurd (let one = ap (λ b. cond b (pos 1) (pos 0)) (eq-eqb j j refl) in omega (arith, ints))
  some_here (row ∷ rows) j p e none =
      let parts = or_parts (pivot row == j) (is_pivot rows j) e in
      let off =
      ap (λ b. neg_ℤ (product row (along_from n rows j) n) *ℤ cond b (pos 1) (pos 0)) parts.0 ∙ *ℤ-zero (neg_ℤ (product row (along_from n rows j) n)) in
      product_not_zero (pivot_entry row) (along_from n rows j j) (positive_not_zero (pivot_entry row) p.0.leading) (some_here rows j p.1 parts.1)
      (let all = none in omega (arith, ints))

  -- the rows that were orthogonal stay so, as they are 0 at the pivot
  still_orthogonal : (row : List ℤ) (rows some : List (List ℤ)) (j : ℕ) → pivot row < n →
      AllByRecursion (λ r. number_at r (pivot row) ≡ pos 0) some →
      AllByRecursion (λ r. product r (along_from n rows j) n ≡ pos 0) some → AllByRecursion (λ r. product r (along_from n (row ∷ rows) j) n ≡ pos 0) some
  still_orthogonal row rows [] j l z h = tt
  still_orthogonal row rows (r ∷ some) j l z h = (
    product-combined_with r (pivot_entry row) (along_from n rows j) (neg_ℤ (product row (along_from n rows j) n)) (spike (pivot row)) n
        ∙ ap (λ x. pivot_entry row *ℤ x +ℤ neg_ℤ (product row (along_from n rows j) n) *ℤ product r (spike (pivot row)) n) h.0
        ∙ ap (λ x. pivot_entry row *ℤ pos 0 +ℤ neg_ℤ (product row (along_from n rows j) n) *ℤ x) (product-spike r n (pivot row) l ∙ z.0)
        ∙ ap (λ x. x +ℤ neg_ℤ (product row (along_from n rows j) n) *ℤ pos 0) (*ℤ-zero (pivot_entry row))
        ∙ ap (λ x. pos 0 +ℤ x) (*ℤ-zero (neg_ℤ (product row (along_from n rows j) n))),
    still_orthogonal row rows some j l z.1 h.1,
  )

  -- so it is orthogonal to all
  all_orthogonal : (rows : List (List ℤ)) (j : ℕ) → AllByRecursion (IsPrimitive n) rows → IsEchelon rows →
      AllByRecursion (λ r. product r (along_from n rows j) n ≡ pos 0) rows
  all_orthogonal [] j p h = tt
  all_orthogonal (row ∷ rows) j p h = (
    let whole = product-combined_with row (pivot_entry row) (along_from n rows j) (neg_ℤ (product row (along_from n rows j) n)) (spike (pivot row)) n in
        let at_pivot = ap (λ x. neg_ℤ (product row (along_from n rows j) n) *ℤ x) (product-spike row n (pivot row) (pivot_below n row p.0)) in
        let minus = neg-times (product row (along_from n rows j) n) (pivot_entry row) in
        let turned = *ℤ_comm (product row (along_from n rows j) n) (pivot_entry row) in
        omega (arith, ints),
    still_orthogonal row rows rows j (pivot_below n row p.0) (later_zero row rows h.0) (all_orthogonal rows j p.1 h.1),
  )

  -- as a list
  pub direction_of : (form : List (List ℤ)) (j : ℕ) → AllByRecursion (IsPrimitive n) form → IsEchelon form → j < n → is_pivot form j ≡ false →
      (d : List ℤ) × IsAlong n form j d
  direction_of form j p h l free = (
    list,
    record {
      one_each = length-map-range_with_len (along_from n form j) 0 n;
      zeros = all_zero form (all_orthogonal form j p h);
      free = free;
      some = λ e. some_here form j p free (sym (listed j l) ∙ e);
      only = λ i e other. elim (cases_lt i n) [
        | inl m ↦ listed i m ∙ zero_elsewhere form j i e other
        | inr past ↦ get_or_past list i (pos 0) (let all = length-map-range_with_len (along_from n form j) 0 n in omega arith)
      ];
    },
  )
    where
      list : List ℤ
      list = map (along_from n form j) (range_with_len 0 n)

      listed : (i : ℕ) → i < n → number_at list i ≡ along_from n form j i
      listed i m = get_or-map-range_with_len (along_from n form j) 0 n i i (pos 0) m (omega arith)

      all_zero : (rows : List (List ℤ)) → AllByRecursion (λ r. product r (along_from n form j) n ≡ pos 0) rows →
          AllByRecursion (λ r. product r (number_at list) n ≡ pos 0) rows
      all_zero [] z = tt
      all_zero (r ∷ rows) z = (
        total-agree (λ i. number_at r i *ℤ number_at list i) (λ i. number_at r i *ℤ along_from n form j i) n (λ i m. ap (λ x. number_at r i *ℤ x) (listed i m))
            ∙ z.0,
        all_zero rows z.1,
      )
