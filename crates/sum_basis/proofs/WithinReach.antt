-- What the reduced form with a new list reaches, by the lists of the form's rows.
use Rattle.std.proofs.Common.{◌≡◌, ◌≢◌, ℕ, ◌+◌, ◌<◌, ◌≤◌, Bool, true, false, cond, ◌||◌, ◌==◌, ℤ, pos, List, [], ◌∷◌, ◌++◌, length, get_or, refl, sym, ap, ◌∙◌, subst, arith, inl, inr}
use Rattle.std.specs.Prelude.{◌+ℤ◌, ◌*ℤ◌, ◌-ℤ◌, neg_ℤ}
use Rattle.std.specs.List.{AllByRecursion}
use Rattle.std.proofs.lemmas.Int.{ints}
use Rattle.std.proofs.lemmas.Bool.{cases_eq, cases_lt, eq-eqb, ne_eqb, or_from, true≢false}
use Rattle.std.proofs.lemmas.List.{get_or_past}
use Rattle.std.proofs.Math.IntN.{zero-*ℤ, *ℤ-zero, *ℤ_comm}
use Rattle.audit_types.specs.Rows.{AreRows}
use Rattle.audit_types.specs.Truth.{number_at, sum_over}
use Rattle.audit_types.specs.Form.{set_row, InSpan, pivot, IsPrimitive, IsEchelon, IsReducedForm}
use Rattle.audit_types.specs.FormRows.{at_pivot, zero_at_others, IsZeroAtOthers}
use Rattle.audit_types.specs.Direction.{is_pivot}
use Rattle.audit_types.specs.ListLaws.{all-push, all-front}
use Rattle.audit_types.specs.Numbers.{zero_or_not}
use Rattle.audit_types.specs.Products.{add-times, times_assoc, neg-times, zero_product}
use Rattle.audit_types.specs.Totals.{total, total-agree, total-add, total-times, product, product-span, product-set_row, products_in_span}
use Rattle.sum_basis.specs.Basis.{Echelon, IsFreeList}
use Rattle.sum_basis.specs.Combination.{combine}
use Rattle.sum_basis.specs.CombinedRows.{number_at-combine}
use Rattle.sum_basis.specs.Elimination.{IsSmallForm, IsZeroAtPivots}
use Rattle.sum_basis.specs.Reach.{IsAlong, IsLeftOverOrNone, IsGrownBy, one_if, met, without_new, count_with, rest_at}
use Rattle.sum_basis.specs.Sparse.{entry_at, row_of, IsListed}
use Rattle.sum_basis.specs.Ties.{IsRowOf}
use Rattle.sum_basis.specs.declared.sparse.FreeEntry.{FreeEntry}
use Rattle.sum_basis.proofs.Along.{own_pivots, product_only, zero_there, zero_back}
use Rattle.sum_basis.specs.Spans.{own}
use Rattle.sum_basis.proofs.GrownForms.{of_own, not_pivots, crossed, grown_is, count_crossed}
use Rattle.sum_basis.proofs.KeptForms.{row_among}
use Rattle.sum_basis.proofs.NearColumns.{Tells}
use Rattle.sum_basis.proofs.SparseRows.{number_at-row_of, pivot-row_of, pivot_entry-row_of, first_value, zero_below, zero_past, elsewhere}

-- the column isn't the pivot of the new list
abbrev pub IsOff : List FreeEntry → ℕ → Type 0
IsOff [] j = Unit {0}
IsOff (e ∷ new) j = e.place ≢ j

-- the row of the new list, if it isn't empty, is one of these
abbrev HasNew : ℕ → List FreeEntry → List (List ℤ) → Type 0
HasNew n [] grown = Unit {0}
HasNew n (e ∷ new) grown = IsRowOf (row_of n (e ∷ new)) grown × IsListed 0 n (e ∷ new)

-- a row of the grown form that belongs to a row of the old one
pub record Belongs (new : List FreeEntry) (old_row : List ℤ) (grown : List (List ℤ)) : Type 0 where
  pub made : List ℤ
  pub among : IsRowOf made grown
  pub same_pivot : pivot made ≡ pivot old_row
  pub there : (j : ℕ) → number_at made j ≡ pos 0 → without_new new (number_at old_row) j ≡ pos 0
  pub back : (j : ℕ) → without_new new (number_at old_row) j ≡ pos 0 → number_at made j ≡ pos 0

-- what the form with the new list is
pub record HasGrown (n : ℕ) (old : List (List ℤ)) (new : List FreeEntry) (grown : List (List ℤ)) : Type 0 where
  pub primitive : AllByRecursion (IsPrimitive n) grown
  pub echelon : IsEchelon grown
  pub free : (j : ℕ) → is_pivot grown j ≡ false → is_pivot old j ≡ false
  pub off : (j : ℕ) → is_pivot grown j ≡ false → IsOff new j
  pub fresh : (j : ℕ) → is_pivot old j ≡ false → IsOff new j → is_pivot grown j ≡ false
  pub zeros : AllByRecursion (λ row. entry_at new (pivot row) ≡ pos 0) old
  pub count : (j : ℕ) → is_pivot grown j ≡ false → met grown j ≡ one_if (rest_at new j) + count_with new old j
  pub row : (k : ℕ) → k < length old → Belongs new (get_or old k []) grown
  pub rows_in : AllByRecursion (InSpan grown) old
  pub has_new : HasNew n new grown

pub same_count : (old : List (List ℤ)) (j : ℕ) → met old j ≡ count_with [] old j
same_count [] j = refl
same_count (row ∷ old) j = ap (λ (m : ℕ). one_if (number_at row j) + m) (same_count old j)

all_zero : (old : List (List ℤ)) → AllByRecursion (λ row. entry_at [] (pivot row) ≡ pos 0) old
all_zero [] = tt
all_zero (row ∷ old) = (refl, all_zero old)

-- with an empty list nothing changes
pub grown_by_none : (n : ℕ) (old : List (List ℤ)) → AllByRecursion (IsPrimitive n) old → IsEchelon old → HasGrown n old [] old
grown_by_none n old p h = record {
  primitive = p;
  echelon = h;
  free = λ j e. e;
  off = λ j e. tt;
  fresh = λ j e off. e;
  zeros = all_zero old;
  count = λ j e. let same = same_count old j in omega arith;
  row = λ k l. record { made = get_or old k []; among = row_among old k l; same_pivot = refl; there = λ j e. e; back = λ j e. e };
  rows_in = own old;
  has_new = tt;
}

module _ (n : ℕ) (e : FreeEntry) (es : List FreeEntry) (listed : IsListed 0 n (e ∷ es)) (p : IsPrimitive n (row_of n (e ∷ es))) where
  abbrev new_row : List ℤ
  new_row = row_of n (e ∷ es)

  cross_is : (row : List ℤ) (j : ℕ) → crossed n new_row p row j ≡ without_new (e ∷ es) (number_at row) j
  cross_is row j =
      ap (λ x. x *ℤ number_at row j -ℤ number_at row (pivot new_row) *ℤ number_at new_row j) (pivot_entry-row_of 0 n e es listed)
      ∙ ap (λ (q : ℕ). e.value *ℤ number_at row j -ℤ number_at row q *ℤ number_at new_row j) (pivot-row_of 0 n e es listed)
      ∙ ap (λ x. e.value *ℤ number_at row j -ℤ number_at row e.place *ℤ x) (number_at-row_of 0 n (e ∷ es) listed j)

  count_is : (old : List (List ℤ)) (j : ℕ) → count_crossed n new_row p old j ≡ count_with (e ∷ es) old j
  count_is [] j = refl
  count_is (row ∷ old) j =
      ap (λ x. one_if x + count_crossed n new_row p old j) (cross_is row j)
      ∙ ap (λ (m : ℕ). one_if (without_new (e ∷ es) (number_at row) j) + m) (count_is old j)

  -- past the pivot the rest of the list is the list
  rest_is : (j : ℕ) → e.place ≢ j → rest_at (e ∷ es) j ≡ entry_at (e ∷ es) j
  rest_is j other = let first = elsewhere e j other in omega (arith, ints)

  entries_zero : (old : List (List ℤ)) → IsZeroAtPivots old new_row → AllByRecursion (λ row. entry_at (e ∷ es) (pivot row) ≡ pos 0) old
  entries_zero [] z = tt
  entries_zero (row ∷ old) z = (sym (number_at-row_of 0 n (e ∷ es) listed (pivot row)) ∙ z.0, entries_zero old z.1)

  or_parts : (a b c : Bool) → c ≡ (a || b) → c ≡ false → (a ≡ false) × (b ≡ false)
  or_parts true b c is not_one = absurd (true≢false (sym is ∙ not_one))
  or_parts false b c is not_one = (refl, sym is ∙ not_one)

  eqb_other : (a b : ℕ) → (a == b) ≡ false → a ≢ b
  eqb_other a b not_one same = true≢false (sym (eq-eqb a b same) ∙ not_one)

  grown_by_some : (old grown : List (List ℤ)) → AllByRecursion (IsPrimitive n) old → IsEchelon old → IsZeroAtPivots old new_row →
      IsReducedForm n (old ++ new_row ∷ []) grown → HasGrown n old (e ∷ es) grown
  grown_by_some old grown q h z reduced =
      let g = grown_is n new_row p old grown q h z reduced in
      let place = pivot-row_of 0 n e es listed in
      let parts : (j : ℕ) → is_pivot grown j ≡ false → ((e.place == j) ≡ false) × (is_pivot old j ≡ false) =
      λ j not_one. or_parts (e.place == j) (is_pivot old j) (is_pivot grown j) (g.pivots j ∙ ap (λ (q : ℕ). (q == j) || is_pivot old j) place) not_one in
      record {
        primitive = reduced.primitive;
        echelon = reduced.echelon;
        free = λ j not_one. (parts j not_one).1;
        off = λ j not_one. eqb_other e.place j (parts j not_one).0;
        fresh = λ j not_one off.
            g.pivots j ∙ ap (λ (q : ℕ). (q == j) || is_pivot old j) place ∙ or_from (e.place == j) (is_pivot old j) (ne_eqb e.place j off) not_one;
        zeros = entries_zero old z;
        count = λ j not_one.
            g.count j ∙ ap (λ (m : ℕ). one_if (number_at new_row j) + m) (count_is old j)
            ∙ ap (λ x. one_if x + count_with (e ∷ es) old j)
            (number_at-row_of 0 n (e ∷ es) listed j ∙ sym (rest_is j (eqb_other e.place j (parts j not_one).0)));
        row = λ k l.
            let found = g.row k l in
            record {
              made = found.0;
              among = found.1;
              same_pivot = found.2.cleared.same_pivot;
              there = λ j zero_here. sym (cross_is (get_or old k []) j) ∙ found.2.there j zero_here;
              back = λ j zero_here. found.2.back j (cross_is (get_or old k []) j ∙ zero_here);
            };
        rows_in = (all-front (InSpan grown) old new_row reduced.spans).0;
        has_new = (g.new_row, listed);
      }

-- the form with a new list, or with none
pub has_grown : (form : Echelon) (new : List FreeEntry) (grown : List (List ℤ)) → IsSmallForm form.n form.rows → IsLeftOverOrNone form new →
    IsGrownBy form new grown → HasGrown form.n form.rows new grown
has_grown form [] grown f left is = subst (HasGrown form.n form.rows []) is (grown_by_none form.n form.rows f.primitive f.echelon)
has_grown form (e ∷ es) grown f left is = elim left [
  | inl none ↦ absurd (let long = ap length none in omega arith)
  | inr some ↦ grown_by_some form.n e es some.0.listed some.0.primitive form.rows grown f.primitive f.echelon some.1 is
]

-- ---- what each value is told by

-- a product with a function is less by a product of both
pub product_less : (by x times y : ℤ) → x ≡ pos 0 → y ≡ pos 0 → by *ℤ x -ℤ times *ℤ y ≡ pos 0
product_less by x times y e g =
    let first = ap (λ z. by *ℤ z) e ∙ *ℤ-zero by in
    let second = ap (λ z. times *ℤ z) g ∙ *ℤ-zero times in
    omega (arith, ints)

module _ (n : ℕ) (old : List (List ℤ)) (new : List FreeEntry) (grown : List (List ℤ)) (g : HasGrown n old new grown) where
  -- a row of the grown form tells what its pivot's number does
  pub row_tells : (made : List ℤ) → IsRowOf made grown → (j : ℕ) (d : List ℤ) → IsAlong n grown j d →
      (number_at d (pivot made) ≡ pos 0 → number_at made j ≡ pos 0) × (number_at made j ≡ pos 0 → number_at d (pivot made) ≡ pos 0)
  row_tells made among j d along =
      let is = of_own (IsPrimitive n) grown made g.primitive among in
      let zeros = of_own (IsZeroAtOthers grown) grown made (zero_at_others grown g.echelon) among in
      let pivoted = of_own (λ r. is_pivot grown (pivot r) ≡ true) grown made (own_pivots grown) among in
      let none = of_own (λ r. product r (number_at d) n ≡ pos 0) grown made along.zeros among in (
        zero_there n grown g.primitive g.echelon j d along made is zeros pivoted none,
        zero_back n grown g.primitive g.echelon j d along made is zeros pivoted none,
      )

  -- whatever is 0 at the old pivots, with the new list 0 too there
  off_old : (f : ℕ → ℤ) (j : ℕ) → f j ≡ pos 0 → entry_at new j ≡ pos 0 → without_new new f j ≡ pos 0
  off_old f j e h = go new h
    where
      go : (list : List FreeEntry) → entry_at list j ≡ pos 0 → without_new list f j ≡ pos 0
      go [] none = e
      go (first ∷ rest) none = product_less first.value (f j) (f first.place) (entry_at (first ∷ rest) j) e none

  -- a free column is none of the old pivots, nor that of the new list
  open_column : (f : ℕ → ℤ) (j : ℕ) → ((i : ℕ) → is_pivot old i ≡ true → f i ≡ pos 0) → without_new new f j ≢ pos 0 → is_pivot grown j ≡ false
  open_column f j zeros some = go (is_pivot old j) refl
    where
      at_new : (list : List FreeEntry) → HasNew n list grown → without_new list f j ≢ pos 0 → IsOff list j
      at_new [] has not_zero = tt
      at_new (first ∷ rest) has not_zero = λ same. not_zero
          (let here = ap (entry_at (first ∷ rest)) (sym same) ∙ first_value 0 n first rest has.1 in
          let both = ap (λ z. f first.place *ℤ z) here ∙ *ℤ_comm (f first.place) first.value ∙ ap (λ (q : ℕ). first.value *ℤ f q) same in
          omega (arith, ints))

      go : (b : Bool) → is_pivot old j ≡ b → is_pivot grown j ≡ false
      go true e = absurd (some (off_old f j (zeros j e) (at_pivot (λ i. entry_at new i ≡ pos 0) old j g.zeros e)))
      go false e = g.fresh j e (at_new new g.has_new some)

  past_new : (j : ℕ) → n ≤ j → entry_at new j ≡ pos 0
  past_new j l = go new g.has_new
    where
      go : (list : List FreeEntry) → HasNew n list grown → entry_at list j ≡ pos 0
      go [] has = refl
      go (first ∷ rest) has = zero_past 0 n (first ∷ rest) j has.1 l

  -- entries at free columns are 0 at the pivots
  free_zero : (entries : List FreeEntry) (i : ℕ) → AllByRecursion (λ (x : FreeEntry). AllByRecursion (λ other. pivot other ≢ x.place) old) entries →
      is_pivot old i ≡ true → entry_at entries i ≡ pos 0
  free_zero [] i h e = refl
  free_zero (x ∷ entries) i h e =
      let first = elsewhere x i (λ same. apart old h.0 e same) in
      let rest = free_zero entries i h.1 e in
      omega (arith, ints)
    where
      apart : (rows : List (List ℤ)) → AllByRecursion (λ other. pivot other ≢ x.place) rows → is_pivot rows i ≡ true → x.place ≢ i
      apart rows away is same = at_pivot (λ q. q ≢ x.place) rows i away is (sym same)

  -- the pivot of the new list is none of the old ones
  pub place_open : (first : FreeEntry) (rest : List FreeEntry) → IsListed 0 n (first ∷ rest) →
      AllByRecursion (λ row. entry_at (first ∷ rest) (pivot row) ≡ pos 0) old → is_pivot old first.place ≡ false
  place_open first rest listed zeros = go (is_pivot old first.place) refl
    where
      go : (b : Bool) → is_pivot old first.place ≡ b → is_pivot old first.place ≡ false
      go true e = absurd (listed.2 (sym (first_value 0 n first rest listed) ∙ at_pivot (λ i. entry_at (first ∷ rest) i ≡ pos 0) old first.place zeros e))
      go false e = e

  -- at a free column of the grown form the entries at free columns are those of the row
  pub same_free : (row : List ℤ) (entries : List FreeEntry) (j : ℕ) → IsFreeList n old row entries → is_pivot grown j ≡ false →
      without_new new (entry_at entries) j ≡ without_new new (number_at row) j
  same_free row entries j free not_one = go new g.has_new g.zeros
    where
      at : (i : ℕ) → is_pivot old i ≡ false → entry_at entries i ≡ number_at row i
      at i e = free.is i (not_pivots old i e)

      go : (list : List FreeEntry) → HasNew n list grown → AllByRecursion (λ r. entry_at list (pivot r) ≡ pos 0) old →
          without_new list (entry_at entries) j ≡ without_new list (number_at row) j
      go [] has zeros = at j (g.free j not_one)
      go (first ∷ rest) has zeros =
          ap (λ x. first.value *ℤ x -ℤ entry_at entries first.place *ℤ entry_at (first ∷ rest) j) (at j (g.free j not_one))
          ∙ ap (λ x. first.value *ℤ number_at row j -ℤ x *ℤ entry_at (first ∷ rest) j) (at first.place (place_open first rest has.1 zeros))

  -- the number at the pivot of row k
  pub row_value : (k : ℕ) (entries : List FreeEntry) → k < length old → IsFreeList n old (get_or old k []) entries →
      Tells n grown (λ w. number_at w (pivot (get_or old k []))) (without_new new (entry_at entries))
  row_value k entries l free =
      let b = g.row k l in
      record {
        inside = λ j some. (
          elim (cases_lt j n) [
            | inl m ↦ m
            | inr past ↦ absurd (some (off_old (entry_at entries) j (zero_past 0 n entries j free.listed past) (past_new j past)))
          ],
          open_column (entry_at entries) j (λ i e. free_zero entries i free.free e) some,
        );
        there = λ j d along none.
            same_free (get_or old k []) entries j free along.free ∙ b.there j ((row_tells b.made b.among j d along).0 (ap (number_at d) b.same_pivot ∙ none));
        back = λ j d along none.
            sym (ap (number_at d) b.same_pivot) ∙ (row_tells b.made b.among j d along).1
            (b.back j (sym (same_free (get_or old k []) entries j free along.free) ∙ none));
      }

  -- the number at a free column
  pub column_value : (i : ℕ) → i < n → is_pivot grown i ≡ false → Tells n grown (λ w. number_at w i) (λ j. cond (i == j) (pos 1) (pos 0))
  column_value i l free = record {
    inside = λ j some. elim (cases_eq i j) [
      | inl same ↦ (omega arith, sym (ap (is_pivot grown) same) ∙ free)
      | inr other ↦ absurd (some (ap (λ b. cond b (pos 1) (pos 0)) (ne_eqb i j other)))
    ];
    there = λ j d along none. elim (cases_eq i j) [
      | inl same ↦ absurd (along.some (sym (ap (number_at d) same) ∙ none))
      | inr other ↦ ap (λ b. cond b (pos 1) (pos 0)) (ne_eqb i j other)
    ];
    back = λ j d along none. elim (cases_eq i j) [
      | inl same ↦ absurd (let one = sym (ap (λ b. cond b (pos 1) (pos 0)) (eq-eqb i j same)) ∙ none in omega (arith, ints))
      | inr other ↦ along.only i free other
    ];
  }

  -- ---- the total of a set

  -- the products of a combination
  product-combine : (x : ℤ) (f : List ℤ) (y : ℤ) (h d : List ℤ) →
      product (combine x f y h) (number_at d) n ≡ x *ℤ product f (number_at d) n +ℤ neg_ℤ y *ℤ product h (number_at d) n
  product-combine x f y h d =
      total-agree (λ i. number_at (combine x f y h) i *ℤ number_at d i)
      (λ i. x *ℤ (number_at f i *ℤ number_at d i) +ℤ neg_ℤ y *ℤ (number_at h i *ℤ number_at d i)) n
      (λ i l. ap (λ z. z *ℤ number_at d i) (number_at-combine x f y h i)
      ∙ add-times (x *ℤ number_at f i) (neg_ℤ y *ℤ number_at h i) (number_at d i)
      ∙ ap (λ z. z +ℤ (neg_ℤ y *ℤ number_at h i) *ℤ number_at d i) (times_assoc x (number_at f i) (number_at d i))
      ∙ ap (λ z. x *ℤ (number_at f i *ℤ number_at d i) +ℤ z) (times_assoc (neg_ℤ y) (number_at h i) (number_at d i)))
      ∙ total-add (λ i. x *ℤ (number_at f i *ℤ number_at d i)) (λ i. neg_ℤ y *ℤ (number_at h i *ℤ number_at d i)) n
      ∙ ap (λ z. z +ℤ total (λ i. neg_ℤ y *ℤ (number_at h i *ℤ number_at d i)) n) (total-times x (λ i. number_at f i *ℤ number_at d i) n)
      ∙ ap (λ z. x *ℤ product f (number_at d) n +ℤ z) (total-times (neg_ℤ y) (λ i. number_at h i *ℤ number_at d i) n)

  -- what is left of a row, cleared by the new list
  record IsClearedLeft (left cleared : List ℤ) : Type 0 where
    is : (j : ℕ) → number_at cleared j ≡ without_new new (number_at left) j
    there : (j : ℕ) (d : List ℤ) → IsAlong n grown j d → product left (number_at d) n ≡ pos 0 → product cleared (number_at d) n ≡ pos 0
    back : (j : ℕ) (d : List ℤ) → IsAlong n grown j d → product cleared (number_at d) n ≡ pos 0 → product left (number_at d) n ≡ pos 0

module _ (n : ℕ) (old : List (List ℤ)) (new : List FreeEntry) (grown : List (List ℤ)) (g : HasGrown n old new grown) (left : List ℤ)
    (long : length left ≡ n) (zeros : IsZeroAtPivots old left) where
  cleared_by : (list : List FreeEntry) (h : HasGrown n old list grown) → (cleared : List ℤ) × IsClearedLeft n old list grown h left cleared
  cleared_by [] h = (left, record { is = λ j. refl; there = λ j d along e. e; back = λ j d along e. e })
  cleared_by (e ∷ es) h =
      let row = row_of n (e ∷ es) in
      let none : (j : ℕ) (d : List ℤ) → IsAlong n grown j d → product row (number_at d) n ≡ pos 0 =
      λ j d along. of_own (λ r. product r (number_at d) n ≡ pos 0) grown row along.zeros h.has_new.0 in (
        combine e.value left (number_at left e.place) row,
        record {
          is = λ j.
              let sum = number_at-combine e.value left (number_at left e.place) row j in
              let entry = number_at-row_of 0 n (e ∷ es) h.has_new.1 j in
              let minus = neg-times (number_at left e.place) (number_at row j) in
              let product_is = ap (λ x. number_at left e.place *ℤ x) entry in
              omega (arith, ints);
          there = λ j d along zero_product_left.
              product-combine n old (e ∷ es) grown h e.value left (number_at left e.place) row d
              ∙ ap (λ z. e.value *ℤ z +ℤ neg_ℤ (number_at left e.place) *ℤ product row (number_at d) n) zero_product_left
              ∙ ap (λ z. e.value *ℤ pos 0 +ℤ neg_ℤ (number_at left e.place) *ℤ z) (none j d along)
              ∙ ap (λ z. z +ℤ neg_ℤ (number_at left e.place) *ℤ pos 0) (*ℤ-zero e.value)
              ∙ ap (λ z. pos 0 +ℤ z) (*ℤ-zero (neg_ℤ (number_at left e.place)));
          back = λ j d along zero_product_cleared.
              let sum = product-combine n old (e ∷ es) grown h e.value left (number_at left e.place) row d in
              let second = ap (λ z. neg_ℤ (number_at left e.place) *ℤ z) (none j d along) ∙ *ℤ-zero (neg_ℤ (number_at left e.place)) in
              zero_product e.value (product left (number_at d) n) (omega (arith, ints)) h.has_new.1.2;
        },
      )

  -- what is left of it, cleared, is 0 at the pivots
  cleared_zero : (cleared : List ℤ) → IsClearedLeft n old new grown g left cleared → (i : ℕ) → is_pivot grown i ≡ true → number_at cleared i ≡ pos 0
  cleared_zero cleared c i e = c.is i ∙ elim (zero_or_not (without_new new (number_at left) i)) [
    | inl z ↦ z
    | inr some ↦ absurd (true≢false (sym e
        ∙ open_column n old new grown g (number_at left) i (λ q is. at_pivot (λ p. number_at left p ≡ pos 0) old q zeros is) some))
  ]

  -- the product of what is left is 0 exactly if it is, cleared, 0 at the free column
  left_there : (j : ℕ) (d : List ℤ) → IsAlong n grown j d → product left (number_at d) n ≡ pos 0 → without_new new (number_at left) j ≡ pos 0
  left_there j d along none =
      let c = cleared_by new g in
      let whole = product_only n grown g.primitive g.echelon j d along c.0 (cleared_zero c.0 c.1) in
      let zero_whole = c.1.there j d along none in
      let turned = *ℤ_comm (number_at c.0 j) (number_at d j) in
      sym (c.1.is j) ∙ zero_product (number_at d j) (number_at c.0 j) (omega (arith, ints)) along.some

  left_back : (j : ℕ) (d : List ℤ) → IsAlong n grown j d → without_new new (number_at left) j ≡ pos 0 → product left (number_at d) n ≡ pos 0
  left_back j d along none =
      let c = cleared_by new g in
      let whole = product_only n grown g.primitive g.echelon j d along c.0 (cleared_zero c.0 c.1) in
      let first = ap (λ z. z *ℤ number_at d j) (c.1.is j ∙ none) ∙ zero-*ℤ (number_at d j) in
      c.1.back j d along (whole ∙ first)

  -- the total of a set of which this is left
  pub set_value : (set : List ℕ) → AreRows n set → InSpan (old ++ left ∷ []) (set_row n set) → InSpan (old ++ set_row n set ∷ []) left →
      Tells n grown (λ w. sum_over w set) (without_new new (number_at left))
  set_value set are back there = record {
    inside = λ j some. (
      elim (cases_lt j n) [
        | inl m ↦ m
        | inr past ↦ absurd (some (off_old n old new grown g (number_at left) j (get_or_past left j (pos 0) (omega arith)) (past_new n old new grown g j past)))
      ],
      open_column n old new grown g (number_at left) j (λ i e. at_pivot (λ q. number_at left q ≡ pos 0) old i zeros e) some,
    );
    there = λ j d along none.
        left_there j d along (product-span (number_at d) n (old ++ set_row n set ∷ []) left
        (all-push (λ r. product r (number_at d) n ≡ pos 0) old (set_row n set) (products_in_span n (number_at d) grown old along.zeros g.rows_in)
        (product-set_row d n set are ∙ none)) there);
    back = λ j d along none.
        sym (product-set_row d n set are) ∙ product-span (number_at d) n (old ++ left ∷ []) (set_row n set)
        (all-push (λ r. product r (number_at d) n ≡ pos 0) old left (products_in_span n (number_at d) grown old along.zeros g.rows_in)
        (left_back j d along none)) back;
  }

-- the number at the pivot of the new list
pub new_value : (n : ℕ) (old : List (List ℤ)) (e : FreeEntry) (es : List FreeEntry) (grown : List (List ℤ)) (g : HasGrown n old (e ∷ es) grown) →
    Tells n grown (λ w. number_at w e.place) (rest_at (e ∷ es))
new_value n old e es grown g = record {
  inside = λ j some. (
    elim (cases_lt j n) [ inl m ↦ m | inr past ↦ absurd (some (zero_past (e.place + 1) n es j g.has_new.1.3 past)) ],
    g.fresh j (stays_open j some) (other j some),
  );
  there = λ j d along none.
      rest_entry j (g.off j along.free) ∙ sym (number_at-row_of 0 n (e ∷ es) g.has_new.1 j)
      ∙ (row_tells n old (e ∷ es) grown g (row_of n (e ∷ es)) g.has_new.0 j d along).0 (ap (number_at d) (pivot-row_of 0 n e es g.has_new.1) ∙ none);
  back = λ j d along none.
      sym (ap (number_at d) (pivot-row_of 0 n e es g.has_new.1))
      ∙ (row_tells n old (e ∷ es) grown g (row_of n (e ∷ es)) g.has_new.0 j d along).1
      (number_at-row_of 0 n (e ∷ es) g.has_new.1 j ∙ sym (rest_entry j (g.off j along.free)) ∙ none);
}
  where
    rest_entry : (j : ℕ) → e.place ≢ j → entry_at es j ≡ entry_at (e ∷ es) j
    rest_entry j away = let first = elsewhere e j away in omega (arith, ints)

    other : (j : ℕ) → entry_at es j ≢ pos 0 → e.place ≢ j
    other j some same = some (zero_below (e.place + 1) n es j g.has_new.1.3 (omega arith))

    stays_open : (j : ℕ) → entry_at es j ≢ pos 0 → is_pivot old j ≡ false
    stays_open j some = go (is_pivot old j) refl
      where
        go : (b : Bool) → is_pivot old j ≡ b → is_pivot old j ≡ false
        go true is = absurd (some (rest_entry j (other j some) ∙ at_pivot (λ i. entry_at (e ∷ es) i ≡ pos 0) old j g.zeros is))
        go false is = is
