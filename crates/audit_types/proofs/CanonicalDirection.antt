-- A row has at most one canonical direction.
--
-- Two of them, each taken as often as the other's number at the row says, differ by numbers that are 0 at the row. They are 0 at
-- every free column, since the one free column where the two may be otherwise belongs to the row; so they are 0 at every pivot too,
-- and the two stand on one line. Both are primitive and positive at the row.
use Rattle.std.proofs.Common.{◌≡◌, ◌≢◌, ℕ, ◌≤◌, false, cond, ◌==◌, ℤ, pos, ◌+ℤ◌, ◌-ℤ◌, ◌*ℤ◌, ◌<ℤ◌, neg_ℤ, List, [], ◌∷◌, map, length, refl, sym, ap, ◌∙◌, arith, inl, inr}
use Rattle.std.specs.List.{AllByRecursion}
use Rattle.std.proofs.lemmas.Int.{ints}
use Rattle.std.proofs.lemmas.List.{get_or_past}
use Rattle.std.proofs.lemmas.Bool.{cases_lt, cases_eq, cases_Bool, eqb-true}
use Rattle.std.proofs.Math.IntN.{*ℤ_comm, *ℤ-zero}
use Rattle.audit_types.specs.Rows.{AreRows}
use Rattle.audit_types.specs.Truth.{number_at}
use Rattle.audit_types.specs.Form.{set_row, pivot, pivot_entry, IsPrimitive, Reduced}
use Rattle.audit_types.specs.Direction.{IsDirection, is_pivot, first_free, free_column_of, IsCanonicalDirection}
use Rattle.audit_types.specs.Products.{times-add, times_assoc, neg-times, zero_factor, zero_product}
use Rattle.audit_types.specs.PrimitiveLines.{one_primitive}
use Rattle.audit_types.specs.Totals.{total-agree, total-add, total-times, total-single, product, products_in_span, products_from_sums}
use Rattle.audit_types.specs.FormRows.{IsZeroAtOthers, zero_at_others, at_pivot}
use Rattle.audit_types.proofs.FirstFree.{first_free_entry}

-- the products of a direction with the rows of the reduced form are 0
on_form : (n : ℕ) (sets : List (List ℕ)) (form : List (List ℤ)) (d : List ℤ) → AllByRecursion (AreRows n) sets → Reduced n sets form → IsDirection n sets d →
    AllByRecursion (λ row. product row (number_at d) n ≡ pos 0) form
on_form n sets form d are reduced direction =
    products_in_span n (number_at d) (map (set_row n) sets) form (products_from_sums n d sets are direction.zero_sums) reduced.within

-- numbers whose products with the rows of a form are 0, and that are 0 at a row and at every free column but the row's own
module _ (n : ℕ) (form : List (List ℤ)) (i : ℕ) (h : ℕ → ℤ) (past : (j : ℕ) → n ≤ j → h j ≡ pos 0) (here : h i ≡ pos 0)
    (free : (j : ℕ) → is_pivot form j ≡ false → j ≢ free_column_of form form i → h j ≡ pos 0) where
  -- what is used of a row of the form
  record IsFormRow (row : List ℤ) : Type 0 where
    one_each : length row ≡ n
    leading : pos 0 <ℤ pivot_entry row
    zeros : IsZeroAtOthers form row
    none : product row h n ≡ pos 0

  form_rows : (some : List (List ℤ)) → AllByRecursion (IsPrimitive n) some → AllByRecursion (IsZeroAtOthers form) some →
      AllByRecursion (λ row. product row h n ≡ pos 0) some → AllByRecursion IsFormRow some
  form_rows [] primitive zeros none = tt
  form_rows (row ∷ some) primitive zeros none = (
    record { one_each = primitive.0.one_each; leading = primitive.0.leading; zeros = zeros.0; none = none.0 },
    form_rows some primitive.1 zeros.1 none.1,
  )

  -- at a row that begins where i stands, only its own free column can be other than 0
  own_free : (row : List ℤ) → IsFormRow row → pivot row ≡ i → free_column_of form form i ≡ first_free form row 0 → h (free_column_of form form i) ≡ pos 0
  own_free row facts begins is = elim (cases_lt (free_column_of form form i) n) [
    | inr outside ↦ past (free_column_of form form i) outside
    | inl inside ↦
        let some : number_at row (free_column_of form form i) ≢ pos 0 =
        first_free_entry form row 0 (free_column_of form form i) (sym is ∙ omega arith) (omega (arith, facts.one_each)) in
        let only : product row h n ≡ number_at row (free_column_of form form i) *ℤ h (free_column_of form form i) =
        total-single (λ j. number_at row j *ℤ h j) n (free_column_of form form i) inside (λ j l other. elim (cases_Bool (is_pivot form j)) [
          | inl at ↦ elim (cases_eq j (pivot row)) [
            | inl own ↦ ap (λ z. number_at row j *ℤ z) (ap h (own ∙ begins) ∙ here) ∙ *ℤ-zero (number_at row j)
            | inr elsewhere ↦ ap (λ z. z *ℤ h j) (facts.zeros j at elsewhere) ∙ *ℤ_comm (pos 0) (h j) ∙ *ℤ-zero (h j)
          ]
          | inr apart ↦ ap (λ z. number_at row j *ℤ z) (free j apart other) ∙ *ℤ-zero (number_at row j)
        ]) in
        zero_product (number_at row (free_column_of form form i)) (h (free_column_of form form i)) (sym only ∙ facts.none) some
  ]

  -- the numbers are 0 at the free column that belongs to the row
  own_column : (some : List (List ℤ)) → AllByRecursion IsFormRow some → free_column_of form form i ≡ free_column_of form some i →
      h (free_column_of form form i) ≡ pos 0
  own_column [] facts is = ap h is ∙ here
  own_column (row ∷ some) facts is = elim (cases_Bool (pivot row == i)) [
    | inl begins ↦ own_free row facts.0 (eqb-true (pivot row) i begins) (is ∙ ap (λ b. cond b (first_free form row 0) (free_column_of form some i)) begins)
    | inr other ↦ own_column some facts.1 (is ∙ ap (λ b. cond b (first_free form row 0) (free_column_of form some i)) other)
  ]

  module _ (facts : AllByRecursion IsFormRow form) where
    at_free : (j : ℕ) → is_pivot form j ≡ false → h j ≡ pos 0
    at_free j apart = elim (cases_eq j (free_column_of form form i)) [
      | inl own ↦ ap h own ∙ own_column form facts refl
      | inr other ↦ free j apart other
    ]

    at_own_pivot : (row : List ℤ) → IsFormRow row → h (pivot row) ≡ pos 0
    at_own_pivot row facts = elim (cases_lt (pivot row) n) [
      | inr outside ↦ past (pivot row) outside
      | inl inside ↦
          let only : product row h n ≡ number_at row (pivot row) *ℤ h (pivot row) =
          total-single (λ j. number_at row j *ℤ h j) n (pivot row) inside (λ j l other. elim (cases_Bool (is_pivot form j)) [
            | inl at ↦ ap (λ z. z *ℤ h j) (facts.zeros j at other) ∙ *ℤ_comm (pos 0) (h j) ∙ *ℤ-zero (h j)
            | inr apart ↦ ap (λ z. number_at row j *ℤ z) (at_free j apart) ∙ *ℤ-zero (number_at row j)
          ]) in
          zero_factor (h (pivot row)) (pivot_entry row) (*ℤ_comm (h (pivot row)) (pivot_entry row) ∙ sym only ∙ facts.none) facts.leading
    ]

    at_pivots : (some : List (List ℤ)) → AllByRecursion IsFormRow some → AllByRecursion (λ row. h (pivot row) ≡ pos 0) some
    at_pivots [] facts = tt
    at_pivots (row ∷ some) facts = (at_own_pivot row facts.0, at_pivots some facts.1)

    all_zero : (j : ℕ) → h j ≡ pos 0
    all_zero j = elim (cases_Bool (is_pivot form j)) [
      | inl at ↦ at_pivot (λ k. h k ≡ pos 0) form j (at_pivots form facts) at
      | inr apart ↦ at_free j apart
    ]

-- a times the numbers of d less b times those of e
abbrev difference : ℤ → List ℤ → ℤ → List ℤ → ℕ → ℤ
difference a d b e j = a *ℤ number_at d j -ℤ b *ℤ number_at e j

-- a product spread over a difference
spread : (r a x b y : ℤ) → r *ℤ (a *ℤ x -ℤ b *ℤ y) ≡ a *ℤ (r *ℤ x) +ℤ neg_ℤ b *ℤ (r *ℤ y)
spread r a x b y =
    let apart = times-add r (a *ℤ x) (neg_ℤ (b *ℤ y)) in
    let first = *ℤ_comm r (a *ℤ x) ∙ times_assoc a x r ∙ ap (λ z. a *ℤ z) (*ℤ_comm x r) in
    let second = *ℤ_comm r (neg_ℤ (b *ℤ y)) ∙ neg-times (b *ℤ y) r in
    let turned = times_assoc b y r ∙ ap (λ z. b *ℤ z) (*ℤ_comm y r) in
    let minus = neg-times b (r *ℤ y) in
    omega (arith, ints)

-- a row whose products with two lists are 0 has it with their difference
product-difference : (n : ℕ) (a : ℤ) (d : List ℤ) (b : ℤ) (e : List ℤ) (row : List ℤ) → product row (number_at d) n ≡ pos 0 →
    product row (number_at e) n ≡ pos 0 →
    product row (difference a d b e) n ≡ pos 0
product-difference n a d b e row p q =
    let apart = total-agree (λ j. number_at row j *ℤ difference a d b e j)
    (λ j. a *ℤ (number_at row j *ℤ number_at d j) +ℤ neg_ℤ b *ℤ (number_at row j *ℤ number_at e j)) n
    (λ j l. spread (number_at row j) a (number_at d j) b (number_at e j)) in
    let both = total-add (λ j. a *ℤ (number_at row j *ℤ number_at d j)) (λ j. neg_ℤ b *ℤ (number_at row j *ℤ number_at e j)) n in
    let first = total-times a (λ j. number_at row j *ℤ number_at d j) n ∙ ap (λ z. a *ℤ z) p ∙ *ℤ-zero a in
    let second = total-times (neg_ℤ b) (λ j. number_at row j *ℤ number_at e j) n ∙ ap (λ z. neg_ℤ b *ℤ z) q ∙ *ℤ-zero (neg_ℤ b) in
    omega (arith, ints)

-- the same of each row of the form
products : (n : ℕ) (a : ℤ) (d : List ℤ) (b : ℤ) (e : List ℤ) (rows : List (List ℤ)) → AllByRecursion (λ row. product row (number_at d) n ≡ pos 0) rows →
    AllByRecursion (λ row. product row (number_at e) n ≡ pos 0) rows → AllByRecursion (λ row. product row (difference a d b e) n ≡ pos 0) rows
products n a d b e [] p q = tt
products n a d b e (row ∷ rows) p q = (product-difference n a d b e row p.0 q.0, products n a d b e rows p.1 q.1)

-- two canonical directions of a row are one
pub one_canonical_direction : (n : ℕ) (sets : List (List ℕ)) (form : List (List ℤ)) (i : ℕ) (d e : List ℤ) → AllByRecursion (AreRows n) sets →
    Reduced n sets form →
    IsCanonicalDirection n sets form i d → IsCanonicalDirection n sets form i e → d ≡ e
one_canonical_direction n sets form i d e are reduced first second =
    let a = number_at e i in
    let b = number_at d i in
    let past : (j : ℕ) → n ≤ j → difference a d b e j ≡ pos 0 = λ j l.
    let one : a *ℤ number_at d j ≡ pos 0 = ap (λ z. a *ℤ z) (get_or_past d j (pos 0) (omega (arith, first.direction.one_each))) ∙ *ℤ-zero a in
    let two : b *ℤ number_at e j ≡ pos 0 = ap (λ z. b *ℤ z) (get_or_past e j (pos 0) (omega (arith, second.direction.one_each))) ∙ *ℤ-zero b in
    omega (arith, ints) in
    let here : difference a d b e i ≡ pos 0 = let turned = *ℤ_comm a b in omega (arith, ints) in
    let free : (j : ℕ) → is_pivot form j ≡ false → j ≢ free_column_of form form i → difference a d b e j ≡ pos 0 = λ j apart other.
    let one : a *ℤ number_at d j ≡ pos 0 = ap (λ z. a *ℤ z) (first.free j apart other) ∙ *ℤ-zero a in
    let two : b *ℤ number_at e j ≡ pos 0 = ap (λ z. b *ℤ z) (second.free j apart other) ∙ *ℤ-zero b in
    omega (arith, ints) in
    let rows = form_rows n form i (difference a d b e) past here free form reduced.primitive (zero_at_others form reduced.echelon)
    (products n a d b e form (on_form n sets form d are reduced first.direction) (on_form n sets form e are reduced second.direction)) in
    one_primitive a b d e second.positive first.positive (first.direction.one_each ∙ sym second.direction.one_each) first.content second.content
    (λ j. let none = all_zero n form i (difference a d b e) past here free rows j in omega (arith, ints))
