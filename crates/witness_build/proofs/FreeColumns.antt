-- The free column of a row, as the code looks for it, and that there is one if the row isn't pinned.
use Rattle.std.proofs.Common.{◌≡◌, ◌≢◌, ℕ, zero, suc, ◌+◌, ◌<◌, ◌≤◌, Bool, true, false, cond, ◌||◌, ◌==◌, ℤ, pos, List, [], ◌∷◌, length, get_or, drop, Some, None, refl, sym, ap, ◌∙◌, arith, inl, inr, ◌⊎◌, add-one, drop-cons}
use Rattle.std.specs.Prelude.{◌*ℤ◌, ◌<ℤ◌, slice_get}
use Rattle.std.specs.List.{AllByRecursion}
use Rattle.std.proofs.lemmas.Bool.{or_cases, eqb-true, eqb-false, ne_eqb, cases_lt, or_from, or_parts, false≢true}
use Rattle.std.proofs.lemmas.Int.{ints}
use Rattle.std.proofs.lemmas.List.Elements.{All-from_recursion}
use Rattle.std.proofs.Math.IntN.{*ℤ_comm, zero-*ℤ}
use Rattle.audit_types.specs.Truth.{number_at, is_zero}
use Rattle.audit_types.specs.Form.{pivot, pivot_entry, IsPrimitive, Reduced}
use Rattle.audit_types.specs.Rows.{AreRows}
use Rattle.audit_types.specs.Direction.{IsDirection, IsPinned, is_pivot, first_free, free_column_of}
use Rattle.audit_types.specs.Products.{zero_factor}
use Rattle.audit_types.specs.Numbers.{test_of_not_zero, zero_from_test, not_zero_from_test}
use Rattle.audit_types.specs.FormRows.{IsZeroAtOthers, zero_at_others}
use Rattle.audit_types.specs.Totals.{total-single}
use Rattle.sum_basis.specs.declared.sparse.FreeEntry.{FreeEntry}
use Rattle.sum_basis.specs.Basis.{IsFreeList}
use Rattle.sum_basis.specs.EntryLaws.{zero_below, first_value}
use Rattle.sum_audit.specs.Dot.{dot}
use Rattle.sum_audit.specs.Laws.{DirectionsByForm}
use Rattle.witness_build.specs.Directions.{IsForm}

pub length_of_row : (n : ℕ) (form : List (List ℤ)) (k : ℕ) → IsForm n form → k < length form → length (get_or form k []) ≡ n
length_of_row n form k h below = (All-from_recursion (IsPrimitive n) form h.primitive k [] below).one_each

-- a row with another pivot is passed over
pub other_row : (form : List (List ℤ)) (k i : ℕ) → k < length form → pivot (get_or form k []) ≢ i →
    free_column_of form (drop k form) i ≡ free_column_of form (drop (k + 1) form) i
other_row form k i below other =
    ap (λ l. free_column_of form l i) (drop-cons form k [] below)
    ∙ ap (λ b. cond b (first_free form (get_or form k []) 0) (free_column_of form (drop (suc k) form) i)) (ne_eqb (pivot (get_or form k [])) i other)
    ∙ ap (λ m. free_column_of form (drop m form) i) (sym (add-one k))

pub no_row : (form : List (List ℤ)) (k i : ℕ) → length form ≤ k → free_column_of form (drop k form) i ≡ i
no_row form k i l = past form form k i l
  where
    past : (form rows : List (List ℤ)) (k i : ℕ) → length rows ≤ k → free_column_of form (drop k rows) i ≡ i
    past form [] zero i l = refl
    past form [] (suc k) i l = refl
    past form (r ∷ rows) zero i l = absurd (omega arith)
    past form (r ∷ rows) (suc k) i l = past form rows k i (omega arith)

-- what the first free column of a row is, from column s on
record IsFirstFree (form : List (List ℤ)) (row : List ℤ) (s j : ℕ) : Type 0 where
  from : s ≤ j
  within : j ≤ s + length row
  hit : j < s + length row → (is_pivot form j ≡ false) × ((i : ℕ) → s + i ≡ j → number_at row i ≢ pos 0)
  before : (i : ℕ) → s + i < j → (is_pivot form (s + i) || is_zero (number_at row i)) ≡ true

-- a column that is passed over, and the search after it
passed_over : (form : List (List ℤ)) (x : ℤ) (row : List ℤ) (s j : ℕ) → (is_pivot form s || is_zero x) ≡ true → IsFirstFree form row (s + 1) j →
    IsFirstFree form (x ∷ row) s j
passed_over form x row s j e rest =
    let start = rest.from in
    let end = rest.within in
    record {
      from = omega arith;
      within = omega arith;
      hit = λ l. let hit = rest.hit (omega arith) in (hit.0, hit_at hit.1);
      before = before_at;
    }
  where
    hit_at : ((i : ℕ) → (s + 1) + i ≡ j → number_at row i ≢ pos 0) → (i : ℕ) → s + i ≡ j → number_at (x ∷ row) i ≢ pos 0
    hit_at h zero same = let start = rest.from in absurd (omega arith)
    hit_at h (suc i) same = h i (omega arith)

    before_at : (i : ℕ) → s + i < j → (is_pivot form (s + i) || is_zero (number_at (x ∷ row) i)) ≡ true
    before_at zero l = let same : s + zero ≡ s = omega arith in ap (λ m. is_pivot form m || is_zero x) same ∙ e
    before_at (suc i) l =
        let same : s + suc i ≡ (s + 1) + i = omega arith in ap (λ m. is_pivot form m || is_zero (number_at row i)) same ∙ rest.before i (omega arith)

-- a column at which the search stops
stopped_at : (form : List (List ℤ)) (x : ℤ) (row : List ℤ) (s : ℕ) → (is_pivot form s || is_zero x) ≡ false → IsFirstFree form (x ∷ row) s s
stopped_at form x row s e = record {
  from = omega arith;
  within = omega arith;
  hit = λ l. ((or_parts (is_pivot form s) (is_zero x) e).0, here);
  before = λ i l. absurd (omega arith);
}
  where
    here : (i : ℕ) → s + i ≡ s → number_at (x ∷ row) i ≢ pos 0
    here zero same = not_zero_from_test x (or_parts (is_pivot form s) (is_zero x) e).1
    here (suc i) same = absurd (omega arith)

by_test : (form : List (List ℤ)) (x : ℤ) (row : List ℤ) (s j : ℕ) (b : Bool) → (is_pivot form s || is_zero x) ≡ b → IsFirstFree form row (s + 1) j →
    IsFirstFree form (x ∷ row) s (cond b j s)
by_test form x row s j true e rest = passed_over form x row s j e rest
by_test form x row s j false e rest = stopped_at form x row s e

found : (form : List (List ℤ)) (row : List ℤ) (s : ℕ) → IsFirstFree form row s (first_free form row s)
found form [] s = record { from = omega arith; within = omega arith; hit = λ l. absurd (omega arith); before = λ i l. absurd (omega arith) }
found form (x ∷ row) s = by_test form x row s (first_free form row (s + 1)) (is_pivot form s || is_zero x) refl (found form row (s + 1))

-- a column that isn't a pivot is the pivot of no row
no_pivot : (form : List (List ℤ)) (j : ℕ) → is_pivot form j ≡ false → AllByRecursion (λ row. pivot row ≢ j) form
no_pivot [] j e = tt
no_pivot (row ∷ rows) j e = let parts = or_parts (pivot row == j) (is_pivot rows j) e in (eqb-false (pivot row) j parts.0, no_pivot rows j parts.1)

-- and the other way round
free_place : (form : List (List ℤ)) (j : ℕ) → AllByRecursion (λ row. pivot row ≢ j) form → is_pivot form j ≡ false
free_place [] j all = refl
free_place (row ∷ rows) j all = or_from (pivot row == j) (is_pivot rows j) (ne_eqb (pivot row) j all.0) (free_place rows j all.1)

module _ (n : ℕ) (form : List (List ℤ)) (row : List ℤ) (long : length row ≡ n) where
  -- a row without entries at free columns has none
  no_entry : IsFreeList n form row [] → first_free form row 0 ≡ n
  no_entry list =
      let first = found form row 0 in
      let end = first.within in
      elim (cases_lt (first_free form row 0) n) [
        | inl l ↦
            let hit = first.hit (omega arith) in
            absurd (hit.1 (first_free form row 0) (omega arith) (sym (list.is (first_free form row 0) (no_pivot form (first_free form row 0) hit.0))))
        | inr past ↦ omega arith
      ]

  -- and the first of its entries at free columns stands at the first free one
  first_entry : (e : FreeEntry) (entries : List FreeEntry) → IsFreeList n form row (e ∷ entries) → first_free form row 0 ≡ e.place
  first_entry e entries list =
      let first = found form row 0 in
      let below : e.place < n = list.listed.1 in
      let value : number_at row e.place ≢ pos 0 =
      λ none. list.listed.2 (sym (first_value 0 n e entries list.listed) ∙ list.is e.place list.free.0 ∙ none) in
      elim (cases_lt (first_free form row 0) (e.place + 1)) [
        | inl l ↦ elim (cases_lt (first_free form row 0) e.place) [
          | inl before ↦
              let hit = first.hit (omega arith) in
              absurd (hit.1 (first_free form row 0) (omega arith)
              (sym (list.is (first_free form row 0) (no_pivot form (first_free form row 0) hit.0))
              ∙ zero_below e.place n (e ∷ entries) (first_free form row 0) (omega arith, list.listed.1, list.listed.2, list.listed.3) before))
          | inr from ↦ omega arith
        ]
        | inr past ↦
            let passed : (is_pivot form (0 + e.place) || is_zero (number_at row e.place)) ≡ true = first.before e.place (omega arith) in
            let same : 0 + e.place ≡ e.place = omega arith in
            let stops = or_from (is_pivot form e.place) (is_zero (number_at row e.place)) (free_place form e.place list.free.0)
            (test_of_not_zero (number_at row e.place) value) in
            absurd (false≢true (sym stops ∙ ap (λ m. is_pivot form m || is_zero (number_at row e.place)) (sym same) ∙ passed))
      ]

  -- so the first of the entries at free columns says where the first free column is
  pub first_is : (entries : List FreeEntry) (e : FreeEntry) → IsFreeList n form row entries → Some e ≡ slice_get entries 0 → e.place ≡ first_free form row 0
  first_is [] e list is = absurd cc
  first_is (f ∷ entries) e list is = let same : e ≡ f = cc in ap (λ (x : FreeEntry). x.place) same ∙ sym (first_entry f entries list)

  -- and without one there is none
  pub none_is : (entries : List FreeEntry) → IsFreeList n form row entries → None ≡ slice_get entries 0 → n ≡ first_free form row 0
  none_is [] list is = sym (no_entry list)
  none_is (f ∷ entries) list is = absurd cc

-- some row has pivot i and is not 0 at column j
abbrev pub Reaches : List (List ℤ) → ℕ → ℕ → Type 0
Reaches [] i j = ⊥
Reaches (row ∷ rows) i j = ((pivot row ≡ i) × (number_at row j ≢ pos 0)) ⊎ Reaches rows i j

-- a free column of the form that is row i itself, or that the row with pivot i reaches
pub record IsFreeColumn (form rows : List (List ℤ)) (n i j : ℕ) : Type 0 where
  pub below : j < n
  pub free : is_pivot form j ≡ false
  pub reaches : (j ≡ i) ⊎ Reaches rows i j

-- what a row that isn't pinned may assume of the rows of the form
record IsOpen (n : ℕ) (sets : List (List ℕ)) (form rows : List (List ℤ)) (i : ℕ) : Type 0 where
  primitive : AllByRecursion (IsPrimitive n) rows
  zeros : AllByRecursion (IsZeroAtOthers form) rows
  orthogonal : (d : List ℤ) → IsDirection n sets d → AllByRecursion (λ f. dot n (number_at f) d ≡ pos 0) rows
  same : is_pivot form i ≡ is_pivot rows i
  below : i < n
  free : ¬ (IsPinned n sets i)

-- a row with one entry pins its pivot: its dot product with a direction is that entry times the direction's
lone_pins : (n : ℕ) (sets : List (List ℕ)) (row : List ℤ) (i : ℕ) → pos 0 <ℤ pivot_entry row → pivot row ≡ i → i < n →
    ((k : ℕ) → k < n → k ≢ i → number_at row k ≡ pos 0) →
    ((d : List ℤ) → IsDirection n sets d → dot n (number_at row) d ≡ pos 0) → IsPinned n sets i
lone_pins n sets row i leading e below zeros orthogonal = record {
  below = below;
  still = λ d direction.
      let one = total-single (λ k. number_at row k *ℤ number_at d k) n i below
      (λ k l other. ap (λ z. z *ℤ number_at d k) (zeros k l other) ∙ zero-*ℤ (number_at d k)) in
      let positive : pos 0 <ℤ number_at row i = let entry = ap (number_at row) e in omega (arith, ints) in
      zero_factor (number_at d i) (number_at row i) (*ℤ_comm (number_at d i) (number_at row i) ∙ sym one ∙ orthogonal d direction) positive;
}

module _ (n : ℕ) (sets : List (List ℕ)) (form : List (List ℤ)) (row : List ℤ) (rows : List (List ℤ)) (i : ℕ) (h : IsOpen n sets form (row ∷ rows) i) where
  passed_row : (pivot row == i) ≡ false → IsOpen n sets form rows i
  passed_row e = record {
    primitive = h.primitive.1;
    zeros = h.zeros.1;
    orthogonal = λ d direction. (h.orthogonal d direction).1;
    same = h.same ∙ ap (λ b. b || is_pivot rows i) e;
    below = h.below;
    free = h.free;
  }

  -- a row that reaches no free column would pin its pivot
  some_column : pivot row ≡ i → n ≤ first_free form row 0 → ⊥
  some_column e past = h.free (lone_pins n sets row i h.primitive.0.leading e h.below zeros (λ d direction. (h.orthogonal d direction).0))
    where
      zeros : (k : ℕ) → k < n → k ≢ i → number_at row k ≡ pos 0
      zeros k l other =
          let first : (is_pivot form (0 + k) || is_zero (number_at row k)) ≡ true = (found form row 0).before k (omega arith) in
          let same : 0 + k ≡ k = omega arith in
          elim (or_cases (is_pivot form k) (is_zero (number_at row k)) (ap (λ m. is_pivot form m || is_zero (number_at row k)) (sym same) ∙ first)) [
            | inl there ↦ h.zeros.0 k there (λ equal. other (equal ∙ e))
            | inr none ↦ zero_from_test (number_at row k) none
          ]

  by_pivot : (b : Bool) (j : ℕ) → (pivot row == i) ≡ b → ((pivot row == i) ≡ false → IsFreeColumn form rows n i j) →
      IsFreeColumn form (row ∷ rows) n i (cond b (first_free form row 0) j)
  by_pivot true j e rest =
      let at = eqb-true (pivot row) i e in
      let facts = found form row 0 in
      let long = h.primitive.0.one_each in
      elim (cases_lt (first_free form row 0) n) [
        | inl l ↦
            let hit = facts.hit (omega arith) in
            record { below = l; free = hit.0; reaches = inr (inl (at, hit.1 (first_free form row 0) (omega arith))) }
        | inr past ↦ absurd (some_column at past)
      ]
  by_pivot false j e rest =
      let there = rest e in
      record { below = there.below; free = there.free; reaches = elim there.reaches [ inl same ↦ inl same | inr r ↦ inr (inr r) ] }

free_column_is : (n : ℕ) (sets : List (List ℕ)) (form rows : List (List ℤ)) (i : ℕ) → IsOpen n sets form rows i →
    IsFreeColumn form rows n i (free_column_of form rows i)
free_column_is n sets form [] i h = record { below = h.below; free = h.same; reaches = inl refl }
free_column_is n sets form (row ∷ rows) i h =
    by_pivot n sets form row rows i h (pivot row == i) (free_column_of form rows i) refl
    (λ e. free_column_is n sets form rows i (passed_row n sets form row rows i h e))

-- the free column of a row that isn't pinned
pub free_column_found : DirectionsByForm → (n : ℕ) (sets : List (List ℕ)) (form : List (List ℤ)) (i : ℕ) → AllByRecursion (AreRows n) sets →
    Reduced n sets form → i < n → ¬ (IsPinned n sets i) → IsFreeColumn form form n i (free_column_of form form i)
free_column_found directions n sets form i are reduced below free = free_column_is n sets form form i (record {
  primitive = reduced.primitive;
  zeros = zero_at_others form reduced.echelon;
  orthogonal = λ d direction. ((directions n sets form d are reduced).0 direction).zeros;
  same = refl;
  below = below;
  free = free;
})
