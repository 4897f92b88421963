-- Which unit rows may lie in the span of a form with a row that is 0 at its pivots: those at the form's pivots, and that at the new row's.
use Rattle.std.proofs.Common.{◌≡◌, ◌≢◌, ℕ, suc, ◌<◌, false, ℤ, pos, List, [], ◌∷◌, ◌++◌, ◌⊎◌, length, get_or, refl, sym, ap, ◌∙◌, arith, subst, inl, inr}
use Rattle.std.specs.Prelude.{◌+ℤ◌, ◌*ℤ◌, neg_ℤ, Option, None, Some, Vec}
use Rattle.std.specs.declared.alloc.Global.{Global}
use Rattle.std.specs.List.{AllByRecursion}
use Rattle.std.proofs.lemmas.Int.{ints}
use Rattle.std.proofs.lemmas.Bool.{cases_eq}
use Rattle.std.proofs.Math.IntN.{*ℤ-zero, *ℤ_comm}
use Rattle.std.proofs.lemmas.List.Elements.{All-from_recursion}
use Rattle.audit_types.specs.Truth.{number_at}
use Rattle.audit_types.specs.Form.{InSpan, IsPrimitive, pivot, pivot_entry}
use Rattle.audit_types.specs.FormRows.{pivot_below}
use Rattle.audit_types.specs.Rows.{has_row}
use Rattle.audit_types.specs.Products.{neg-times, one-times}
use Rattle.sum_basis.specs.Basis.{Echelon, unit_row, IsFreeList}
use Rattle.sum_basis.specs.Combination.{combine}
use Rattle.sum_basis.specs.CombinedRows.{number_at-combine}
use Rattle.sum_basis.specs.Elimination.{IsLone, IsSmallForm, IsZeroAtPivots}
use Rattle.sum_basis.specs.Growth.{IsLeftOver, SpansAfter}
use Rattle.sum_basis.specs.Sparse.{row_of}
use Rattle.sum_basis.specs.Spans.{spans_from, in_span_from, spans_same, spans_times, spans_add, span_zero, own}
use Rattle.sum_basis.specs.declared.sparse.FreeEntry.{FreeEntry}
use Rattle.sum_basis.specs.Ties.{IsRowOf}
use Rattle.sum_basis.proofs.FormsAreUnique.{zeros_walk, zero_at_others, in_span_at, leads_from}
use Rattle.sum_basis.proofs.KeptForms.{row_among}
use Rattle.sum_basis.proofs.SparseRows.{first_value}
use Rattle.sum_basis.proofs.SpansWithOneMore.{alone, on_line, same_pivot}
use Rattle.sum_basis.proofs.UnitRowsInSpan.{unit_here, unit_elsewhere, pivot-unit_row}

-- a row with something at no pivot of the form isn't lone
pub not_lone : (n : ℕ) (form : List (List ℤ)) (k : ℕ) (entries : List FreeEntry) → k < length form → IsFreeList n form (get_or form k []) entries →
    length entries ≢ 0 → ¬ (IsLone (get_or form k []))
not_lone n form k [] within free some lone = some refl
not_lone n form k (e ∷ entries) within free some lone =
    let apart = All-from_recursion (λ other. pivot other ≢ e.place) form free.free.0 k [] within in
    free.listed.2 (sym (first_value 0 n e entries free.listed) ∙ free.is e.place free.free.0 ∙ lone e.place (λ same. apart (sym same)))

-- a row of the form, whose pivot's unit row is in the span of some rows among which the form is
module _ (n : ℕ) (form span : List (List ℤ)) (f : IsSmallForm n form) (of_form : AllByRecursion (InSpan span) form) (row : List ℤ) (among : IsRowOf row form)
    (inside : pivot row < n) (spanned : InSpan span (unit_row n (pivot row))) where
  abbrev pub unit : List ℤ
  unit = unit_row n (pivot row)

  -- the unit row less the form's, so that nothing is left at the pivots
  abbrev pub rest : List ℤ
  rest = combine (pivot_entry row) unit (pos 1) row

  pub rest_is : (j : ℕ) → number_at rest j ≡ pivot_entry row *ℤ number_at unit j +ℤ neg_ℤ (pos 1) *ℤ number_at row j
  rest_is j = number_at-combine (pivot_entry row) unit (pos 1) row j

  at_pivot : (other : List ℤ) → IsRowOf other form → number_at rest (pivot other) ≡ pos 0
  at_pivot other is = rest_is (pivot other) ∙ elim (cases_eq (pivot other) (pivot row)) [
    | inl same ↦
        let one = ap (number_at unit) same ∙ unit_here n (pivot row) inside in
        let entry = ap (number_at row) same in
        let product = *ℤ_comm (pivot_entry row) (pos 1) ∙ one-times (pivot_entry row) in
        let minus = neg-times (pos 1) (pivot_entry row) in
        let once = one-times (pivot_entry row) in
        ap (λ z. pivot_entry row *ℤ z +ℤ neg_ℤ (pos 1) *ℤ number_at row (pivot other)) one
        ∙ ap (λ z. pivot_entry row *ℤ pos 1 +ℤ neg_ℤ (pos 1) *ℤ z) entry ∙ omega (arith, ints)
    | inr apart ↦
        let none = unit_elsewhere n (pivot row) (pivot other) apart in
        let gone = zero_at_others form row other f.echelon among is (λ e. apart (sym e)) in
        ap (λ z. pivot_entry row *ℤ z +ℤ neg_ℤ (pos 1) *ℤ number_at row (pivot other)) none
        ∙ ap (λ z. pivot_entry row *ℤ pos 0 +ℤ neg_ℤ (pos 1) *ℤ z) gone
        ∙ ap (λ z. z +ℤ neg_ℤ (pos 1) *ℤ pos 0) (*ℤ-zero (pivot_entry row)) ∙ ap (λ z. pos 0 +ℤ z) (*ℤ-zero (neg_ℤ (pos 1)))
  ]

  pub rest_zeros : IsZeroAtPivots form rest
  rest_zeros = zeros_walk (number_at rest) form form (λ g r. r) at_pivot

  pub rest_spanned : InSpan span rest
  rest_spanned = in_span_from span rest (spans_same span (λ j. pivot_entry row *ℤ number_at unit j +ℤ neg_ℤ (pos 1) *ℤ number_at row j) (number_at rest)
      (λ j. sym (rest_is j))
      (spans_add span (λ j. pivot_entry row *ℤ number_at unit j) (λ j. neg_ℤ (pos 1) *ℤ number_at row j)
      (spans_times span (pivot_entry row) (number_at unit) (spans_from span unit spanned))
      (spans_times span (neg_ℤ (pos 1)) (number_at row) (spans_from span row (in_span_at span form row of_form among)))))

  -- if nothing is left at all, the row is lone
  pub lone_if_nothing : ((j : ℕ) → number_at rest j ≡ pos 0) → IsLone row
  lone_if_nothing nothing j other =
      let none = sym (rest_is j) ∙ nothing j in
      let zero_there = ap (λ z. pivot_entry row *ℤ z) (unit_elsewhere n (pivot row) j other) ∙ *ℤ-zero (pivot_entry row) in
      let minus = neg-times (pos 1) (number_at row j) in
      let once = one-times (number_at row j) in
      omega (arith, ints)

-- a row whose pivot's unit row is in the form's span is lone
pub lone_in_form : (n : ℕ) (form : List (List ℤ)) (row : List ℤ) → IsSmallForm n form → IsRowOf row form → pivot row < n →
    InSpan form (unit_row n (pivot row)) → IsLone row
lone_in_form n form row f among inside spanned =
    lone_if_nothing n form form f (own form) row among inside spanned
    (span_zero form (number_at (rest n form form f (own form) row among inside spanned)) f.echelon (leads_from n form f.primitive)
    (spans_from form (rest n form form f (own form) row among inside spanned) (rest_spanned n form form f (own form) row among inside spanned))
    (rest_zeros n form form f (own form) row among inside spanned))

-- a number is the pivot of a row of the form, or of none
pub pivot_or_none : (form : List (List ℤ)) (i : ℕ) → ((k : ℕ) × (k < length form) × (pivot (get_or form k []) ≡ i)) ⊎
    AllByRecursion (λ other. pivot other ≢ i) form
pivot_or_none [] i = inr tt
pivot_or_none (r ∷ form) i = elim (cases_eq (pivot r) i) [
  | inl same ↦ inl (0, omega arith, same)
  | inr apart ↦ elim (pivot_or_none form i) [ inl found ↦ inl (suc found.0, (let h = found.1 in omega arith), found.2) | inr none ↦ inr (apart, none) ]
]

-- the unit row of a number that is no pivot is 0 at all pivots
pub unit_zeros : (n i : ℕ) (form : List (List ℤ)) → AllByRecursion (λ other. pivot other ≢ i) form → IsZeroAtPivots form (unit_row n i)
unit_zeros n i [] none = tt
unit_zeros n i (r ∷ form) none = (unit_elsewhere n i (pivot r) none.0, unit_zeros n i form none.1)

-- it isn't in the form's span
pub not_in_form : (n i : ℕ) (form : List (List ℤ)) → IsSmallForm n form → i < n → AllByRecursion (λ other. pivot other ≢ i) form →
    ¬ (InSpan form (unit_row n i))
not_in_form n i form f within none spanned =
    let nothing = span_zero form (number_at (unit_row n i)) f.echelon (leads_from n form f.primitive) (spans_from form (unit_row n i) spanned)
    (unit_zeros n i form none) i in
    let one = unit_here n i within in
    omega (arith, ints)

-- in that with the new row it is only at the new row's pivot
pub at_new_pivot : (n i : ℕ) (form : List (List ℤ)) (r : List ℤ) → IsSmallForm n form → IsZeroAtPivots form r → IsPrimitive n r → i < n →
    AllByRecursion (λ other. pivot other ≢ i) form → InSpan (form ++ r ∷ []) (unit_row n i) → pivot r ≡ i
at_new_pivot n i form r f zeros primitive within none spanned =
    let unit = unit_row n i in
    let line = on_line r unit (alone form r unit f.echelon (leads_from n form f.primitive) (unit_zeros n i form none) zeros spanned) in
    sym (same_pivot n r unit primitive (λ nothing. let one = unit_here n i within in let at = nothing i in omega (arith, ints)) line)
    ∙ pivot-unit_row n i within

-- row k of the form
module _ (form : Echelon) (f : IsSmallForm form.n form.rows) (k : ℕ) (within : k < length form.rows) where
  abbrev pub row : List ℤ
  row = get_or form.rows k []

  inside : pivot row < form.n
  inside = pivot_below form.n row (All-from_recursion (IsPrimitive form.n) form.rows f.primitive k [] within)

  -- with other entries, its pivot's unit row isn't in the span of the form
  pub not_alone : (entries : List FreeEntry) → IsFreeList form.n form.rows row entries → length entries ≢ 0 →
      ¬ (SpansAfter form None (unit_row form.n (pivot row)))
  not_alone entries free some span =
      not_lone form.n form.rows k entries within free some (lone_in_form form.n form.rows row f (row_among form.rows k within) inside span)

-- the unit row at no pivot of the form that isn't shared is in the span
abbrev pub NoneAtPivots : Echelon → Option (Vec FreeEntry Global) → List ℕ → Type 0
NoneAtPivots form left shared = (j : ℕ) → j < length form.rows → has_row shared (pivot (get_or form.rows j [])) ≡ false →
    ¬ (SpansAfter form left (unit_row form.n (pivot (get_or form.rows j []))))

module _ (form : Echelon) (f : IsSmallForm form.n form.rows) (shared : List ℕ) (i : ℕ) (within : i < form.n) (mine : has_row shared i ≡ false) where
  no_pivot_is : (left : Option (Vec FreeEntry Global)) → NoneAtPivots form left shared → SpansAfter form left (unit_row form.n i) →
      AllByRecursion (λ other. pivot other ≢ i) form.rows
  no_pivot_is left none span = elim (pivot_or_none form.rows i) [
    | inl found ↦ absurd (none found.0 found.1 (ap (has_row shared) found.2 ∙ mine) (subst (λ p. SpansAfter form left (unit_row form.n p)) (sym found.2) span))
    | inr apart ↦ apart
  ]

  -- then none that isn't shared is in the form's
  pub none_at_all : NoneAtPivots form None shared → ¬ (SpansAfter form None (unit_row form.n i))
  none_at_all none span = not_in_form form.n i form.rows f within (no_pivot_is None none span) span

  -- and only that at the pivot of what was left in the span with it
  pub only_at_left : (list : Vec FreeEntry Global) → IsLeftOver form list.items → NoneAtPivots form (Some list) shared →
      SpansAfter form (Some list) (unit_row form.n i) →
      pivot (row_of form.n list.items) ≡ i
  only_at_left list over none span =
      at_new_pivot form.n i form.rows (row_of form.n list.items) f over.1 over.0.primitive within (no_pivot_is (Some list) none span) span
