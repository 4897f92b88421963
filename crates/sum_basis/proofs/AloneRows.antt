-- A row of a form, cleared by a list that the form left of another row, has no other entry exactly if its list is a multiple of that one. Only then
-- is its pivot's unit row in the span of both.
use Rattle.std.proofs.Common.{◌≡◌, ◌≢◌, ◌↔◌, ℕ, false, ◌<◌, ℤ, pos, List, [], ◌∷◌, ◌++◌, length, map, get_or, refl, sym, ap, ◌∙◌, subst, arith, inl, inr}
use Rattle.std.specs.Prelude.{◌+ℤ◌, ◌*ℤ◌, ◌<ℤ◌, neg_ℤ, Some, Vec}
use Rattle.std.specs.declared.alloc.Global.{Global}
use Rattle.std.specs.List.{AllByRecursion}
use Rattle.std.proofs.lemmas.Int.{ints}
use Rattle.std.proofs.lemmas.Bool.{cases_eq}
use Rattle.std.proofs.lemmas.List.Elements.{All-from_recursion}
use Rattle.std.proofs.Math.IntN.{*ℤ-zero, *ℤ_comm, zero-*ℤ}
use Rattle.audit_types.specs.Truth.{number_at}
use Rattle.audit_types.specs.Form.{InSpan, IsPrimitive, pivot, pivot_entry}
use Rattle.audit_types.specs.FormRows.{pivot_below}
use Rattle.audit_types.specs.Rows.{has_row}
use Rattle.audit_types.specs.ListLaws.{all-front}
use Rattle.audit_types.specs.Numbers.{positive_is}
use Rattle.audit_types.specs.Products.{neg-times, one-times, zero_product}
use Rattle.sum_basis.specs.Basis.{Echelon, IsFreeList, unit_row}
use Rattle.sum_basis.specs.Elimination.{IsSmallForm}
use Rattle.sum_basis.specs.Growth.{IsLeftOver, SpansAfter, SpansOwnAfter}
use Rattle.sum_basis.specs.Asking.{SpansNewAfter}
use Rattle.sum_basis.specs.Sparse.{entry_at, row_of, scaled}
use Rattle.sum_basis.specs.Spans.{spans_from, in_span_from, spans_same, spans_times, spans_add, spans_down, span_trans, own}
use Rattle.sum_basis.specs.declared.sparse.FreeEntry.{FreeEntry}
use Rattle.sum_basis.proofs.FormsAreUnique.{zero_at_others, leads_from}
use Rattle.sum_basis.proofs.KeptForms.{row_among}
use Rattle.sum_basis.proofs.SparseRows.{elsewhere, own_value, number_at-row_of}
use Rattle.sum_basis.proofs.ListContents.{none, entry_at-scaled, first_some}
use Rattle.sum_basis.proofs.ClearedLists.{IsLed, is_led, positive_times}
use Rattle.sum_basis.proofs.Merges.{scaled_listed}
use Rattle.sum_basis.proofs.OneKey.{crossed}
use Rattle.sum_basis.proofs.Parallels.{same_listed, alike_at}
use Rattle.sum_basis.proofs.KeptRows.{lone_new}
use Rattle.sum_basis.proofs.SpansWithOneMore.{IsOnLine, alone, on_line, by_some}
use Rattle.sum_basis.proofs.UnitRowsInSpan.{unit_here, unit_elsewhere, unit_in_span}
use Rattle.sum_basis.proofs.OwnRows.{rest, rest_is, rest_zeros, rest_spanned, pivot_or_none, unit_zeros, NoneAtPivots, only_at_left}
use Rattle.sum_basis.proofs.ExchangedRows.{NoneNewAtPivots, apart_from, no_pivot_there, not_known_there, only_new}

-- entries at free columns are 0 at the pivots
off_pivot : (rows : List (List ℤ)) (k : ℕ) → k < length rows → (entries : List FreeEntry) →
    AllByRecursion (λ (e : FreeEntry). AllByRecursion (λ other. pivot other ≢ e.place) rows) entries → entry_at entries (pivot (get_or rows k [])) ≡ pos 0
off_pivot rows k within [] apart = refl
off_pivot rows k within (e ∷ entries) apart =
    let p = pivot (get_or rows k []) in
    let first = elsewhere e p (λ same. All-from_recursion (λ other. pivot other ≢ e.place) rows apart.0 k [] within (sym same)) in
    let others = off_pivot rows k within entries apart.1 in
    omega (arith, ints)

module _ (form : Echelon) (f : IsSmallForm form.n form.rows) (k : ℕ) (within : k < length form.rows) where
  abbrev row : List ℤ
  row = get_or form.rows k []

  primitive : IsPrimitive form.n row
  primitive = All-from_recursion (IsPrimitive form.n) form.rows f.primitive k [] within

  inside : pivot row < form.n
  inside = pivot_below form.n row primitive

  -- the list at free columns has what the row has after its pivot
  free_at : (entries : List FreeEntry) → IsFreeList form.n form.rows row entries → (j : ℕ) → j ≢ pivot row → entry_at entries j ≡ number_at row j
  free_at entries free j other = elim (pivot_or_none form.rows j) [
    | inl found ↦
        let there = zero_at_others form.rows row (get_or form.rows found.0 []) f.echelon (row_among form.rows k within) (row_among form.rows found.0 found.1)
        (λ same. other (sym found.2 ∙ sym same)) in
        subst (λ (p : ℕ). entry_at entries p ≡ number_at row p) found.2 (off_pivot form.rows found.0 found.1 entries free.free ∙ sym there)
    | inr apart ↦ free.is j apart
  ]

  module _ (list : List FreeEntry) (over : IsLeftOver form list) where
    abbrev r : List ℤ
    r = row_of form.n list

    abbrev both : List (List ℤ)
    both = form.rows ++ r ∷ []

    of_both : AllByRecursion (InSpan both) form.rows × InSpan both r
    of_both = all-front (InSpan both) form.rows r (own both)

    led : IsLed form.n list (get_or list 0 none).place (get_or list 0 none).value
    led = is_led form.n list over.0

    nothing_there : number_at r (pivot row) ≡ pos 0
    nothing_there = All-from_recursion (λ other. number_at r (pivot other) ≡ pos 0) form.rows over.1 k [] within

    at_row : (j : ℕ) → number_at r j ≡ entry_at list j
    at_row j = number_at-row_of 0 form.n list over.0.listed j

    -- with the unit row in the span, the row and the list are of one ratio after the row's pivot
    module _ (spanned : InSpan both (unit_row form.n (pivot row))) where
      abbrev left : List ℤ
      left = rest form.n form.rows both f of_both.0 row (row_among form.rows k within) inside spanned

      line : IsOnLine r left
      line = on_line r left (alone form.rows r left f.echelon (leads_from form.n form.rows f.primitive)
          (rest_zeros form.n form.rows both f of_both.0 row (row_among form.rows k within) inside spanned) over.1
          (rest_spanned form.n form.rows both f of_both.0 row (row_among form.rows k within) inside spanned))

      on_row : (j : ℕ) → j ≢ pivot row → pos line.multiple *ℤ number_at row j ≡ neg_ℤ line.by *ℤ number_at r j
      on_row j other =
          let is = rest_is form.n form.rows both f of_both.0 row (row_among form.rows k within) inside spanned j in
          let gone = ap (λ z. pivot_entry row *ℤ z) (unit_elsewhere form.n (pivot row) j other) ∙ *ℤ-zero (pivot_entry row) in
          let minus = neg-times (pos 1) (number_at row j) in
          let once = one-times (number_at row j) in
          let negated : number_at left j ≡ neg_ℤ (number_at row j) = omega (arith, ints) in
          let turned = ap (λ z. pos line.multiple *ℤ z) negated ∙ *ℤ_comm (pos line.multiple) (neg_ℤ (number_at row j))
          ∙ neg-times (number_at row j) (pos line.multiple) ∙ ap neg_ℤ (*ℤ_comm (number_at row j) (pos line.multiple)) in
          let whole = line.is j in
          let other_side = neg-times line.by (number_at r j) in
          omega (arith, ints, turned, whole, other_side)

      one_ratio : (j : ℕ) → j ≢ pivot row → pivot_entry r *ℤ number_at row j ≡ number_at row (pivot r) *ℤ number_at r j
      one_ratio j other =
          *ℤ_comm (pivot_entry r) (number_at row j)
          ∙ sym (crossed (pos line.multiple) (neg_ℤ line.by) (number_at row (pivot r)) (number_at row j) (pivot_entry r) (number_at r j)
          (let m = line.positive in omega (arith, ints))
          (on_row (pivot r) (apart_from form f list over k within)) (on_row j other))

    -- back, by any ratio
    module _ (by times : ℤ) (positive : pos 0 <ℤ by) (same : (j : ℕ) → j ≢ pivot row → by *ℤ number_at row j ≡ times *ℤ number_at r j) where
      m : (m : ℕ) × (by *ℤ pivot_entry row ≡ pos m) × (0 < m)
      m = positive_is (by *ℤ pivot_entry row) (positive_times by (pivot_entry row) positive primitive.leading)

      abbrev unit : List ℤ
      unit = unit_row form.n (pivot row)

      difference : (j : ℕ) → by *ℤ number_at row j +ℤ neg_ℤ times *ℤ number_at r j ≡ pos m.0 *ℤ number_at unit j
      difference j = elim (cases_eq j (pivot row)) [
        | inl here ↦
            let bit = ap (number_at unit) here ∙ unit_here form.n (pivot row) inside in
            let one = ap (λ z. pos m.0 *ℤ z) bit ∙ *ℤ_comm (pos m.0) (pos 1) ∙ one-times (pos m.0) in
            let gone = ap (λ z. neg_ℤ times *ℤ z) (ap (number_at r) here ∙ nothing_there) ∙ *ℤ-zero (neg_ℤ times) in
            let whole = ap (λ z. by *ℤ z) (ap (number_at row) here) ∙ m.1 in
            omega (arith, ints, one, gone, whole)
        | inr other ↦
            let zero = ap (λ z. pos m.0 *ℤ z) (unit_elsewhere form.n (pivot row) j other) ∙ *ℤ-zero (pos m.0) in
            let equal = same j other in
            let minus = neg-times times (number_at r j) in
            omega (arith, ints, zero, equal, minus)
      ]

      by_ratio : InSpan both unit
      by_ratio = in_span_from both unit (spans_down both m.0 (number_at unit) m.2
          (spans_same both (λ j. by *ℤ number_at row j +ℤ neg_ℤ times *ℤ number_at r j) (λ j. pos m.0 *ℤ number_at unit j) difference
          (spans_add both (λ j. by *ℤ number_at row j) (λ j. neg_ℤ times *ℤ number_at r j)
          (spans_times both by (number_at row) (spans_from both row (All-from_recursion (InSpan both) form.rows of_both.0 k [] within)))
          (spans_times both (neg_ℤ times) (number_at r) (spans_from both r of_both.1)))))

    -- ---- by the lists

    module _ (entries : List FreeEntry) (free : IsFreeList form.n form.rows row entries) where
      pub spans_if_parallel : (times : ℤ) → map (scaled (get_or list 0 none).value) entries ≡ map (scaled times) list →
          InSpan both (unit_row form.n (pivot row))
      spans_if_parallel times parallel =
          let by = (get_or list 0 none).value in
          by_ratio by times (subst (λ z. pos 0 <ℤ z) led.pivot_entry_is over.0.primitive.leading) (λ j other.
          ap (λ z. by *ℤ z) (sym (free_at entries free j other)) ∙ sym (entry_at-scaled by entries j) ∙ ap (λ es. entry_at es j) parallel
          ∙ entry_at-scaled times list j ∙ ap (λ z. times *ℤ z) (sym (at_row j)))

      -- in one ratio they are parallel, by the entry at the list's first place
      module _ (spanned : InSpan both (unit_row form.n (pivot row))) where
        abbrev by : ℤ
        by = (get_or list 0 none).value

        abbrev times : ℤ
        times = entry_at entries (get_or list 0 none).place

        times_is : times ≡ number_at row (pivot r)
        times_is = ap (entry_at entries) (sym led.at_pivot) ∙ free_at entries free (pivot r) (apart_from form f list over k within)

        alike : (j : ℕ) → by *ℤ entry_at entries j ≡ times *ℤ entry_at list j
        alike j = elim (cases_eq j (pivot row)) [
          | inl here ↦
              ap (λ z. by *ℤ z) (ap (entry_at entries) here ∙ off_pivot form.rows k within entries free.free) ∙ *ℤ-zero by ∙ sym (*ℤ-zero times)
              ∙ ap (λ z. times *ℤ z) (sym (sym (at_row j) ∙ ap (number_at r) here ∙ nothing_there))
          | inr other ↦
              ap (λ z. z *ℤ entry_at entries j) (sym led.pivot_entry_is) ∙ ap (λ z. pivot_entry r *ℤ z) (free_at entries free j other)
              ∙ one_ratio spanned j other ∙ ap (λ z. z *ℤ number_at r j) (sym times_is) ∙ ap (λ z. times *ℤ z) (at_row j)
        ]

        factor_some : by ≢ pos 0
        factor_some = first_some form.n list over.0.listed over.0.some

        module _ (some : 0 < length entries) where
          times_some : times ≢ pos 0
          times_some nothing = first_some form.n entries free.listed some
              (sym (own_value 0 form.n entries 0 none free.listed some)
              ∙ zero_product by (entry_at entries (get_or entries 0 none).place)
              (alike (get_or entries 0 none).place ∙ ap (λ z. z *ℤ entry_at list (get_or entries 0 none).place) nothing
              ∙ zero-*ℤ (entry_at list (get_or entries 0 none).place)) factor_some)

          by_that : map (scaled by) entries ≡ map (scaled times) list
          by_that = same_listed 0 form.n (map (scaled by) entries) (map (scaled times) list) (scaled_listed by 0 form.n entries factor_some free.listed)
              (scaled_listed times 0 form.n list times_some over.0.listed)
              (λ j. entry_at-scaled by entries j ∙ alike j ∙ sym (entry_at-scaled times list j))

          -- both begin at one place, so that it is the first entry
          first_is : times ≡ (get_or entries 0 none).value
          first_is =
              ap (entry_at entries) (sym (ap (λ (e : FreeEntry). e.place) (alike_at by times entries list 0 none some over.0.some by_that)))
              ∙ own_value 0 form.n entries 0 none free.listed some

          pub parallel_if_spans : map (scaled by) entries ≡ map (scaled (get_or entries 0 none).value) list
          parallel_if_spans = by_that ∙ ap (λ z. map (scaled z) list) first_is

-- the unit row of the list's own first place is in the span exactly if the list has no other entry
module _ (form : Echelon) (f : IsSmallForm form.n form.rows) (list : Vec FreeEntry Global) (over : IsLeftOver form list.items) where
  abbrev new_row : List ℤ
  new_row = row_of form.n list.items

  abbrev with_new : List (List ℤ)
  with_new = form.rows ++ new_row ∷ []

  abbrev own_unit : List ℤ
  own_unit = unit_row form.n (pivot new_row)

  pub spans_if_one : length list.items ≡ 1 → SpansAfter form (Some list) own_unit
  spans_if_one one =
      unit_in_span form.n with_new new_row over.0.primitive (all-front (InSpan with_new) form.rows new_row (own with_new)).1
      ((lone_new form.n list.items over.0).0 one)

  pub one_if_spans : SpansAfter form (Some list) own_unit → length list.items ≡ 1
  one_if_spans spanned =
      let below = pivot_below form.n new_row over.0.primitive in
      let line = on_line new_row own_unit (alone form.rows new_row own_unit f.echelon (leads_from form.n form.rows f.primitive)
      (unit_zeros form.n (pivot new_row) form.rows (no_pivot_there form f list.items over form.rows over.1)) over.1 spanned) in
      let not_nothing : ((j : ℕ) → number_at own_unit j ≡ pos 0) → ⊥ = λ nothing.
      let one = unit_here form.n (pivot new_row) below in let at = nothing (pivot new_row) in omega (arith, ints, one, at) in
      (lone_new form.n list.items over.0).1 (λ j other.
      zero_product line.by (number_at new_row j)
      (sym (line.is j) ∙ ap (λ z. pos line.multiple *ℤ z) (unit_elsewhere form.n (pivot new_row) j other) ∙ *ℤ-zero (pos line.multiple))
      (by_some form.n new_row own_unit over.0.primitive not_nothing line))

  -- so if no unit row at a pivot is, of those that aren't shared only its own may be
  pub own_at_left : (shared : List ℕ) → NoneAtPivots form (Some list) shared →
      SpansOwnAfter form (Some list) shared ↔ ((length list.items ≡ 1) × (has_row shared (pivot new_row) ≡ false))
  own_at_left shared nothing = (
    λ (i, below, mine, spanned).
        let is = only_at_left form f shared i below mine list over nothing spanned in
        (one_if_spans (subst (λ p. SpansAfter form (Some list) (unit_row form.n p)) (sym is) spanned), ap (has_row shared) is ∙ mine),
    λ (one, mine). (pivot new_row, pivot_below form.n new_row over.0.primitive, mine, spans_if_one one),
  )

  -- and so it is of those that the form's own span doesn't have
  pub new_at_left : (but : List ℕ) → NoneNewAtPivots form (Some list) but →
      SpansNewAfter form (Some list) but ↔ ((length list.items ≡ 1) × (has_row but (pivot new_row) ≡ false))
  new_at_left but nothing = (
    λ (i, below, out, spanned, anew).
        let is = only_new form f list over but nothing i below out spanned anew in
        (one_if_spans (subst (λ p. SpansAfter form (Some list) (unit_row form.n p)) (sym is) spanned), ap (has_row but) is ∙ out),
    λ (one, out). (pivot new_row, pivot_below form.n new_row over.0.primitive, out, spans_if_one one, not_known_there form f list.items over),
  )

-- what lies in the span of the form still does with another row
pub span_with : (rows : List (List ℤ)) (r u : List ℤ) → InSpan rows u → InSpan (rows ++ r ∷ []) u
span_with rows r u span = span_trans (rows ++ r ∷ []) rows u (all-front (InSpan (rows ++ r ∷ [])) rows r (own (rows ++ r ∷ []))).0 span
