-- The first row of a form with no other entry at whose pivot stands a row that isn't shared has the least such unit row of the span.
use Rattle.std.proofs.Common.{◌≡◌, ℕ, zero, suc, ◌<◌, ◌≤◌, false, ℤ, pos, List, [], ◌∷◌, length, get_or, sym, ap, ◌∙◌, arith, subst, inl, inr}
use Rattle.std.proofs.lemmas.List.Elements.{All-from_recursion}
use Rattle.audit_types.specs.Truth.{number_at}
use Rattle.audit_types.specs.Form.{InSpan, IsPrimitive, IsEchelon, pivot}
use Rattle.audit_types.specs.FormRows.{pivot_below}
use Rattle.audit_types.specs.Rows.{has_row}
use Rattle.std.proofs.lemmas.Bool.{cases_eq, cases_lt}
use Rattle.sum_basis.specs.Basis.{Echelon, SpansUnit, unit_row, IsFreeList}
use Rattle.sum_basis.specs.Elimination.{IsLone, IsSmallForm}
use Rattle.sum_basis.specs.declared.sparse.FreeEntry.{FreeEntry}
use Rattle.sum_basis.specs.Spans.{own}
use Rattle.sum_basis.proofs.FormsAreUnique.{stands_before, zero_at_others}
use Rattle.sum_basis.proofs.KeptForms.{row_among}
use Rattle.sum_basis.proofs.OwnRows.{pivot_or_none, not_in_form}
use Rattle.sum_basis.proofs.UnitRowsInSpan.{unit_in_span}

-- the pivots ascend
pub pivots_ascend : (form : List (List ℤ)) (i k : ℕ) → IsEchelon form → i < k → k < length form → pivot (get_or form i []) < pivot (get_or form k [])
pivots_ascend [] i k echelon less within = absurd (omega arith)
pivots_ascend (r ∷ form) i zero echelon less within = absurd (omega arith)
pivots_ascend (r ∷ form) zero (suc k) echelon less within = (stands_before r form (get_or form k []) echelon.0 (row_among form k (omega arith))).0
pivots_ascend (r ∷ form) (suc i) (suc k) echelon less within = pivots_ascend form i k echelon.1 (omega arith) (omega arith)

module _ (form : Echelon) (f : IsSmallForm form.n form.rows) where
  -- a row with nothing at no pivot is lone
  nothing_free : (k : ℕ) (entries : List FreeEntry) → k < length form.rows → IsFreeList form.n form.rows (get_or form.rows k []) entries →
      length entries ≡ 0 → IsLone (get_or form.rows k [])
  nothing_free k (e ∷ entries) within free none j other = absurd (omega arith)
  nothing_free k [] within free none j other = elim (pivot_or_none form.rows j) [
    | inl found ↦
        let zero_there = zero_at_others form.rows (get_or form.rows k []) (get_or form.rows found.0 []) f.echelon (row_among form.rows k within)
        (row_among form.rows found.0 found.1) (λ same. other (sym found.2 ∙ sym same)) in
        subst (λ (p : ℕ). number_at (get_or form.rows k []) p ≡ pos 0) found.2 zero_there
    | inr apart ↦ sym (free.is j apart)
  ]

  -- so its pivot's unit row lies in the span
  pub spans_pivot : (k : ℕ) (entries : List FreeEntry) → k < length form.rows → IsFreeList form.n form.rows (get_or form.rows k []) entries →
      length entries ≡ 0 → SpansUnit form (pivot (get_or form.rows k []))
  spans_pivot k entries within free none =
      let row = get_or form.rows k [] in
      let primitive = All-from_recursion (IsPrimitive form.n) form.rows f.primitive k [] within in (
        pivot_below form.n row primitive,
        unit_in_span form.n form.rows row primitive (All-from_recursion (InSpan form.rows) form.rows (own form.rows) k [] within)
            (nothing_free k entries within free none),
      )

  module _ (shared : List ℕ) where
    -- the unit row at none of the first k pivots that isn't shared lies in the span
    abbrev pub NoneBefore : ℕ → Type 0
    NoneBefore k = (j : ℕ) → j < k → has_row shared (pivot (get_or form.rows j [])) ≡ false → ¬
        (InSpan form.rows (unit_row form.n (pivot (get_or form.rows j []))))

    -- then none below the next pivot does
    pub none_below : (k i : ℕ) → k < length form.rows → NoneBefore k → i < pivot (get_or form.rows k []) → SpansUnit form i → has_row shared i ≡ false → ⊥
    none_below k i within none less spans mine = elim (pivot_or_none form.rows i) [
      | inl found ↦
          let sooner : found.0 < k = by_order found.0 found.1 found.2 in
          none found.0 sooner (ap (has_row shared) found.2 ∙ mine)
          (subst (λ (p : ℕ). InSpan form.rows (unit_row form.n p)) (sym found.2) spans.1)
      | inr apart ↦ not_in_form form.n i form.rows f spans.0 apart spans.1
    ]
      where
        by_order : (j : ℕ) → j < length form.rows → pivot (get_or form.rows j []) ≡ i → j < k
        by_order j inside is = elim (cases_lt j k) [
          | inl sooner ↦ sooner
          | inr later ↦ elim (cases_eq j k) [
            | inl same ↦ let at = ap (λ (x : ℕ). pivot (get_or form.rows x [])) same in absurd (omega arith)
            | inr other ↦ let order = pivots_ascend form.rows k j f.echelon (omega arith) inside in absurd (omega arith)
          ]
        ]

    -- and after the last, none at all
    pub none_at_all : (k i : ℕ) → length form.rows ≤ k → NoneBefore k → SpansUnit form i → has_row shared i ≡ false → ⊥
    none_at_all k i past none spans mine = elim (pivot_or_none form.rows i) [
      | inl found ↦
          none found.0 (let inside = found.1 in omega arith) (ap (has_row shared) found.2 ∙ mine)
          (subst (λ (p : ℕ). InSpan form.rows (unit_row form.n p)) (sym found.2) spans.1)
      | inr apart ↦ not_in_form form.n i form.rows f spans.0 apart spans.1
    ]
