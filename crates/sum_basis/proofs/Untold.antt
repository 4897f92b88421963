-- Columns with different keys are tied by nothing: the form with a new row tells nobody who asks.
use Rattle.std.proofs.Common.{◌≡◌, ◌≢◌, ℕ, ◌<◌, ◌≤◌, ℤ, pos, List, [], ◌∷◌, ◌++◌, length, slice_index_or, refl, sym, ap, ◌∙◌, subst, arith, inl, inr}
use Rattle.std.specs.Prelude.{◌+ℤ◌, ◌*ℤ◌, neg_ℤ, Option, None, Some, Vec}
use Rattle.std.specs.declared.alloc.Global.{Global}
use Rattle.std.specs.List.{AllByRecursion}
use Rattle.std.proofs.lemmas.Int.{ints}
use Rattle.std.proofs.lemmas.Bool.{cases_eq, cases_lt}
use Rattle.std.proofs.lemmas.List.{get_or_past}
use Rattle.std.proofs.Math.IntN.{*ℤ_comm, *ℤ-zero}
use Rattle.audit_types.specs.Form.{set_row, InSpan, IsPrimitive}
use Rattle.audit_types.specs.ListLaws.{all-push, all-front}
use Rattle.audit_types.specs.PrimitiveLines.{number_at-times, times}
use Rattle.audit_types.specs.Products.{neg-times, one-times, zero_factor}
use Rattle.audit_types.specs.RowNumbers.{length-set_row}
use Rattle.audit_types.specs.Truth.{number_at}
use Rattle.sum_basis.specs.Asking.{SpansOneBeside, TellsAsker}
use Rattle.sum_basis.specs.Basis.{Echelon, unit_row}
use Rattle.sum_basis.specs.Elimination.{IsSmallForm}
use Rattle.sum_basis.specs.Growth.{GrowsTo}
use Rattle.sum_basis.specs.Holding.{LeavesList}
use Rattle.sum_basis.specs.Keys.{TellSurelyNone}
use Rattle.sum_basis.specs.Points.{items_of, with_new, HasKey, AreKeysApart, AreSetsApart}
use Rattle.sum_basis.specs.Reach.{IsLeftOverOrNone}
use Rattle.sum_basis.specs.Spans.{combined_zero, in_span_from, own, span_trans, span_trans_all, spans_add, spans_from, spans_same, spans_times}
use Rattle.sum_basis.specs.Sparse.{row_of}
use Rattle.sum_basis.specs.Ties.{TieSomeBut}
use Rattle.sum_basis.specs.declared.points.Point.{Point}
use Rattle.sum_basis.specs.declared.sparse.FreeEntry.{FreeEntry}
use Rattle.sum_basis.proofs.LikeRows.{like_rows_have_one_key, spanned_has_none}
use Rattle.sum_basis.proofs.Reduction.{span_line}
use Rattle.sum_basis.proofs.UnitRowsInSpan.{unit_here, unit_elsewhere}

-- rows of n columns are 0 past them
past_all : (n j : ℕ) (rows : List (List ℤ)) → n ≤ j → AllByRecursion (IsPrimitive n) rows → AllByRecursion (λ row. number_at row j ≡ pos 0) rows
past_all n j [] past all = tt
past_all n j (row ∷ rows) past all = (get_or_past row j (pos 0) (let one = all.0.one_each in omega arith), past_all n j rows past all.1)

-- and so is each row of their span
past_zero : (n j : ℕ) (rows : List (List ℤ)) (row : List ℤ) → n ≤ j → AllByRecursion (IsPrimitive n) rows → InSpan rows row → number_at row j ≡ pos 0
past_zero n j rows row past all span = zero_factor (number_at row j) (pos span.multiple)
    (*ℤ_comm (number_at row j) (pos span.multiple) ∙ span.is j ∙ combined_zero span.coefficients rows j (past_all n j rows past all))
    (let some = span.positive in omega (arith, ints))

-- a row that is 0 but at p and q, together with the unit row of q, spans that of p
module _ (n p q : ℕ) (rows : List (List ℤ)) (row : List ℤ) (below : p < n) (some : number_at row p ≢ pos 0) (apart : q ≢ p)
    (only : (j : ℕ) → j ≢ p → j ≢ q → number_at row j ≡ pos 0) (past : n ≤ q → number_at row q ≡ pos 0) (spanned : InSpan rows row)
    (other : InSpan rows (unit_row n q)) where
  less_is : (j : ℕ) → number_at row j +ℤ neg_ℤ (number_at row q) *ℤ number_at (unit_row n q) j ≡ number_at row p *ℤ number_at (unit_row n p) j
  less_is j =
      let minus = neg-times (number_at row q) (number_at (unit_row n q) j) in
      elim (cases_eq j p) [
        | inl at_p ↦
            let one = ap (λ z. number_at row p *ℤ z) (ap (number_at (unit_row n p)) at_p ∙ unit_here n p below)
            ∙ *ℤ_comm (number_at row p) (pos 1) ∙ one-times (number_at row p) in
            let here = ap (number_at row) at_p in
            let none = ap (λ z. number_at row q *ℤ z) (unit_elsewhere n q j (λ at_q. apart (sym at_q ∙ at_p))) ∙ *ℤ-zero (number_at row q) in
            omega (arith, ints)
        | inr not_p ↦
            let zero_there = ap (λ z. number_at row p *ℤ z) (unit_elsewhere n p j not_p) ∙ *ℤ-zero (number_at row p) in
            elim (cases_eq j q) [
              | inl at_q ↦
                  let here = ap (number_at row) at_q in
                  elim (cases_lt q n) [
                    | inl inside ↦
                        let one = ap (λ z. number_at row q *ℤ z) (ap (number_at (unit_row n q)) at_q ∙ unit_here n q inside)
                        ∙ *ℤ_comm (number_at row q) (pos 1) ∙ one-times (number_at row q) in
                        omega (arith, ints)
                    | inr outside ↦
                        let none = past outside in
                        let product = *ℤ_comm (number_at row q) (number_at (unit_row n q) j) ∙ ap (λ z. number_at (unit_row n q) j *ℤ z) none
                        ∙ *ℤ-zero (number_at (unit_row n q) j) in
                        omega (arith, ints)
                  ]
              | inr not_q ↦
                  let gone = only j not_p not_q in
                  let none = ap (λ z. number_at row q *ℤ z) (unit_elsewhere n q j not_q) ∙ *ℤ-zero (number_at row q) in
                  omega (arith, ints)
            ]
      ]

  spans_other : InSpan rows (unit_row n p)
  spans_other = span_line rows (number_at row p) (unit_row n p) some (in_span_from rows (times (number_at row p) (unit_row n p))
      (spans_same rows (λ j. number_at row j +ℤ neg_ℤ (number_at row q) *ℤ number_at (unit_row n q) j) (number_at (times (number_at row p) (unit_row n p)))
      (λ j. less_is j ∙ sym (number_at-times (number_at row p) (unit_row n p) j))
      (spans_add rows (number_at row) (λ j. neg_ℤ (number_at row q) *ℤ number_at (unit_row n q) j) (spans_from rows row spanned)
      (spans_times rows (neg_ℤ (number_at row q)) (number_at (unit_row n q)) (spans_from rows (unit_row n q) other)))))

-- a row of zeros lies in each span
zeros_spanned : (rows : List (List ℤ)) (n q : ℕ) → n ≤ q → InSpan rows (unit_row n q)
zeros_spanned rows n q past = record {
  multiple = 1;
  positive = omega arith;
  coefficients = [];
  is = λ j. one-times (number_at (unit_row n q) j) ∙ elim (cases_lt j n) [
    | inl inside ↦ unit_elsewhere n q j (λ same. omega arith)
    | inr outside ↦ get_or_past (unit_row n q) j (pos 0) (let long = length-set_row n (q ∷ []) in omega arith)
  ];
}

-- the form's rows with a list that isn't empty
pub with_some : (form : Echelon) (new : List FreeEntry) → 0 < length new → with_new form new ≡ form.rows ++ row_of form.n new ∷ []
with_some form [] some = absurd (omega arith)
with_some form (e ∷ new) some = refl

module _ (form : Echelon) (asked : List ℤ) (grown : Echelon) (grows : GrowsTo form asked grown) where
  -- what is left of the row asked, or nothing
  pub left_over : (left : Option (Vec FreeEntry Global)) → LeavesList form asked left → IsLeftOverOrNone form (items_of left)
  left_over None leaves = inl refl
  left_over (Some list) leaves = inr (leaves.0, leaves.1.zeros)

  -- the form with it spans the grown one
  grown_spanned : (left : Option (Vec FreeEntry Global)) → LeavesList form asked left →
      AllByRecursion (InSpan (with_new form (items_of left))) grown.rows
  grown_spanned None leaves =
      span_trans_all form.rows (form.rows ++ asked ∷ []) grown.rows (all-push (InSpan form.rows) form.rows asked (own form.rows) leaves) grows.reduced.within
  grown_spanned (Some list) leaves =
      let rows = form.rows ++ row_of form.n list.items ∷ [] in
      let mine = (all-front (InSpan rows) form.rows (row_of form.n list.items) (own rows)).0 in
      subst (λ l. AllByRecursion (InSpan l) grown.rows) (sym (with_some form list.items leaves.0.some))
      (span_trans_all rows (form.rows ++ asked ∷ []) grown.rows (all-push (InSpan rows) form.rows asked mine leaves.1.back) grows.reduced.within)

  module _ (left : Option (Vec FreeEntry Global)) (leaves : LeavesList form asked left) where
    abbrev new : List FreeEntry
    new = items_of left

    abbrev rows : List (List ℤ)
    rows = with_new form new

    to_new : (row : List ℤ) → InSpan grown.rows row → InSpan rows row
    to_new row span = span_trans rows grown.rows row (grown_spanned left leaves) span

    -- and so it does with one row more
    more_spanned : (other : List ℤ) → AllByRecursion (InSpan (rows ++ other ∷ [])) grown.rows
    more_spanned other = span_trans_all (rows ++ other ∷ []) rows grown.rows
        (all-front (InSpan (rows ++ other ∷ [])) rows other (own (rows ++ other ∷ []))).0 (grown_spanned left leaves)

    last_spanned : (other : List ℤ) → InSpan (rows ++ other ∷ []) other
    last_spanned other = (all-front (InSpan (rows ++ other ∷ [])) rows other (own (rows ++ other ∷ []))).1

    to_more : (other row : List ℤ) → InSpan (grown.rows ++ other ∷ []) row → InSpan (rows ++ other ∷ []) row
    to_more other row span = span_trans (rows ++ other ∷ []) (grown.rows ++ other ∷ []) row
        (all-push (InSpan (rows ++ other ∷ [])) grown.rows other (more_spanned other) (last_spanned other)) span

    module _ (f : IsSmallForm form.n form.rows) (weights : List Point) where
      -- two rows, of which one lies in the span with the other one, a column's unit row, have one key
      like : (q : ℕ) (row : List ℤ) (key another : ℕ) → InSpan (rows ++ unit_row form.n q ∷ []) row → HasKey form weights new row key →
          HasKey form weights new (unit_row form.n q) another → key ≡ another
      like q row key another span first second =
          like_rows_have_one_key form new weights q row first.entries second.entries first.point second.point key another f (left_over left leaves)
          first.residue second.residue span first.point_is second.point_is first.key_is second.key_is

      module _ (beside several keys : List ℕ) (apart : AreKeysApart form weights new beside several keys) where
        abbrev key_at : ℕ → ℕ
        key_at j = slice_index_or keys j 0

        -- no two columns are tied
        untied : TieSomeBut beside several grown.rows → ⊥
        untied (p, q, differ, ties, not_beside, not_several) = elim (cases_lt p form.n) [
          | inl p_below ↦ elim (cases_lt q form.n) [
            | inl q_below ↦
                apart.apart p q p_below q_below (inl (not_beside, not_several)) (λ same. differ (sym same))
                (like q (unit_row form.n p) (key_at p) (key_at q)
                (spans_other form.n p q (rows ++ unit_row form.n q ∷ []) ties.row p_below ties.there differ ties.only (λ past. absurd (omega arith))
                (span_trans (rows ++ unit_row form.n q ∷ []) grown.rows ties.row (more_spanned (unit_row form.n q)) ties.spanned)
                (last_spanned (unit_row form.n q)))
                (apart.each p p_below (inl not_beside)) (apart.each q q_below (inr not_several)))
            | inr past ↦
                spanned_has_none form new weights (unit_row form.n p) (key_at p) f (left_over left leaves)
                (spans_other form.n p q rows ties.row p_below ties.there differ ties.only
                (λ outside. past_zero form.n q grown.rows ties.row outside grows.reduced.primitive ties.spanned) (to_new ties.row ties.spanned)
                (zeros_spanned rows form.n q past))
                (apart.each p p_below (inl not_beside))
          ]
          | inr past ↦ ties.there (past_zero form.n p grown.rows ties.row past grows.reduced.primitive ties.spanned)
        ]

        -- and no set's row lies in the span with a column's
        unspanned : (sets : List (List ℕ)) → AreSetsApart form weights new several keys sets → SpansOneBeside grown several sets → ⊥
        unspanned sets sets_apart (set, among, beside_one) =
            let mine = sets_apart set among in
            let q = beside_one.own in
            let below = subst (λ n. q < n) grows.n beside_one.below in
            let spanned = subst (λ n. InSpan (grown.rows ++ unit_row n q ∷ []) (set_row n set)) grows.n beside_one.spanned in
            mine.apart q below beside_one.single
            (sym (like q (set_row form.n set) mine.key (key_at q) (to_more (unit_row form.n q) (set_row form.n set) spanned) mine.key_is
            (apart.each q below (inr beside_one.single))))

-- the form with a new row tells nobody who asks if columns of which one may tell the other have different keys, and no set has the key of a column
pub untold : (form : Echelon) (asked : List ℤ) (grown : Echelon) (left : Option (Vec FreeEntry Global)) (weights : List Point) (beside several keys : List ℕ)
    (sets : List (List ℕ)) → IsSmallForm form.n form.rows → GrowsTo form asked grown → LeavesList form asked left →
    AreKeysApart form weights (items_of left) beside several keys → AreSetsApart form weights (items_of left) several keys sets →
    ¬ (TellsAsker grown beside several sets)
untold form asked grown left weights beside several keys sets f grows leaves apart sets_apart (inl tied) =
    untied form asked grown grows left leaves f weights beside several keys apart tied
untold form asked grown left weights beside several keys sets f grows leaves apart sets_apart (inr spanned) =
    unspanned form asked grown grows left leaves f weights beside several keys apart sets sets_apart spanned

-- so it is if there are such keys
pub surely_untold : (form : Echelon) (asked : List ℤ) (left : Option (Vec FreeEntry Global)) (weights : List Point) (beside several : List ℕ)
    (sets : List (List ℕ)) → IsSmallForm form.n form.rows → LeavesList form asked left → TellSurelyNone form weights (items_of left) beside several sets →
    (grown : Echelon) → GrowsTo form asked grown → ¬ (TellsAsker grown beside several sets)
surely_untold form asked left weights beside several sets f leaves sure grown grows =
    untold form asked grown left weights beside several sure.keys sets f grows leaves sure.columns_apart sure.sets_apart
