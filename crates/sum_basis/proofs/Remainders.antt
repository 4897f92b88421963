-- What a form leaves of a row, and what that says of the span.
use Rattle.std.proofs.Common.{◌≡◌, ◌≢◌, ℕ, ◌<◌, ℤ, pos, List, [], ◌∷◌, length, refl, sym, ap, ◌∙◌, arith}
use Rattle.std.specs.Prelude.{◌+ℤ◌, ◌*ℤ◌, neg_ℤ, ◌<ℤ◌}
use Rattle.std.specs.List.{AllByRecursion}
use Rattle.std.proofs.lemmas.Int.{ints}
use Rattle.audit_types.specs.Truth.{number_at}
use Rattle.audit_types.specs.Form.{combined, InSpan, IsPrimitive, IsEchelon, pivot, pivot_entry}
use Rattle.audit_types.specs.PrimitiveLines.{number_at-times, times}
use Rattle.sum_basis.specs.Elimination.{IsRemainder}
use Rattle.audit_types.specs.Products.{neg-times, one-times}
use Rattle.sum_basis.specs.Spans.{spans_from, in_span_from, spans_same, spans_times, spans_add, spans_down, spans_combined, span_zero, own}

module _ (form : List (List ℤ)) (v left : List ℤ) (m : ℕ) (above : 0 < m) (r : IsRemainder form (times (pos m) v) left) where
  -- the row of the set, a multiple of it taken apart
  multiple_is : (j : ℕ) → pos m *ℤ number_at v j ≡ number_at left j +ℤ combined r.coefficients form j
  multiple_is j = sym (number_at-times (pos m) v j) ∙ r.is j

  -- a space with the form has the row if it has what is left
  pub span_from_left : (span : List (List ℤ)) → AllByRecursion (InSpan span) form → InSpan span left → InSpan span v
  span_from_left span h p =
      in_span_from span v (spans_down span m (number_at v) above
      (spans_same span (λ j. number_at left j +ℤ combined r.coefficients form j) (λ j. pos m *ℤ number_at v j) (λ j. sym (multiple_is j))
      (spans_add span (number_at left) (combined r.coefficients form) (spans_from span left p) (spans_combined span r.coefficients form h))))

  -- and what is left if it has the row
  pub span_to_left : (span : List (List ℤ)) → AllByRecursion (InSpan span) form → InSpan span v → InSpan span left
  span_to_left span h p =
      in_span_from span left (spans_same span (λ j. pos m *ℤ number_at v j +ℤ neg_ℤ (pos 1) *ℤ combined r.coefficients form j) (number_at left) difference
      (spans_add span (λ j. pos m *ℤ number_at v j) (λ j. neg_ℤ (pos 1) *ℤ combined r.coefficients form j)
      (spans_times span (pos m) (number_at v) (spans_from span v p))
      (spans_times span (neg_ℤ (pos 1)) (combined r.coefficients form) (spans_combined span r.coefficients form h))))
    where
      difference : (j : ℕ) → pos m *ℤ number_at v j +ℤ neg_ℤ (pos 1) *ℤ combined r.coefficients form j ≡ number_at left j
      difference j =
          let is = multiple_is j in
          let minus = neg-times (pos 1) (combined r.coefficients form j) in
          let once = one-times (combined r.coefficients form j) in
          omega (arith, ints)

  -- if nothing is left the row lies in the span
  pub in_span : ((j : ℕ) → number_at left j ≡ pos 0) → InSpan form v
  in_span none = record {
    multiple = m;
    positive = above;
    coefficients = r.coefficients;
    is = λ j. let is = multiple_is j in let here = none j in omega (arith, ints);
  }

  -- of a row in the span nothing is left
  pub nothing_left : IsEchelon form → AllByRecursion (λ row. pos 0 <ℤ pivot_entry row) form → InSpan form v → (j : ℕ) → number_at left j ≡ pos 0
  nothing_left echelon leading p j = span_zero form (number_at left) echelon leading (spans_from form left (span_to_left form (own form) p)) r.zeros j

-- a row of zeros has its pivot past the end
pub pivot_of_zeros : (row : List ℤ) → AllByRecursion (λ x. x ≡ pos 0) row → pivot row ≡ length row
pivot_of_zeros [] h = refl
pivot_of_zeros (x ∷ row) h = ap (λ y. pivot (y ∷ row)) h.0 ∙ let rest = pivot_of_zeros row h.1 in omega arith

-- the primitive row on the line of a row that is not all zeros
pub record IsLine (n : ℕ) (old made : List ℤ) : Type 0 where
  pub by : ℤ
  pub not_zero : by ≢ pos 0
  pub line : old ≡ times by made
  pub primitive : IsPrimitive n made
