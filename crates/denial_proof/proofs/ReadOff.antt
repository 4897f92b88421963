-- The numbers that a marked form gives for a target are right.
--
-- A multiple of the target's row is a combination of the sets. The same combination of the marked rows has the coefficients at
-- the marks, and lies in the span of the marked form, which tells it by its numbers at the pivots. These stand among the columns, as the
-- sets are independent, and there the combination is the target's row. So what the form gives at the marks are the coefficients, but for a
-- common factor.
use Rattle.std.proofs.Common.{◌≡◌, ℕ, ◌+◌, ◌<◌, ◌≤◌, ℤ, pos, List, [], ◌∷◌, map, length, sym, ap, ◌∙◌, arith, inl, inr, ◌-◌}
use Rattle.std.specs.Prelude.{◌*ℤ◌, ◌<ℤ◌}
use Rattle.std.specs.List.{AllByRecursion}
use Rattle.std.proofs.lemmas.Int.{ints}
use Rattle.std.proofs.lemmas.Bool.{cases_lt}
use Rattle.std.proofs.Math.IntN.{*ℤ-zero, *ℤ_comm}
use Rattle.audit_types.specs.Truth.{number_at}
use Rattle.audit_types.specs.Numbers.{positive_not_zero}
use Rattle.audit_types.specs.Form.{set_row, combined, InSpan, IsPrimitive, IsReducedForm, pivot, pivot_entry}
use Rattle.audit_types.specs.FormRows.{pivot_below, zero_before}
use Rattle.audit_types.specs.ListLaws.{all-weaker}
use Rattle.audit_types.specs.Products.{times_assoc, zero_factor}
use Rattle.audit_types.specs.PrimitiveLines.{cancelled, times, number_at-times}
use Rattle.sum_basis.specs.Spans.{Spans, combined-times, spans_combined}
use Rattle.denial_proof.specs.Kept.{AreIndependent, marked_rows}
use Rattle.denial_proof.specs.Numbers.{AreTaken}
use Rattle.std.proofs.lemmas.List.{length-map}
use Rattle.denial_proof.proofs.MarkedRows.{combined_columns, coefficient_at, nothing_at_mark, same_combination}
use Rattle.denial_proof.proofs.Expansion.{expansion, taken_times}

-- a positive factor makes nothing 0
not_lost : (m : ℕ) (x : ℤ) → 0 < m → pos m *ℤ x ≡ pos 0 → x ≡ pos 0
not_lost m x p e = zero_factor x (pos m) (*ℤ_comm x (pos m) ∙ e) (omega (arith, ints))

module _ (n m : ℕ) (sets : List (List ℕ)) (most : length sets ≤ m) (independent : AreIndependent n sets) (form : List (List ℤ))
    (reduced : IsReducedForm (n + m) (marked_rows n m 0 sets) form) where
  -- a row that is 0 over the columns is 0 at the marks too
  nothing_at_marks : (row : List ℤ) → InSpan (marked_rows n m 0 sets) row → ((j : ℕ) → j < n → number_at row j ≡ pos 0) → (k : ℕ) →
      k < m → number_at row (n + k) ≡ pos 0
  nothing_at_marks row span none k l =
      let zero_columns : (j : ℕ) → j < n → combined span.coefficients (map (set_row n) sets) j ≡ pos 0
      = λ j i. sym (combined_columns n m 0 span.coefficients sets j i) ∙ sym (span.is j) ∙ ap (λ z. pos span.multiple *ℤ z) (none j i)
      ∙ *ℤ-zero (pos span.multiple) in
      not_lost span.multiple (number_at row (n + k)) span.positive
      (span.is (n + k) ∙ elim (cases_lt k (length sets)) [
        | inl of_set ↦ coefficient_at n m span.coefficients sets k of_set most ∙ independent span.coefficients zero_columns k of_set
        | inr past ↦ nothing_at_mark n m span.coefficients sets k (omega arith) l
      ])

  -- so the pivots stand among the columns
  pivot_among_columns : (row : List ℤ) → IsPrimitive (n + m) row → InSpan (marked_rows n m 0 sets) row → pivot row < n
  pivot_among_columns row primitive span = elim (cases_lt (pivot row) n) [
    | inl inside ↦ inside
    | inr outside ↦
        let within = pivot_below (n + m) row primitive in
        let none = nothing_at_marks row span (λ j l. zero_before row j (omega arith)) (pivot row - n) (omega arith) in
        let place : n + (pivot row - n) ≡ pivot row = omega arith in
        absurd (positive_not_zero (pivot_entry row) primitive.leading (sym (ap (number_at row) place) ∙ none))
  ]

  pub pivots_among_columns : (rows : List (List ℤ)) → AllByRecursion (IsPrimitive (n + m)) rows →
      AllByRecursion (InSpan (marked_rows n m 0 sets)) rows → AllByRecursion (λ row. pivot row < n) rows
  pivots_among_columns [] primitive within = tt
  pivots_among_columns (row ∷ rows) primitive within = (pivot_among_columns row primitive.0 within.0, pivots_among_columns rows primitive.1 within.1)

  -- the numbers that are read off for a target that lies in the span of the sets come to the target, `common` times
  pub read_off : (target : List ℤ) (common : ℤ) (taken numbers : List ℤ) → InSpan (map (set_row n) sets) target →
      AreTaken common (number_at target) form taken →
      ((k : ℕ) → k < length sets → number_at numbers k ≡ combined taken form (n + k)) →
      (j : ℕ) → j < n → combined numbers (map (set_row n) sets) j ≡ common *ℤ number_at target j
  read_off target common taken numbers span are read j l =
      let rows = marked_rows n m 0 sets in
      let q = pos span.multiple in
      let a = span.coefficients in
      let whole : (i : ℕ) → i < n → combined a rows i ≡ q *ℤ number_at target i = λ i low. combined_columns n m 0 a sets i low ∙ sym (span.is i) in
      let spanned : Spans form (combined a rows) = spans_combined form a rows reduced.spans in
      let below = pivots_among_columns form reduced.primitive reduced.within in
      let at_pivots : AllByRecursion (λ row. combined a rows (pivot row) ≡ q *ℤ number_at target (pivot row)) form
      = all-weaker (λ row. pivot row < n) (λ row. combined a rows (pivot row) ≡ q *ℤ number_at target (pivot row)) (λ row b. whole (pivot row) b) form below in
      let leading = all-weaker (IsPrimitive (n + m)) (λ row. pos 0 <ℤ pivot_entry row) (λ row p. p.leading) form reduced.primitive in
      let all = expansion common (combined a rows) form (times q taken) reduced.echelon leading spanned
      (taken_times q common (number_at target) (combined a rows) form taken at_pivots are) in
      let same : (k : ℕ) → k < length sets → number_at (times q numbers) k ≡ number_at (times common a) k
      = λ k low. number_at-times q numbers k ∙ ap (λ z. q *ℤ z) (read k low) ∙ sym (combined-times q taken form (n + k)) ∙ sym (all (n + k))
      ∙ ap (λ z. common *ℤ z) (coefficient_at n m a sets k low most)
      ∙ sym (number_at-times common a k) in
      let counted : (k : ℕ) → k < length (map (set_row n) sets) → number_at (times q numbers) k ≡ number_at (times common a) k =
      λ k low. same k (omega (arith, length-map sets (set_row n))) in
      let multiples : q *ℤ combined numbers (map (set_row n) sets) j ≡ q *ℤ (common *ℤ number_at target j)
      = sym (combined-times q numbers (map (set_row n) sets) j) ∙ same_combination (times q numbers) (times common a) (map (set_row n) sets) j counted
      ∙ combined-times common a (map (set_row n) sets) j
      ∙ ap (λ z. common *ℤ z) (sym (span.is j)) ∙ sym (times_assoc common q (number_at target j)) ∙ ap (λ z. z *ℤ number_at target j) (*ℤ_comm common q)
      ∙ times_assoc q common (number_at target j) in
      cancelled q (combined numbers (map (set_row n) sets) j) (common *ℤ number_at target j) (let some = span.positive in omega (arith, ints)) multiples
