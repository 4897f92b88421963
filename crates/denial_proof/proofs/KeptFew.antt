-- There are fewer kept records than rows if some set lies outside their span.
use Rattle.std.proofs.Common.{◌≡◌, ℕ, ◌+◌, ◌≤◌, ℤ, List, [], ◌∷◌, ◌++◌, map, length, Option, None, Some, ◌∙◌, subst, arith, length-append}
use Rattle.std.specs.List.{AllByRecursion}
use Rattle.std.proofs.lemmas.List.{length-map, append_assoc}
use Rattle.audit_types.specs.declared.records.Answered.{Answered}
use Rattle.audit_types.specs.FilteredRows.{rows_within}
use Rattle.audit_types.specs.Truth.{number_at}
use Rattle.audit_types.specs.Form.{set_row, InSpan}
use Rattle.sum_basis.specs.Spans.{span_trans}
use Rattle.denial_proof.specs.Weights.{rows_at, own_rows}
use Rattle.audit_core.specs.Laws.{sets_before}
use Rattle.denial_proof.specs.Kept.{AreKept, AreIndependent, kept_sets}
use Rattle.denial_proof.proofs.Independence.{independent_push}
use Rattle.denial_proof.proofs.KeptIndependent.{kept_independent, spanned_before, all_kept}
use Rattle.denial_proof.proofs.Dimension.{at_most, as_sum}

-- independent sets over n rows are at most n
pub independent_few : (n : ℕ) (sets : List (List ℕ)) → AreIndependent n sets → length sets ≤ n
independent_few n sets independent =
    let count : length (map number_at (map (set_row n) sets)) ≡ length sets = length-map (map (set_row n) sets) number_at ∙ length-map sets (set_row n) in
    let most = at_most n (map number_at (map (set_row n) sets))
    (λ a nothing k l. independent a (λ j m. as_sum a (map (set_row n) sets) j ∙ nothing j m) k (omega arith)) in
    omega arith

module _ (n column : ℕ) (history : List Answered) (places : List ℕ) (kept : AreKept n column history places) where
  -- what lies in the span of the kept sets lies in that of all of the column
  pub spanned_by_all : (row : List ℤ) → InSpan (map (set_row n) (map (rows_at history) places)) row →
      InSpan (map (set_row n) (sets_before column history (length history))) row
  spanned_by_all row span =
      span_trans (map (set_row n) (sets_before column history (length history))) (map (set_row n) (map (rows_at history) places)) row
      (spanned_before n column history places kept (length history) (omega arith) places
      (rows_within 0 (length history) (length history) places (omega arith) kept.ascending)
      (all_kept n column history places kept)) span

  -- with a set outside of their span they are independent
  pub independent_with : (rows : List ℕ) → ¬ (InSpan (map (set_row n) (sets_before column history (length history))) (set_row n rows)) →
      AreIndependent n (map (rows_at history) places ++ rows ∷ [])
  independent_with rows outside =
      independent_push n (map (rows_at history) places) rows (kept_independent n column history places kept)
      (λ span. outside (spanned_by_all (set_row n rows) span))

  pub kept_few : (rows : List ℕ) → ¬ (InSpan (map (set_row n) (sets_before column history (length history))) (set_row n rows)) → length places + 1 ≤ n
  kept_few rows outside =
      let few = independent_few n (map (rows_at history) places ++ rows ∷ []) (independent_with rows outside) in
      let all = length-append (map (rows_at history) places) (rows ∷ []) in
      let count = length-map places (rows_at history) in
      omega arith

-- with the row of an asker too, if her number doesn't follow from them
pub independent_beside : (n : ℕ) (history : List Answered) (places rows : List ℕ) (own : Option ℕ) →
    AreIndependent n (kept_sets history places rows None) →
    AllByRecursion (λ q. ¬ (InSpan (map (set_row n) (kept_sets history places rows None)) (set_row n (q ∷ [])))) (own_rows own) →
    AreIndependent n (kept_sets history places rows own)
independent_beside n history places rows None independent outside = independent
independent_beside n history places rows (Some q) independent outside =
    subst (AreIndependent n) (append_assoc (map (rows_at history) places) (rows ∷ []) ((q ∷ []) ∷ []))
    (independent_push n (kept_sets history places rows None) (q ∷ []) independent outside.0)
