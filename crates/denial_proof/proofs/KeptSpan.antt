-- The kept sets span what all sets of the column do: a set that isn't kept lies in the span of those before it.
use Rattle.std.proofs.Common.{◌≡◌, ℕ, zero, suc, ◌+◌, ◌<◌, ◌≤◌, Bool, true, false, ◌==◌, ℤ, pos, List, [], ◌∷◌, ◌++◌, map, length, take, get_or, Some, refl, sym, ap, ◌∙◌, subst, arith, inl, inr, add-one}
use Rattle.std.specs.Prelude.{slice_get}
use Rattle.std.specs.List.{AllByRecursion}
use Rattle.std.proofs.lemmas.Bool.{cases_eq, or_cases, eqb-true, true≢false}
use Rattle.std.proofs.lemmas.List.{map-append}
use Rattle.std.proofs.lemmas.Option.{slice_get_cases}
use Rattle.audit_types.specs.declared.records.Answered.{Answered}
use Rattle.audit_types.specs.Rows.{has_row, AreRows}
use Rattle.audit_types.specs.Truth.{number_at, sum_over}
use Rattle.audit_types.specs.Column.{Answer}
use Rattle.audit_types.specs.Form.{set_row, InSpan}
use Rattle.audit_types.specs.History.{answers_of, answer_in}
use Rattle.audit_types.specs.ListLaws.{all-push, all-take, all-filter, all-map}
use Rattle.audit_types.specs.Totals.{product-set_row, product-span, products_from_sums}
use Rattle.sum_audit.specs.Laws.{SpannedOrMoved}
use Rattle.sum_basis.specs.Spans.{span_trans}
use Rattle.denial_proof.specs.Certificates.{IsOwnRecord}
use Rattle.denial_proof.specs.Weights.{rows_at}
use Rattle.audit_core.specs.Laws.{sets_before}
use Rattle.denial_proof.specs.Kept.{IsKept, AreKept}
use Rattle.denial_proof.proofs.KeptIndependent.{span_first, span_more, rows_of_record}
use Rattle.audit_core.specs.FrontLaws.{sets_after_own, sets_after_other}

-- a set of these places lies in the span of their sets
member_spanned : (n : ℕ) (history : List Answered) (places : List ℕ) (q : ℕ) → has_row places q ≡ true →
    InSpan (map (set_row n) (map (rows_at history) places)) (set_row n (rows_at history q))
member_spanned n history [] q there = absurd (true≢false (sym there))
member_spanned n history (p ∷ places) q there = elim (or_cases (p == q) (has_row places q) there) [
  | inl here ↦
      subst (λ k. InSpan (map (set_row n) (map (rows_at history) (p ∷ places))) (set_row n (rows_at history k))) (eqb-true p q here)
      (span_first (set_row n (rows_at history p)) (map (set_row n) (map (rows_at history) places)))
  | inr later ↦ span_more (set_row n (rows_at history p)) (set_row n (rows_at history q)) (map (set_row n) (map (rows_at history) places))
      (member_spanned n history places q later)
]

-- the sum of a direction over a set in the span of its sets is 0
pub still_in_span : (n : ℕ) (sets : List (List ℕ)) (rows : List ℕ) (d : List ℤ) → AllByRecursion (AreRows n) sets → AreRows n rows →
    AllByRecursion (λ s. sum_over d s ≡ pos 0) sets →
    InSpan (map (set_row n) sets) (set_row n rows) → sum_over d rows ≡ pos 0
still_in_span n sets rows d are own zeros span =
    sym (product-set_row d n rows own) ∙ product-span (number_at d) n (map (set_row n) sets) (set_row n rows) (products_from_sums n d sets are zeros) span

module _ (decided : SpannedOrMoved) (n column : ℕ) (history : List Answered) (fit : AllByRecursion (λ (r : Answered). AreRows n r.rows.list) history)
    (places : List ℕ) (kept : AreKept n column history places) where
  pub sets_are_rows : (i : ℕ) → AllByRecursion (AreRows n) (sets_before column history i)
  sets_are_rows i =
      all-map (λ (a : Answer). a.rows) (AreRows n) (answers_of column (take i history))
      (all-map answer_in (λ a. AreRows n a.rows) _
      (all-filter (λ (r : Answered). AreRows n r.rows.list) (λ r. r.column == column) (take i history)
      (all-take (λ (r : Answered). AreRows n r.rows.list) i history fit)))

  -- the set of a record of the column, if all sets before it lie in the span
  own_spanned : (i : ℕ) (r : Answered) → IsOwnRecord history column i r → AreRows n r.rows.list →
      AllByRecursion (InSpan (map (set_row n) (map (rows_at history) places))) (map (set_row n) (sets_before column history i)) →
      (b : Bool) → has_row places i ≡ b → InSpan (map (set_row n) (map (rows_at history) places)) (set_row n r.rows.list)
  own_spanned i r own are before true there =
      subst (λ rows. InSpan (map (set_row n) (map (rows_at history) places)) (set_row n rows)) (rows_of_record history column i r own)
      (member_spanned n history places i there)
  own_spanned i r own are before false absent = elim (decided n (sets_before column history i) r.rows.list (sets_are_rows i) are) [
    | inl span ↦ span_trans (map (set_row n) (map (rows_at history) places)) (map (set_row n) (sets_before column history i))
        (set_row n r.rows.list) before span
    | inr (d, direction, moved) ↦
        let new : IsKept n column history i = record {
          r = r;
          own = own;
          new = λ span. moved
              (still_in_span n (sets_before column history i) r.rows.list d (sets_are_rows i) are direction.zero_sums span);
        } in
        absurd (true≢false (sym ((kept.each i).1 new) ∙ absent))
  ]

  next_spanned : (i : ℕ) (r : Answered) → slice_get history i ≡ Some r → i < length history → get_or history i r ≡ r → AreRows n r.rows.list →
      AllByRecursion (InSpan (map (set_row n) (map (rows_at history) places))) (map (set_row n) (sets_before column history i)) →
      AllByRecursion (InSpan (map (set_row n) (map (rows_at history) places))) (map (set_row n) (sets_before column history (i + 1)))
  next_spanned i r there within is are before = elim (cases_eq r.column column) [
    | inl own ↦
        let Spanned : List (List ℤ) → Type 0 = AllByRecursion (InSpan (map (set_row n) (map (rows_at history) places))) in
        let whole : map (set_row n) (sets_before column history (i + 1)) ≡ map (set_row n) (sets_before column history i) ++ set_row n r.rows.list ∷ []
        = ap (map (set_row n)) (sets_after_own column history i r within is own) ∙ map-append (set_row n) (sets_before column history i) (r.rows.list ∷ []) in
        subst Spanned (sym whole)
        (all-push (InSpan (map (set_row n) (map (rows_at history) places))) (map (set_row n) (sets_before column history i)) (set_row n r.rows.list) before
        (own_spanned i r (record { there = there; own = own }) are before (has_row places i) refl))
    | inr other ↦
        subst (λ (sets : List (List ℕ)). AllByRecursion (InSpan (map (set_row n) (map (rows_at history) places))) (map (set_row n) sets))
        (sym (sets_after_other column history i r within is other)) before
  ]

  pub all_in_span : ((i : ℕ) (r : Answered) → slice_get history i ≡ Some r → AreRows n r.rows.list) → (i : ℕ) → i ≤ length history →
      AllByRecursion (InSpan (map (set_row n) (map (rows_at history) places))) (map (set_row n) (sets_before column history i))
  all_in_span each zero within = tt
  all_in_span each (suc i) within = elim (slice_get_cases history i).1 [
    | inl (r, below, there, is) ↦
        subst (λ k. AllByRecursion (InSpan (map (set_row n) (map (rows_at history) places))) (map (set_row n) (sets_before column history k))) (add-one i)
        (next_spanned i r there below is (each i r there) (all_in_span each i (omega arith)))
    | inr (past, none) ↦ absurd (omega arith)
  ]
