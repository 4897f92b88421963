-- What a form leaves of a row, it leaves of it still when a row has joined it at whose pivot that is 0.
use Rattle.std.proofs.Common.{◌≡◌, ℕ, ℤ, pos, List, [], ◌∷◌, ◌++◌, sym, ◌∙◌, subst}
use Rattle.std.specs.Prelude.{Option, None, Some, Result, Ok, Err, Vec, IfSome, OnOk, OnErr}
use Rattle.std.specs.declared.alloc.Global.{Global}
use Rattle.std.specs.List.{AllByRecursion}
use Rattle.audit_types.specs.Truth.{number_at}
use Rattle.audit_types.specs.Form.{set_row, InSpan, IsPrimitive, IsReducedForm, pivot, pivot_entry}
use Rattle.audit_types.specs.ListLaws.{all-push, all-front}
use Rattle.audit_types.specs.Numbers.{positive_not_zero}
use Rattle.sum_basis.specs.Spans.{span_trans, span_trans_all, span_zero, spans_from, own}
use Rattle.sum_basis.specs.Basis.{Echelon}
use Rattle.sum_basis.specs.Elimination.{IsSmallForm, IsZeroAtPivots}
use Rattle.sum_basis.specs.Growth.{IsLeft, IsNewRow}
use Rattle.sum_basis.specs.Holding.{IsKeptOf, IsKeptWithout}
use Rattle.sum_basis.specs.Sparse.{entry_at, row_of, IsNew}
use Rattle.sum_basis.specs.declared.form.Left.TheVariants.{Entries}
use Rattle.sum_basis.specs.declared.keeping.KeptSet.{KeptSet}
use Rattle.sum_basis.specs.declared.sparse.FreeEntry.{FreeEntry}
use Rattle.sum_basis.proofs.Clearing.{cleared_all, zeros_stay}
use Rattle.sum_basis.proofs.FormsAreUnique.{leads_from, forms_are_unique}
use Rattle.sum_basis.proofs.Growing.{placed_is_reduced}
use Rattle.sum_basis.proofs.Placing.{placed, all_placed}
use Rattle.sum_basis.proofs.SparseRows.{number_at-row_of}

module _ (old new : Echelon) (r : List ℤ) (same_n : new.n ≡ old.n) (form : IsSmallForm old.n old.rows) (primitive : IsPrimitive old.n r)
    (zero : IsZeroAtPivots old.rows r) (reduced : IsReducedForm old.n (old.rows ++ r ∷ []) new.rows) where
  -- the pivots of the new form are the old ones and that of the row
  still_zeros : (l : List ℤ) → IsZeroAtPivots old.rows l → number_at l (pivot r) ≡ pos 0 → IsZeroAtPivots new.rows l
  still_zeros l zeros here =
      let cleared = cleared_all old.n r old.rows primitive form.primitive zero in
      let same = forms_are_unique old.n (old.rows ++ r ∷ []) (placed r cleared.0) new.rows
      (placed_is_reduced old.n old.rows cleared.0 r form.primitive form.echelon primitive zero cleared.1) reduced in
      subst (λ rows. IsZeroAtPivots rows l) same
      (all_placed (λ other. number_at l (pivot other) ≡ pos 0) r cleared.0 here (zeros_stay (number_at l) old.n r old.rows cleared.0 cleared.1 zeros))

  old_rows : AllByRecursion (InSpan new.rows) old.rows
  old_rows = (all-front (InSpan new.rows) old.rows r reduced.spans).0

  -- with one row more, the new span has what the old one has with it
  with_row : (u : List ℤ) → AllByRecursion (InSpan (new.rows ++ u ∷ [])) (old.rows ++ u ∷ [])
  with_row u =
      let parts = all-front (InSpan (new.rows ++ u ∷ [])) new.rows u (own (new.rows ++ u ∷ [])) in
      all-push (InSpan (new.rows ++ u ∷ [])) old.rows u (span_trans_all (new.rows ++ u ∷ []) new.rows old.rows parts.0 old_rows) parts.1

  -- a row of the new span that is 0 at its pivots is 0
  still_outside : (u l : List ℤ) → IsNewRow old u l → IsZeroAtPivots new.rows l → ¬ (InSpan new.rows u)
  still_outside u l row zeros span =
      let inside = span_trans new.rows (old.rows ++ u ∷ []) l (all-push (InSpan new.rows) old.rows u old_rows span) row.there in
      positive_not_zero (pivot_entry l) row.primitive.leading
      (span_zero new.rows (number_at l) reduced.echelon (leads_from old.n new.rows reduced.primitive) (spans_from new.rows l inside) zeros (pivot l))

  still_new : (u l : List ℤ) → IsNewRow old u l → number_at l (pivot r) ≡ pos 0 → IsNewRow new u l
  still_new u l row here =
      let zeros = still_zeros l row.zeros here in
      record {
        primitive = subst (λ n. IsPrimitive n l) (sym same_n) row.primitive;
        zeros = zeros;
        outside = still_outside u l row zeros;
        there = span_trans (new.rows ++ u ∷ []) (old.rows ++ u ∷ []) l (with_row u) row.there;
        back = span_trans (new.rows ++ l ∷ []) (old.rows ++ l ∷ []) u (with_row l) row.back;
      }

  still_left : (u : List ℤ) (list : Vec FreeEntry Global) → IsLeft old u (Entries list) → entry_at list.items (pivot r) ≡ pos 0 → IsLeft new u (Entries list)
  still_left u list is none = (
    subst (λ n. IsNew n list.items) (sym same_n) is.0,
    subst (λ n. IsNewRow new u (row_of n list.items)) (sym same_n)
        (still_new u (row_of old.n list.items) is.1 (number_at-row_of 0 old.n list.items is.0.listed (pivot r) ∙ none)),
    rw same_n is.2,
  )

  still_some : (set : List ℕ) (list : Option (Vec FreeEntry Global)) → IfSome list (λ l. IsLeft old (set_row old.n set) (Entries l)) →
      IfSome list (λ l. entry_at l.items (pivot r) ≡ pos 0) → IfSome list (λ l. IsLeft new (set_row new.n set) (Entries l))
  still_some set None is none = tt
  still_some set (Some list) is none = subst (λ n. IsLeft new (set_row n set) (Entries list)) (sym same_n) (still_left (set_row old.n set) list is none)

  -- so are the lists that are kept with sets
  still_kept : (kept : List KeptSet) → AllByRecursion (IsKeptOf old) kept → AllByRecursion (IsKeptWithout (pivot r)) kept → AllByRecursion (IsKeptOf new) kept
  still_kept [] is none = tt
  still_kept (k ∷ kept) is none = ((is.0.0 ∙ sym same_n, still_some k.rows.list k.list is.0.1 none.0), still_kept kept is.1 none.1)

-- and the same where the form stays, as memory ran out
pub kept_after : {X E : Type 0} (result : Result X E) (old new : Echelon) (r : List ℤ) (place : ℕ) (kept : List KeptSet) → new.n ≡ old.n →
    IsSmallForm old.n old.rows → IsPrimitive old.n r → IsZeroAtPivots old.rows r → pivot r ≡ place →
    OnOk result (IsReducedForm old.n (old.rows ++ r ∷ []) new.rows) → OnErr result (new ≡ old) →
    AllByRecursion (IsKeptOf old) kept → AllByRecursion (IsKeptWithout place) kept → AllByRecursion (IsKeptOf new) kept
kept_after (Ok x) old new r place kept same_n form primitive zero at reduced err is without =
    still_kept old new r same_n form primitive zero reduced kept is (subst (λ p. AllByRecursion (IsKeptWithout p) kept) (sym at) without)
kept_after (Err e) old new r place kept same_n form primitive zero at reduced err is without = subst (λ f. AllByRecursion (IsKeptOf f) kept) (sym err) is
