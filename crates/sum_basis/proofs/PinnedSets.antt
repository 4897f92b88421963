-- The least row that isn't shared whose unit row lies in the span of the form of some sets with one more.
use Rattle.std.proofs.Common.{◌≡◌, ℕ, ◌<◌, ◌≤◌, ◌^◌, false, ℤ, List, [], ◌∷◌, ◌++◌, map, sym, subst}
use Rattle.std.specs.Prelude.{Option, None, Some, Vec}
use Rattle.std.specs.declared.alloc.Global.{Global}
use Rattle.std.proofs.lemmas.List.{map-append}
use Rattle.audit_types.specs.Form.{set_row, InSpan, IsNarrow, IsReducedForm, Reduced}
use Rattle.audit_types.specs.ListLaws.{all-push, all-front}
use Rattle.audit_types.specs.Rows.{has_row, IsLeast}
use Rattle.sum_basis.specs.Basis.{Echelon, IsLeastOwnUnit, SpansUnit, unit_row}
use Rattle.sum_basis.specs.Elimination.{IsSmallForm}
use Rattle.sum_basis.specs.Growth.{GrowsWide, IsLeft}
use Rattle.sum_basis.specs.RowsWith.{IsPinned, IsLeastOwnUnitWith}
use Rattle.sum_basis.specs.Spans.{own, span_trans_all}
use Rattle.sum_basis.specs.Sparse.{row_of}
use Rattle.sum_basis.specs.declared.form.Left.TheVariants.{Entries}
use Rattle.sum_basis.specs.declared.sparse.FreeEntry.{FreeEntry}
use Rattle.sum_basis.proofs.Exactness.{other_row, same_space}
use Rattle.sum_basis.proofs.FormsAreUnique.{forms_are_unique}
use Rattle.sum_basis.proofs.Joining.{same_form}
use Rattle.sum_basis.proofs.Sizes.{small_form}

-- the form of rows and one more is that of their form's rows and it
with_form : (n : ℕ) (rows old form : List (List ℤ)) (row : List ℤ) → IsReducedForm n rows old → IsReducedForm n (rows ++ row ∷ []) form →
    IsReducedForm n (old ++ row ∷ []) form
with_form n rows old form row r whole =
    let first = all-front (InSpan (rows ++ row ∷ [])) rows row (own (rows ++ row ∷ [])) in
    let second = all-front (InSpan (old ++ row ∷ [])) old row (own (old ++ row ∷ [])) in
    same_space n (rows ++ row ∷ []) (old ++ row ∷ []) form
    (all-push (InSpan (old ++ row ∷ [])) rows row (span_trans_all (old ++ row ∷ []) old rows second.0 r.spans) second.1)
    (all-push (InSpan (rows ++ row ∷ [])) old row (span_trans_all (rows ++ row ∷ []) rows old first.0 r.within) first.1)
    whole

-- the least number of which two facts hold that are one
same_least : (P Q : ℕ → Type 0) → ((k : ℕ) → P k → Q k) → ((k : ℕ) → Q k → P k) → (least : Option ℕ) → IsLeast P least → IsLeast Q least
same_least P Q there back None none = λ k holds. none k (back k holds)
same_least P Q there back (Some k) (here, before) = (there k here, λ j l holds. before j l (back j holds))

module _ (form : Echelon) (fits : form.width ≤ 2 ^ 56) (row : List ℤ) (set shared : List ℕ) (is : row ≡ set_row form.n set) where
  -- the form with the set is that with its row
  of_row : (sets : List (List ℕ)) (grown : List (List ℤ)) → Reduced form.n sets form.rows → Reduced form.n (sets ++ set ∷ []) grown →
      IsReducedForm form.n (form.rows ++ row ∷ []) grown
  of_row sets grown r whole =
      subst (λ v. IsReducedForm form.n (form.rows ++ v ∷ []) grown) (sym is)
      (with_form form.n (map (set_row form.n) sets) form.rows grown (set_row form.n set) r
      (subst (λ l. IsReducedForm form.n l grown) (map-append (set_row form.n) sets (set ∷ [])) whole))

  module _ (new : Echelon) (same : new.n ≡ form.n) (least : Option ℕ) where
    of_pinned : IsLeast (IsPinned form.n new.rows shared) least → IsLeastOwnUnit new shared least
    of_pinned =
        same_least (IsPinned form.n new.rows shared) (λ i. SpansUnit new i × (has_row shared i ≡ false))
        (λ i p. (
          (subst (λ n. i < n) (sym same) p.within, subst (λ n. InSpan new.rows (unit_row n i)) (sym same) p.spanned),
          p.own,
        ))
        (λ i q. record {
          within = subst (λ n. i < n) same q.0.0;
          spanned = subst (λ n. InSpan new.rows (unit_row n i)) same q.0.1;
          own = q.1;
        })
        least

    of_same_rows : form.rows ≡ new.rows → IsLeastOwnUnit form shared least → IsLeastOwnUnit new shared least
    of_same_rows rows =
        same_least (λ i. SpansUnit form i × (has_row shared i ≡ false)) (λ i. SpansUnit new i × (has_row shared i ≡ false))
        (λ i p. (
          (
            subst (λ n. i < n) (sym same) p.0.0,
            subst (λ n. InSpan new.rows (unit_row n i)) (sym same) (subst (λ l. InSpan l (unit_row form.n i)) rows p.0.1),
          ),
          p.1,
        ))
        (λ i q. (
          (
            subst (λ n. i < n) same q.0.0,
            subst (λ l. InSpan l (unit_row form.n i)) (sym rows) (subst (λ n. InSpan new.rows (unit_row n i)) same q.0.1),
          ),
          q.1,
        ))
        least

  -- by the list that is left of the row
  pub with_list : (list : Vec FreeEntry Global) (least : Option ℕ) → IsLeft form row (Entries list) →
      ((grown : List (List ℤ)) → IsReducedForm form.n (form.rows ++ row_of form.n list.items ∷ []) grown → IsSmallForm form.n grown →
      IsLeast (IsPinned form.n grown shared) least) → IsLeastOwnUnitWith form shared set least
  with_list list least left told = λ sets new r same whole narrow.
      let grown = of_row sets new.rows r whole in
      of_pinned new same least (told new.rows (other_row form.n form.rows new.rows row (row_of form.n list.items) left.1.back left.1.there grown)
      (small_form form.width form.n new.rows fits (record { primitive = whole.primitive; echelon = whole.echelon; entries = narrow.entries })))

  -- by the form as it is, if the row lies in the span
  pub with_nothing : (least : Option ℕ) → IsSmallForm form.n form.rows → InSpan form.rows row → IsLeastOwnUnit form shared least →
      IsLeastOwnUnitWith form shared set least
  with_nothing least f span told = λ sets new r same whole narrow.
      of_same_rows new same least
      (forms_are_unique form.n (form.rows ++ row ∷ []) form.rows new.rows (same_form form row f span) (of_row sets new.rows r whole)) told

  -- and no form that isn't narrow is one
  pub with_large : (least : Option ℕ) → GrowsWide form row → IsLeastOwnUnitWith form shared set least
  with_large least wide = λ sets new r same whole narrow.
      absurd (wide.2 (subst (IsNarrow form.width)
      (forms_are_unique form.n (form.rows ++ row ∷ []) new.rows wide.0 (of_row sets new.rows r whole) wide.1) narrow))
