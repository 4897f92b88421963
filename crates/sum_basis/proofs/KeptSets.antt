-- What a form leaves of the row of a set tells whether the row lies in its span with what it left of another: the two lists are one.
use Rattle.std.proofs.Common.{◌≡◌, ◌≢◌, ℕ, ◌+◌, ◌<◌, ◌≤◌, ℤ, pos, List, [], ◌∷◌, ◌++◌, length, map, take, get_or, refl, sym, ap, ◌∙◌, subst, arith}
use Rattle.std.specs.Prelude.{◌↔◌, ◌*ℤ◌, Some, Vec}
use Rattle.std.specs.declared.alloc.Global.{Global}
use Rattle.std.specs.List.{AllByRecursion}
use Rattle.std.proofs.lemmas.Int.{ints}
use Rattle.std.proofs.Math.IntN.{zero-*ℤ}
use Rattle.std.proofs.lemmas.List.{take_more, take_all}
use Rattle.audit_types.specs.Truth.{number_at}
use Rattle.audit_types.specs.Form.{InSpan, pivot, pivot_entry}
use Rattle.audit_types.specs.Rows.{Rows}
use Rattle.audit_types.specs.ListLaws.{all-push, all-front}
use Rattle.audit_types.specs.Numbers.{positive_not_zero}
use Rattle.audit_types.specs.Products.{zero_product}
use Rattle.sum_basis.specs.Spans.{span_trans, own}
use Rattle.sum_basis.specs.Basis.{Echelon}
use Rattle.sum_basis.specs.Elimination.{IsSmallForm}
use Rattle.sum_basis.specs.Growth.{IsLeft, IsLeftOver, SpansAfter}
use Rattle.sum_basis.specs.Sparse.{row_of}
use Rattle.sum_basis.specs.declared.form.Left.TheVariants.{Entries}
use Rattle.sum_basis.specs.declared.keeping.KeptSet.{KeptSet}
use Rattle.sum_basis.specs.declared.sparse.FreeEntry.{FreeEntry}
use Rattle.sum_basis.proofs.FormsAreUnique.{leads_from}
use Rattle.sum_basis.proofs.Parallels.{same_listed}
use Rattle.sum_basis.proofs.SparseRows.{number_at-row_of}
use Rattle.sum_basis.proofs.SpansWithOneMore.{IsOnLine, alone, on_line, one_of_line}

module _ (form : Echelon) (f : IsSmallForm form.n form.rows) (u : List ℤ) (list other : Vec FreeEntry Global) (left : IsLeft form u (Entries list))
    (over : IsLeftOver form other.items) where
  abbrev l : List ℤ
  l = row_of form.n list.items

  abbrev r : List ℤ
  r = row_of form.n other.items

  with_r : AllByRecursion (InSpan (form.rows ++ r ∷ [])) form.rows
  with_r = (all-front (InSpan (form.rows ++ r ∷ [])) form.rows r (own (form.rows ++ r ∷ []))).0

  -- what is left of the row lies in the span of the other alone
  line : InSpan (form.rows ++ r ∷ []) u → IsOnLine r l
  line span = on_line r l (alone form.rows r l f.echelon (leads_from form.n form.rows f.primitive) left.1.zeros over.1
      (span_trans (form.rows ++ r ∷ []) (form.rows ++ u ∷ []) l (all-push (InSpan (form.rows ++ r ∷ [])) form.rows u with_r span) left.1.there))

  -- so both are one
  one_row : IsOnLine r l → l ≡ r
  one_row on =
      let above : pos on.multiple ≢ pos 0 = λ e. let m = on.positive in omega (arith, ints, e) in
      let some : on.by ≢ pos 0 = λ e. positive_not_zero (pivot_entry l) left.0.primitive.leading
      (zero_product (pos on.multiple) (pivot_entry l) (on.is (pivot l) ∙ ap (λ z. z *ℤ number_at r (pivot l)) e ∙ zero-*ℤ (number_at r (pivot l))) above) in
      one_of_line form.n (pos on.multiple) on.by l r above some left.0.primitive over.0.primitive on.is

  pub same_where_spanned : (list.items ≡ other.items) ↔ SpansAfter form (Some other) u
  same_where_spanned = (
    (λ same. subst (λ (es : List FreeEntry). InSpan (form.rows ++ row_of form.n es ∷ []) u) same left.1.back),
    (λ span.
        let rows = one_row (line span) in
        same_listed 0 form.n list.items other.items left.0.listed over.0.listed (λ j.
        sym (number_at-row_of 0 form.n list.items left.0.listed j) ∙ ap (λ row. number_at row j) rows ∙ number_at-row_of 0 form.n other.items over.0.listed j)),
  )

-- ---- lists that are the same up to a place

-- one place more
pub same_more : {X : Type 0} (xs ys : List X) (k : ℕ) (x y : X) → k < length xs → k < length ys → x ≡ get_or xs k x → y ≡ get_or ys k y → x ≡ y →
    take k xs ≡ take k ys → take (k + 1) xs ≡ take (k + 1) ys
same_more xs ys k x y inside there is at same front =
    take_more xs k x inside ∙ ap (λ l. l ++ get_or xs k x ∷ []) front ∙ ap (λ z. take k ys ++ z ∷ []) (sym is ∙ same ∙ at) ∙ sym (take_more ys k y there)

-- all places
pub same_all : {X : Type 0} (xs ys : List X) (k : ℕ) → length xs ≡ length ys → length ys ≤ k → take k xs ≡ take k ys → xs ≡ ys
same_all xs ys k long end front = sym (take_all k xs (omega (arith, long, end))) ∙ front ∙ take_all k ys end

-- the lists of the kept sets are those of the sets
pub lists_of_kept : (kept : List KeptSet) (sets : List Rows) → map (λ (k : KeptSet). k.rows) kept ≡ sets →
    map (λ (k : KeptSet). k.rows.list) kept ≡ map (λ (s : Rows). s.list) sets
lists_of_kept kept sets are = both kept ∙ ap (map (λ (s : Rows). s.list)) are
  where
    both : (ks : List KeptSet) → map (λ (k : KeptSet). k.rows.list) ks ≡ map (λ (s : Rows). s.list) (map (λ (k : KeptSet). k.rows) ks)
    both [] = refl
    both (k ∷ ks) = ap (λ l. k.rows.list ∷ l) (both ks)
