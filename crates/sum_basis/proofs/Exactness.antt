-- One form of one space, whatever rows it is the space of: what the answers of `extend` say of the sets.
use Rattle.std.proofs.Common.{◌≡◌, ◌↔◌, ℕ, ℤ, List, [], ◌∷◌, ◌++◌, map, refl, sym, ap, ◌∙◌, subst}
use Rattle.std.specs.Prelude.{Result, IfOk}
use Rattle.std.specs.List.{AllByRecursion}
use Rattle.std.proofs.lemmas.Result.{IfOk-weaker}
use Rattle.std.proofs.lemmas.List.{map-append}
use Rattle.audit_types.specs.Form.{set_row, InSpan, IsReducedForm, IsNarrow, Reduced}
use Rattle.audit_types.specs.ListLaws.{all-push, all-front}
use Rattle.sum_basis.specs.Basis.{Echelon}
use Rattle.sum_basis.specs.Elimination.{IsSmallForm}
use Rattle.sum_basis.specs.Growth.{Grows, GrowsFor, GrowsForRows, GrowsWide, StaysNarrow}
use Rattle.sum_basis.specs.declared.Grown.{Grown}
use Rattle.sum_basis.specs.declared.Grown.TheVariants.{Same, Added, Wide}
use Rattle.sum_basis.specs.Spans.{span_trans, span_trans_all, own}
use Rattle.sum_basis.proofs.FormsAreUnique.{forms_are_unique}
use Rattle.sum_basis.proofs.NarrowOrWide.{narrow_or_wide}
use Rattle.sum_basis.proofs.SpanKeepsForm.{span_keeps_form}

-- rows of one space have one reduced form
pub same_space : (n : ℕ) (rows others form : List (List ℤ)) → AllByRecursion (InSpan others) rows → AllByRecursion (InSpan rows) others →
    IsReducedForm n rows form → IsReducedForm n others form
same_space n rows others form h k r = record {
  primitive = r.primitive;
  echelon = r.echelon;
  within = span_trans_all others rows form h r.within;
  spans = span_trans_all form rows others r.spans k;
}

-- one row put in the place of another
pub other_row : (n : ℕ) (rows form : List (List ℤ)) (row other : List ℤ) → InSpan (rows ++ other ∷ []) row → InSpan (rows ++ row ∷ []) other →
    IsReducedForm n (rows ++ row ∷ []) form → IsReducedForm n (rows ++ other ∷ []) form
other_row n rows form row other h k =
    let first = all-front (InSpan (rows ++ other ∷ [])) rows other (own (rows ++ other ∷ [])) in
    let second = all-front (InSpan (rows ++ row ∷ [])) rows row (own (rows ++ row ∷ [])) in
    same_space n (rows ++ row ∷ []) (rows ++ other ∷ []) form (all-push (InSpan (rows ++ other ∷ [])) rows row first.0 h)
    (all-push (InSpan (rows ++ row ∷ [])) rows other second.0 k)

-- the rows of which the old ones are the form, put in their place
pub of_rows : (n : ℕ) (rows old form : List (List ℤ)) (row : List ℤ) → IsReducedForm n rows old → IsReducedForm n (old ++ row ∷ []) form →
    IsReducedForm n (rows ++ row ∷ []) form
of_rows n rows old form row r =
    let first = all-front (InSpan (rows ++ row ∷ [])) rows row (own (rows ++ row ∷ [])) in
    let second = all-front (InSpan (old ++ row ∷ [])) old row (own (old ++ row ∷ [])) in
    same_space n (old ++ row ∷ []) (rows ++ row ∷ []) form
    (all-push (InSpan (rows ++ row ∷ [])) old row (span_trans_all (rows ++ row ∷ []) rows old first.0 r.within) first.1)
    (all-push (InSpan (old ++ row ∷ [])) rows row (span_trans_all (old ++ row ∷ []) old rows second.0 r.spans) second.1)

-- the row of one set more, among the rows of the sets
pub more_sets : (n : ℕ) (sets : List (List ℕ)) (rows : List ℕ) (form : List (List ℤ)) → IsReducedForm n (map (set_row n) sets ++ set_row n rows ∷ []) form →
    Reduced n (sets ++ rows ∷ []) form
more_sets n sets rows form r = subst (λ l. IsReducedForm n l form) (sym (map-append (set_row n) sets (rows ∷ []))) r

-- the form stands for each list of sets that it stood for, with this set
pub stands_for : (old new : Echelon) (rows : List ℕ) (grown : Grown) → Grows old (set_row old.n rows) grown new → (sets : List (List ℕ)) →
    Reduced old.n sets old.rows → GrowsFor sets rows old grown new
stands_for old new rows Same g sets r =
    subst (λ (e : Echelon). Reduced e.n (sets ++ rows ∷ []) e.rows) (sym g.1)
    (more_sets old.n sets rows old.rows (span_keeps_form old.n (map (set_row old.n) sets) old.rows (set_row old.n rows) r
    (span_trans (map (set_row old.n) sets) old.rows (set_row old.n rows) r.within g.0)))
stands_for old new rows Added g sets r =
    subst (λ n. Reduced n (sets ++ rows ∷ []) new.rows) (sym g.1.n)
    (more_sets old.n sets rows new.rows (of_rows old.n (map (set_row old.n) sets) old.rows new.rows (set_row old.n rows) r g.1.reduced))
stands_for old new rows Wide g sets r = record {
  form = g.2.0;
  reduced = more_sets old.n sets rows g.2.0 (of_rows old.n (map (set_row old.n) sets) old.rows g.2.0 (set_row old.n rows) r g.2.1);
  wide = g.2.2;
}

-- a form is its own form
of_itself : (n : ℕ) (form : List (List ℤ)) → IsSmallForm n form → IsReducedForm n form form
of_itself n form f = record { primitive = f.primitive; echelon = f.echelon; within = own form; spans = own form }

-- a row in the span doesn't make a narrow form wide
pub never_wide : (old : Echelon) (row : List ℤ) → IsSmallForm old.n old.rows → IsNarrow old.width old.rows → InSpan old.rows row → ¬ (GrowsWide old row)
never_wide old row f narrow p w =
    let kept = span_keeps_form old.n old.rows old.rows row (of_itself old.n old.rows f) p in
    w.2 (subst (IsNarrow old.width) (forms_are_unique old.n (old.rows ++ row ∷ []) old.rows w.0 kept w.1) narrow)

-- Same comes exactly if the row lies in the span
pub same_exactly : (old new : Echelon) (row : List ℤ) (grown : Grown) → Grows old row grown new → (grown ≡ Same) ↔ InSpan old.rows row
same_exactly old new row Same g = (λ e. g.0, λ p. refl)
same_exactly old new row Added g = (λ e. absurd cc, λ p. absurd (g.0 p))
same_exactly old new row Wide g = (λ e. absurd cc, λ p. absurd (g.0 p))

-- Wide comes exactly if the form with the row isn't narrow
pub wide_exactly : (old new : Echelon) (row : List ℤ) (grown : Grown) → IsSmallForm old.n old.rows → IsNarrow old.width old.rows → Grows old row grown new →
    (grown ≡ Wide) ↔ GrowsWide old row
wide_exactly old new row Same f narrow g = (λ e. absurd cc, λ w. absurd (never_wide old row f narrow g.0 w))
wide_exactly old new row Added f narrow g =
    (λ e. absurd cc, λ w. absurd (w.2 (subst (IsNarrow old.width) (forms_are_unique old.n (old.rows ++ row ∷ []) new.rows w.0 g.1.reduced w.1) g.1.narrow)))
wide_exactly old new row Wide f narrow g = (λ e. g.2, λ w. refl)

-- what a row does to a form, of the form as it is seen and the row of a set
pub grows_at : (inside seen : Echelon) (row : List ℤ) (m : ℕ) (list : List ℕ) (grown : Grown) (new : Echelon) → inside ≡ seen → row ≡ set_row m list →
    m ≡ seen.n → Grows inside row grown new → Grows seen (set_row seen.n list) grown new
grows_at inside seen row m list grown new e f same g =
    subst (λ (s : Echelon). Grows s (set_row seen.n list) grown new) e (subst (λ (r : List ℤ). Grows inside r grown new) (f ∙ ap (λ k. set_row k list) same) g)

-- what is told of a row, said of a result that may be an error
module _ {E : Type 0} (r : Result Grown E) (old new : Echelon) (row : List ℤ) (grows : IfOk r (λ grown. Grows old row grown new)) where
  pub same_told : IfOk r (λ grown. (grown ≡ Same) ↔ InSpan old.rows row)
  same_told =
      IfOk-weaker r (λ grown. Grows old row grown new) (λ grown. (grown ≡ Same) ↔ InSpan old.rows row)
      (λ grown g. same_exactly old new row grown g) grows

  pub wide_told : IsSmallForm old.n old.rows → IsNarrow old.width old.rows → IfOk r (λ grown. (grown ≡ Wide) ↔ GrowsWide old row)
  wide_told f narrow =
      IfOk-weaker r (λ grown. Grows old row grown new) (λ grown. (grown ≡ Wide) ↔ GrowsWide old row)
      (λ grown g. wide_exactly old new row grown f narrow g) grows

-- the form stands for each list of rows that it stood for, with this row
pub stands_for_rows : (old new : Echelon) (v : List ℤ) (grown : Grown) → Grows old v grown new → (rows : List (List ℤ)) → IsReducedForm old.n rows old.rows →
    GrowsForRows rows v old grown new
stands_for_rows old new v Same g rows r =
    subst (λ (e : Echelon). IsReducedForm e.n (rows ++ v ∷ []) e.rows) (sym g.1)
    (span_keeps_form old.n rows old.rows v r (span_trans rows old.rows v r.within g.0))
stands_for_rows old new v Added g rows r =
    subst (λ n. IsReducedForm n (rows ++ v ∷ []) new.rows) (sym g.1.n) (of_rows old.n rows old.rows new.rows v r g.1.reduced)
stands_for_rows old new v Wide g rows r = (g.2.0, of_rows old.n rows old.rows g.2.0 v r g.2.1, g.2.2)

-- a form of sets that stays narrow doesn't grow wide
pub not_wide_with : (old : Echelon) (rows : List ℕ) → StaysNarrow old rows → ¬ (GrowsWide old (set_row old.n rows))
not_wide_with old rows narrow wide =
    let of_sets = of_rows old.n (map (set_row old.n) narrow.0) old.rows wide.0 (set_row old.n rows) narrow.1 wide.1 in
    (narrow_or_wide old.width old.n (narrow.0 ++ rows ∷ [])).1 narrow.2
    (record { form = wide.0; reduced = more_sets old.n narrow.0 rows wide.0 of_sets; wide = wide.2 })

-- the same of the row as it was written, and of the form as it is seen
pub not_wide_at : (form seen : Echelon) (row : List ℤ) (n : ℕ) (rows : List ℕ) → form ≡ seen → row ≡ set_row n rows → n ≡ seen.n → StaysNarrow seen rows →
    ¬ (GrowsWide form row)
not_wide_at form seen row n rows view is same narrow =
    subst (λ (e : Echelon). ¬ (GrowsWide e row)) (sym view)
    (subst (λ r. ¬ (GrowsWide seen r)) (sym (is ∙ ap (λ m. set_row m rows) same)) (not_wide_with seen rows narrow))

-- the form with a set stands for the sets with it
pub stands_with : (old new : Echelon) (rows : List ℕ) → IsReducedForm old.n (old.rows ++ set_row old.n rows ∷ []) new.rows → (sets : List (List ℕ)) →
    Reduced old.n sets old.rows → Reduced old.n (sets ++ rows ∷ []) new.rows
stands_with old new rows reduced sets r =
    more_sets old.n sets rows new.rows (of_rows old.n (map (set_row old.n) sets) old.rows new.rows (set_row old.n rows) r reduced)

-- the form with a row, of the form as it is seen and the row of a set
pub reduced_at : (form seen : Echelon) (rows : List (List ℤ)) (row : List ℤ) (n : ℕ) (list : List ℕ) → form ≡ seen → row ≡ set_row n list → n ≡ seen.n →
    IsReducedForm form.n (form.rows ++ row ∷ []) rows → IsReducedForm seen.n (seen.rows ++ set_row seen.n list ∷ []) rows
reduced_at form seen rows row n list view is same reduced =
    subst (λ (e : Echelon). IsReducedForm e.n (e.rows ++ set_row seen.n list ∷ []) rows) view
    (subst (λ r. IsReducedForm form.n (form.rows ++ r ∷ []) rows) (is ∙ ap (λ m. set_row m list) same) reduced)
