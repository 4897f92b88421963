-- A row that joins a form: what is told of the primitive row holds of the row itself, and the form with it is narrow.
use Rattle.std.proofs.Common.{◌≡◌, ℕ, ◌<◌, ◌≤◌, ◌^◌, ℤ, pos, List, [], ◌∷◌, ◌++◌, length, refl, sym, ap, ◌∙◌, subst, arith, inl, inr}
use Rattle.std.specs.Prelude.{◌<ℤ◌, unsigned_abs}
use Rattle.std.proofs.lemmas.Int.{ints}
use Rattle.std.specs.List.{AllByRecursion}
use Rattle.sum_basis.specs.Limits.{most_columns}
use Rattle.audit_types.specs.Form.{InSpan, IsPrimitive, IsReducedForm, IsNarrow, IsLeastCommonMultiple, pivot, pivot_entry, pivot_entries}
use Rattle.sum_basis.specs.declared.sparse.FreeEntry.{FreeEntry}
use Rattle.sum_basis.specs.declared.sparse.SparseRow.{SparseRow}
use Rattle.sum_basis.specs.declared.Prospect.{Prospect}
use Rattle.sum_basis.specs.declared.Prospect.TheVariants.{Wide, Fixing, Open}
use Rattle.sum_basis.specs.Basis.{Echelon, IsForm, IsWidth}
use Rattle.sum_basis.specs.Elimination.{IsSmall, IsSmallForm, IsFormWithin, IsZeroAtPivots}
use Rattle.sum_basis.specs.Growth.{Foresees, GrowsTo, GrowsWide, IsNewRow, IsAsItIs, LeavesNoList}
use Rattle.sum_basis.specs.Sparse.{row_of, rows_of, IsListed, IsKept, IsNew}
use Rattle.sum_basis.specs.Spans.{own}
use Rattle.sum_basis.proofs.FormsAreUnique.{forms_are_unique}
use Rattle.sum_basis.proofs.NarrowOrWide.{narrow_or_not}
use Rattle.sum_basis.proofs.SpanKeepsForm.{span_keeps_form}
use Rattle.sum_basis.proofs.Sizes.{small_form}
use Rattle.sum_basis.proofs.Exactness.{other_row}
use Rattle.sum_basis.proofs.Extending.{grows_to, grows_wide}
use Rattle.sum_basis.proofs.LeastMultiples.{heads, least_unique}
use Rattle.sum_basis.proofs.SparseRows.{number_at-row_of, pivot_entry-row_of}
use Rattle.sum_basis.proofs.ClearedLists.{head_small}

-- what is told of the primitive row holds of the row
pub foresees_from : (old : Echelon) (v made : List ℤ) (p : Prospect) → IsNewRow old v made → Foresees old made p → Foresees old v p
foresees_from old v made Wide row h = grows_wide old v made row h
foresees_from old v made Fixing row h = (h.0, grows_to old h.0 v made row h.1, h.2)
foresees_from old v made Open row h = (h.0, grows_to old h.0 v made row h.1, h.2)

-- a row in the span leaves the form as it is
grows_same : (old : Echelon) (v : List ℤ) → IsSmallForm old.n old.rows → IsNarrow old.width old.rows → InSpan old.rows v → GrowsTo old v old
grows_same old v f narrow p = record {
  n = refl;
  width = refl;
  reduced = span_keeps_form old.n old.rows old.rows v (record { primitive = f.primitive; echelon = f.echelon; within = own old.rows; spans = own old.rows }) p;
  narrow = narrow;
}

pub foresees_same : (old : Echelon) (v : List ℤ) (p : Prospect) → IsSmallForm old.n old.rows → IsNarrow old.width old.rows → InSpan old.rows v →
    IsAsItIs old p →
    Foresees old v p
foresees_same old v Wide f narrow p is = absurd is
foresees_same old v Fixing f narrow p is = (old, grows_same old v f narrow p, is)
foresees_same old v Open f narrow p is = (old, grows_same old v f narrow p, is)

-- what is not wide is narrow
pub not_wide : (old : Echelon) (v : List ℤ) (p : Prospect) → Foresees old v p → ¬ (p ≡ Wide) → (new : Echelon) × GrowsTo old v new
not_wide old v Wide h other = absurd (other refl)
not_wide old v Fixing h other = (h.0, h.1)
not_wide old v Open h other = (h.0, h.1)

-- the pivot entries of kept rows
pub heads_are : (n : ℕ) (rows : List SparseRow) → AllByRecursion (IsKept n) rows → pivot_entries (rows_of n rows) ≡ heads rows
heads_are n [] h = refl
heads_are n (r ∷ rows) h =
    ap (λ (z : ℤ). unsigned_abs z ∷ pivot_entries (rows_of n rows))
    (pivot_entry-row_of 0 n (record { place = r.pivot; value = r.head }) r.free.items h.0.listed)
    ∙ ap (λ l. unsigned_abs r.head ∷ l) (heads_are n rows h.1)

small_heads : (n : ℕ) (rows : List SparseRow) → AllByRecursion (IsKept n) rows → AllByRecursion IsSmall (rows_of n rows) →
    AllByRecursion (λ r. (pos 0 <ℤ r.head) × (unsigned_abs r.head ≤ 2 ^ 56)) rows
small_heads n [] h s = tt
small_heads n (r ∷ rows) h s = ((h.0.leading, head_small n r h.0 s.0), small_heads n rows h.1 s.1)

-- what is true of the kept rows once a row has joined
pub record IsJoined (n width : ℕ) (rows : List SparseRow) : Type 0 where
  pub form : IsFormWithin width n (rows_of n rows)
  pub narrow : IsNarrow width (rows_of n rows)
  pub small : AllByRecursion (λ r. (pos 0 <ℤ r.head) × (unsigned_abs r.head ≤ 2 ^ 56)) rows
  pub same : pivot_entries (rows_of n rows) ≡ heads rows

pub joined : (n width : ℕ) (old : List (List ℤ)) (v : List ℤ) (rows : List SparseRow) → IsWidth width
    → ¬ (GrowsWide (record { n = n; width = width; rows = old }) v) → IsReducedForm n (old ++ v ∷ []) (rows_of n rows) → AllByRecursion (IsKept n) rows
    → IsJoined n width rows
joined n width old v rows fits other reduced kept = elim (narrow_or_not width n (old ++ v ∷ []) (rows_of n rows) reduced) [
  | inr wide ↦ absurd (other (rows_of n rows, reduced, wide))
  | inl narrow ↦
      let form : IsFormWithin width n (rows_of n rows) = record { primitive = reduced.primitive; echelon = reduced.echelon; entries = narrow.entries } in
      record {
        form = form;
        narrow = narrow;
        small = small_heads n rows kept (small_form width n (rows_of n rows) fits.1 form).entries;
        same = heads_are n rows kept;
      }
]

-- the multiple of the pivot entries is within the width
pub within_width : (n width : ℕ) (rows : List SparseRow) (m : ℕ) → IsJoined n width rows → IsLeastCommonMultiple (heads rows) m → m ≤ width
within_width n width rows m j least =
    let same = least_unique (heads rows) j.narrow.common m (subst (λ l. IsLeastCommonMultiple l j.narrow.common) j.same j.narrow.common_is) least in
    let small = j.narrow.common_small in
    omega arith

-- the fields of the form with the row
pub joined_form : (n width : ℕ) (rows : List SparseRow) (m : ℕ) (common : ℤ) (greatest_bound : ℕ) → 0 < n → n ≤ most_columns → IsWidth width
    → AllByRecursion (IsKept n) rows → IsJoined n width rows → IsLeastCommonMultiple (heads rows) m → common ≡ pos m → 0 < m
    → AllByRecursion (λ r. r.most ≤ greatest_bound) rows → IsForm n width common greatest_bound rows
joined_form n width rows m common greatest_bound some most fits kept j least e positive bounded = record {
  some = some;
  at_most = most;
  width_fits = fits;
  kept = kept;
  form = j.form;
  positive = positive_of m common e positive;
  within = rw e (within_width n width rows m j least);
  multiple = rw (e, j.same) least;
  bounded = bounded;
}
  where
    positive_of : (k : ℕ) (z : ℤ) → z ≡ pos k → 0 < k → pos 0 <ℤ z
    positive_of k z f h = omega (arith, ints)

-- the list of a row that is not all zeros is not empty
pub some_entry : (n : ℕ) (list : List FreeEntry) → IsPrimitive n (row_of n list) → IsListed 0 n list → 0 < length list
some_entry n [] p h = absurd (none (pivot_entry (row_of n [])) p.leading (number_at-row_of 0 n [] h (pivot (row_of n []))))
  where
    none : (z : ℤ) → pos 0 <ℤ z → z ≡ pos 0 → ⊥
    none z q e = omega (arith, ints)
some_entry n (e ∷ list) p h = omega arith

-- what is told of the list holds of the row, for the form as it is seen
pub told : {width : ℕ} (seen : Echelon) (n : ℕ) (rows items : List SparseRow) (new list : List FreeEntry) (v : List ℤ) (p : Prospect) (room : ℕ)
    → record { n = n; width = width; rows = rows_of n items } ≡ seen → rows ≡ items → new ≡ list
    → Foresees (record { n = n; width = width; rows = rows_of n rows }) (row_of n new) p → IsNew seen.n list × IsNewRow seen v (row_of seen.n list) ×
    (seen.n ≤ room) →
    Foresees seen v p
told {width} seen n rows items new list v p room view e f h left =
    let here = subst (λ (r : List SparseRow). Foresees (record { n = n; width = width; rows = rows_of n r }) (row_of n new) p) e h in
    let there = subst (λ (l : List FreeEntry). Foresees (record { n = n; width = width; rows = rows_of n items }) (row_of n l) p) f here in
    foresees_from seen v (row_of seen.n list) p left.1 (subst (λ (s : Echelon). Foresees s (row_of s.n list) p) view there)

-- the list of a new row is 0 at the form's pivots, for the form as it is seen
pub zeros_of_list : {width : ℕ} (seen : Echelon) (n : ℕ) (rows items : List SparseRow) (new list : List FreeEntry) →
    record { n = n; width = width; rows = rows_of n items } ≡ seen
    → rows ≡ items → new ≡ list
    → IsZeroAtPivots seen.rows (row_of seen.n list) → IsZeroAtPivots (rows_of n rows) (row_of n new)
zeros_of_list seen n rows items new list view e f zeros =
    let here = subst (λ (s : Echelon). IsZeroAtPivots s.rows (row_of s.n list)) (sym view) zeros in
    let there = subst (λ (l : List FreeEntry). IsZeroAtPivots (rows_of n items) (row_of n l)) (sym f) here in
    subst (λ (r : List SparseRow). IsZeroAtPivots (rows_of n r) (row_of n new)) (sym e) there

-- what is told not to be wide is not wide
pub not_grown_wide : (old : Echelon) (v : List ℤ) (p : Prospect) → Foresees old v p → ¬ (p ≡ Wide) → ¬ (GrowsWide old v)
not_grown_wide old v p h other wide =
    let grown = not_wide old v p h other in
    let same = forms_are_unique old.n (old.rows ++ v ∷ []) grown.0.rows wide.0 grown.1.reduced wide.1 in
    wide.2 (subst (IsNarrow old.width) same grown.1.narrow)

-- the rows once the row has joined
pub after_growth : (width : ℕ) (seen : Echelon) (n : ℕ) (items before grown : List SparseRow) (list : List FreeEntry) →
    record { n = n; width = width; rows = rows_of n items } ≡ seen
    → before ≡ items → IsWidth width
    → ¬ (GrowsWide seen (row_of seen.n list)) → IsReducedForm n (rows_of n before ++ row_of n list ∷ []) (rows_of n grown) → AllByRecursion (IsKept n) grown →
    IsJoined n width grown
after_growth width seen n items before grown list view g fits other reduced kept =
    joined n width (rows_of n items) (row_of n list) grown fits (subst (λ (s : Echelon). ¬ (GrowsWide s (row_of s.n list))) (sym view) other)
    (subst (λ (r : List SparseRow). IsReducedForm n (rows_of n r ++ row_of n list ∷ []) (rows_of n grown)) g reduced) kept

-- the rows of the form with the list, as the form was seen
pub grown_rows : {width : ℕ} (seen : Echelon) (n : ℕ) (items before grown : List SparseRow) (list : List FreeEntry) →
    record { n = n; width = width; rows = rows_of n items } ≡ seen
    → before ≡ items
    → IsReducedForm n (rows_of n before ++ row_of n list ∷ []) (rows_of n grown) → IsReducedForm seen.n (seen.rows ++ row_of seen.n list ∷ []) (rows_of n grown)
grown_rows seen n items before grown list view g reduced =
    subst (λ (s : Echelon). IsReducedForm s.n (s.rows ++ row_of s.n list ∷ []) (rows_of n grown)) view
    (subst (λ (r : List SparseRow). IsReducedForm n (rows_of n r ++ row_of n list ∷ []) (rows_of n grown)) g reduced)

-- a row with which the form is not wide has a primitive row with which it is not
pub not_wide_with : (old : Echelon) (v made : List ℤ) → IsNewRow old v made → ¬ (GrowsWide old v) → ¬ (GrowsWide old made)
not_wide_with old v made row other wide = other (grows_wide old v made row wide)

-- a row of the span leaves a reduced form
pub same_form : (old : Echelon) (v : List ℤ) → IsSmallForm old.n old.rows → InSpan old.rows v → IsReducedForm old.n (old.rows ++ v ∷ []) old.rows
same_form old v f p =
    span_keeps_form old.n old.rows old.rows v (record { primitive = f.primitive; echelon = f.echelon; within = own old.rows; spans = own old.rows }) p

-- the form with the list is the form with the row
pub grown_with : (old : Echelon) (rows : List (List ℤ)) (list : List FreeEntry) (v : List ℤ) → IsNewRow old v (row_of old.n list) →
    IsReducedForm old.n (old.rows ++ row_of old.n list ∷ []) rows → IsReducedForm old.n (old.rows ++ v ∷ []) rows
grown_with old rows list v row reduced = other_row old.n old.rows rows (row_of old.n list) v row.there row.back reduced

-- no list is left of a row of the span
pub no_list : (form : Echelon) (v : List ℤ) (p : Prospect) → InSpan form.rows v → IsAsItIs form p → LeavesNoList form v p
no_list form v Wide span is = absurd is
no_list form v Fixing span is = span
no_list form v Open span is = span

-- a row without a list with which the form is narrow lies in the span
pub without_list : (form : Echelon) (v : List ℤ) (p : Prospect) → ¬ (p ≡ Wide) → LeavesNoList form v p → InSpan form.rows v
without_list form v Wide other left = absurd (other refl)
without_list form v Fixing other left = left
without_list form v Open other left = left

-- the form with the row, once its list has joined, if it was said not to be wide
pub grown_to : (old new : Echelon) (list : List FreeEntry) (v : List ℤ) (p : Prospect) → Foresees old v p → ¬ (p ≡ Wide) → new.n ≡ old.n → new.width ≡ old.width
    → IsNewRow old v (row_of old.n list) → IsReducedForm old.n (old.rows ++ row_of old.n list ∷ []) new.rows → GrowsTo old v new
grown_to old new list v p told other n width row reduced =
    let grown = not_wide old v p told other in
    let form = grown_with old new.rows list v row reduced in
    record {
      n = n;
      width = width;
      reduced = form;
      narrow = subst (IsNarrow old.width) (forms_are_unique old.n (old.rows ++ v ∷ []) grown.0.rows new.rows grown.1.reduced form) grown.1.narrow;
    }
