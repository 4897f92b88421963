-- A form as it is kept, and as its callers see it.
use Rattle.std.proofs.Common.{◌≡◌, ◌≢◌, ℕ, zero, suc, ◌+◌, ◌<◌, ◌≤◌, cond, nat_eq, ℤ, pos, List, [], ◌∷◌, length, get_or, refl, sym, ap, ◌∙◌, subst, arith, inl, inr}
use Rattle.std.specs.Prelude.{◌+ℤ◌}
use Rattle.std.specs.List.{AllByRecursion}
use Rattle.std.proofs.lemmas.Int.{ints}
use Rattle.std.proofs.lemmas.Bool.{eqb-true, eq-eqb}
use Rattle.std.proofs.lemmas.List.{length-map}
use Rattle.std.proofs.lemmas.List.Elements.{All-from_recursion}
use Rattle.audit_types.specs.Truth.{number_at}
use Rattle.audit_types.specs.Form.{IsEchelon, pivot}
use Rattle.sum_basis.specs.declared.sparse.FreeEntry.{FreeEntry}
use Rattle.sum_basis.specs.declared.sparse.SparseRow.{SparseRow}
use Rattle.sum_basis.specs.Basis.{Echelon, IsFreeList}
use Rattle.sum_basis.specs.Sparse.{entry_at, row_of, rows_of, IsListed, entries_of, IsKept}
use Rattle.sum_basis.specs.Ties.{IsRowOf}
use Rattle.sum_basis.proofs.FormsAreUnique.{zero_at_others}
use Rattle.sum_basis.proofs.SparseRows.{here, elsewhere, zero_below, number_at-row_of, listed_from, first_value}
use Rattle.sum_basis.proofs.SparseMultiples.{kept_pivot}
use Rattle.sum_basis.proofs.KeptRows.{row_is, of_row, lone_list}
use Rattle.sum_basis.specs.Elimination.{IsLone}
use Rattle.std.proofs.Common.{◌↔◌, Bool, IsTrue}

-- row k is a row of the form
pub row_among : (rows : List (List ℤ)) (k : ℕ) → k < length rows → IsRowOf (get_or rows k []) rows
row_among [] k h = absurd (omega arith)
row_among (r ∷ rows) zero h = inl refl
row_among (r ∷ rows) (suc k) h = inr (row_among rows k (omega arith))

-- what holds of each row of a form
each_row : (P : List ℤ → Type 0) (rows rest : List (List ℤ)) → ((g : List ℤ) → IsRowOf g rest → IsRowOf g rows) → ((g : List ℤ) → IsRowOf g rows → P g) →
    AllByRecursion P rest
each_row P rows [] among h = tt
each_row P rows (g ∷ rest) among h = (h g (among g (inl refl)), each_row P rows rest (λ f r. among f (inr r)) h)

-- the values of a list are what it has at their places
each_entry : (P : FreeEntry → Type 0) (from n : ℕ) (es : List FreeEntry) (f : ℕ → ℤ) → IsListed from n es → ((j : ℕ) → from ≤ j → entry_at es j ≡ f j) →
    ((e : FreeEntry) → from ≤ e.place → e.value ≢ pos 0 → f e.place ≡ e.value → P e) → AllByRecursion P es
each_entry P from n [] f h is each = tt
each_entry P from n (e ∷ es) f h is each = (
  each e h.0 h.2 (sym (is e.place h.0) ∙ first_value from n e es h),
  each_entry P (e.place + 1) n es f h.3
      (λ j l.
      let at = is j (let after = h.0 in omega arith) in
      let first = elsewhere e j (λ same. omega arith) in
      omega (arith, ints))
      (λ x l some same. each x (let after = h.0 in omega arith) some same),
)

module _ (n : ℕ) (rows : List SparseRow) (seen : Echelon) {width : ℕ} (view_is : record { n = n; width = width; rows = rows_of n rows } ≡ seen)
    (kept : AllByRecursion (IsKept n) rows) (k : ℕ) (r : SparseRow) (h : k < length seen.rows) (is : r ≡ get_or rows k r) where
  -- there are as many kept rows
  pub k_inside : k < length rows
  k_inside = let l = length-map rows (λ (x : SparseRow). row_of n (entries_of x)) in let same = ap (λ (e : Echelon). length e.rows) view_is in omega arith

  -- row k as it is kept
  pub kept_row : IsKept n r
  kept_row = of_row (IsKept n) rows k r k_inside is kept

  -- and as it is seen
  pub row_seen : get_or seen.rows k [] ≡ row_of n (entries_of r)
  row_seen = ap (λ (e : Echelon). get_or e.rows k []) (sym view_is) ∙ row_is n rows k r k_inside is

  pub pivot_seen : r.pivot ≡ pivot (get_or seen.rows k [])
  pivot_seen = sym (ap pivot row_seen ∙ kept_pivot n r kept_row)

  -- what it has at a column
  column_of : (j : ℕ) → number_at (get_or seen.rows k []) j ≡ cond (nat_eq r.pivot j) r.head (pos 0) +ℤ entry_at r.free.items j
  column_of j = ap (λ l. number_at l j) row_seen ∙ number_at-row_of 0 n (entries_of r) kept_row.listed j

  pub head_seen : (j : ℕ) → j ≡ r.pivot → r.head ≡ number_at (get_or seen.rows k []) j
  head_seen j e =
      let at = column_of j in
      let first = here (record { place = r.pivot; value = r.head }) j (sym e) in
      let rest = zero_below (r.pivot + 1) n r.free.items j kept_row.listed.3 (omega arith) in
      omega (arith, ints)

  pub free_seen : (j : ℕ) → j ≢ r.pivot → entry_at r.free.items j ≡ number_at (get_or seen.rows k []) j
  free_seen j other =
      let at = column_of j in
      let first = elsewhere (record { place = r.pivot; value = r.head }) j (λ same. other (sym same)) in
      omega (arith, ints)

  -- its list is that of its entries at free columns
  pub free_list : IsEchelon seen.rows → IsFreeList seen.n seen.rows (get_or seen.rows k []) r.free.items
  free_list echelon = record {
    listed =
        subst (λ (m : ℕ). IsListed 0 m r.free.items) (ap (λ (e : Echelon). e.n) view_is)
        (listed_from (r.pivot + 1) 0 n r.free.items (omega arith) kept_row.listed.3);
    free =
        each_entry (λ (e : FreeEntry). AllByRecursion (λ other. pivot other ≢ e.place) seen.rows) (r.pivot + 1) n r.free.items
        (number_at (get_or seen.rows k [])) kept_row.listed.3 (λ j l. free_seen j (λ same. omega arith))
        (λ e l some same. each_row (λ other. pivot other ≢ e.place) seen.rows seen.rows (λ g m. m) (λ other among at.
        some (sym same ∙ ap (number_at (get_or seen.rows k [])) (sym at)
        ∙ zero_at_others seen.rows (get_or seen.rows k []) other echelon (row_among seen.rows k h) among (λ both. let mine = pivot_seen in omega arith))));
    is = λ j apart. free_seen j (λ same. All-from_recursion (λ other. pivot other ≢ j) seen.rows apart k [] h (sym (same ∙ pivot_seen)));
  }

  -- it is lone exactly if its list is empty
  pub lone_seen : (len : ℕ) (b : Bool) → len ≡ length r.free.items → b ≡ nat_eq len 0 → IsTrue b ↔ IsLone (get_or seen.rows k [])
  lone_seen len b l e =
      let lone = lone_list n (record { place = r.pivot; value = r.head }) r.free.items kept_row.listed in
      subst (λ (row : List ℤ). IsTrue b ↔ IsLone row) (sym row_seen)
      (λ t. lone.0 (sym l ∙ eqb-true len 0 (subst IsTrue e t)), λ all. subst IsTrue (sym e) (eq-eqb len 0 (l ∙ lone.1 all)))
