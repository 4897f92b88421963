-- Rows that are sorted by value and then by row: by a stable sort, and as they are searched for a value.
use Rattle.std.proofs.Common.{◌≡◌, ℕ, zero, suc, ◌+◌, ◌≤◌, Bool, true, false, List, [], ◌∷◌, get_or, slice_index_or, pos, refl, ap, ◌∙◌, sym, subst, arith}
use Rattle.std.proofs.lemmas.Bool.{false≢true}
use Rattle.std.proofs.lemmas.Cmp.{on_total, nat_cmp_total, int_cmp_total, nat_list_cmp_total}
use Rattle.std.specs.Cmp.{nat_cmp_is}
use Rattle.std.proofs.lemmas.List.Sorted.{ranks_by, searchable_from_sorted, ties_stay_sorted}
use Rattle.std.specs.Cmp.{IsTotalOrder, IsStrictWeakOrder}
use Rattle.std.specs.List.Sorted.{IsSorted, IsSortedBy, IsStableBy, IsNonDecreasingBy, IsPartitionedBy}
use Rattle.std.specs.Ordering.{is_lt, is_le, nat_cmp, ordering_index, ordering_reverse, ordering_then}
use Rattle.std.specs.declared.cmp.Ordering.{Ordering}
use Rattle.std.specs.declared.cmp.Ordering.TheVariants.{Less, Equal, Greater}
use Rattle.audit_types.specs.Rows.{AscendsFrom}
use Rattle.table_load.specs.Cells.{Cells, hidden, numbers, texts}
use Rattle.set_index.specs.Ends.{is_passed}
use Rattle.set_index.specs.Ordered.{compare_cells}
use Rattle.set_index.specs.declared.values.End.{End}
use Rattle.set_index.specs.declared.values.End.TheVariants.{Before, Behind}

lesser : (p q : Ordering) → is_lt (ordering_then p q) ≡ false → is_lt p ≡ false
lesser Less q h = h
lesser Equal q h = refl
lesser Greater q h = refl

-- what is not less by value, and not by row if the values are equal, is not less by value and then by row
by_row : (p q : Ordering) → is_lt p ≡ false → (p ≡ Equal → is_lt q ≡ false) → is_lt (ordering_then p q) ≡ false
by_row Less q h tie = h
by_row Equal q h tie = tie refl
by_row Greater q h tie = refl

-- ascending rows are sorted
pub ascending_sorted : (low n : ℕ) (rows : List ℕ) → AscendsFrom low n rows → IsSorted nat_cmp rows
ascending_sorted low n [] h k d from high = absurd (omega arith)
ascending_sorted low n (r ∷ []) h k d from high = absurd (omega arith)
ascending_sorted low n (r ∷ q ∷ rows) h zero d from high = ap is_lt (sym (nat_cmp_is q r Greater (omega (arith, h.2.0))))
ascending_sorted low n (r ∷ q ∷ rows) h (suc k) d from high =
    let next : suc (k + 1) ≡ suc k + 1 = omega arith in
    subst (λ m. is_lt (nat_cmp (get_or (r ∷ q ∷ rows) m d) (get_or (q ∷ rows) k d)) ≡ false) next
    (ascending_sorted (r + 1) n (q ∷ rows) h.2 k d (omega arith) (omega arith))

less_falls : (o u : Ordering) → ordering_index o ≤ ordering_index u → is_lt u ≡ true → is_lt o ≡ true
less_falls Less u le h = refl
less_falls Equal Less le h = absurd (omega arith)
less_falls Greater Less le h = absurd (omega arith)
less_falls Equal Equal le h = absurd (false≢true h)
less_falls Greater Equal le h = absurd (false≢true h)
less_falls Equal Greater le h = absurd (false≢true h)
less_falls Greater Greater le h = absurd (false≢true h)

up_to_falls : (o u : Ordering) → ordering_index o ≤ ordering_index u → is_le u ≡ true → is_le o ≡ true
up_to_falls Less u le h = refl
up_to_falls Equal u le h = refl
up_to_falls Greater Less le h = absurd (omega arith)
up_to_falls Greater Equal le h = absurd (omega arith)
up_to_falls Greater Greater le h = absurd (false≢true h)

module _ {K : Type 0} {R : K → K → Ordering} (o : IsTotalOrder R) (key : ℕ → K) where
  -- whether a row comes before another, by value and then by row
  abbrev comes_before : ℕ → ℕ → Bool
  comes_before r s = is_lt (ordering_then (R (key r) (key s)) (nat_cmp r s))

  -- whether a row comes before another by value alone
  abbrev is_less : ℕ → ℕ → Bool
  is_less r s = is_lt (R (key r) (key s))

  pub is_an_order_of_values : IsStrictWeakOrder is_less
  is_an_order_of_values = ranks_by o key

  -- rows in ascending order, sorted by value so that equal ones stay in their order, are sorted by value and then by row
  pub stably_sorted : (xs ys : List ℕ) → IsSorted nat_cmp xs → IsSortedBy is_less ys → IsStableBy is_less xs ys → IsSortedBy comes_before ys
  stably_sorted xs ys up sorted stable k d low high =
      let x = get_or ys k d in
      let next = get_or ys (k + 1) d in
      by_row (R (key next) (key x)) (nat_cmp next x) (sorted k d low high)
      (λ same.
      let back : R (key x) (key next) ≡ Equal = o.antisymm (key x) (key next) ∙ ap ordering_reverse same in
      ties_stay_sorted (λ r s. is_lt (nat_cmp r s)) is_less (ranks_by nat_cmp_total (λ r. r)) is_an_order_of_values xs ys up stable k d high
      (rw (same, back) refl))

  rises : (x : K) (xs : List ℕ) → IsSortedBy comes_before xs → IsNonDecreasingBy (λ r. ordering_index (R (key r) x)) xs
  rises x xs sorted = searchable_from_sorted o key xs x (λ k d low high. lesser _ _ (sorted k d low high))

  -- the rows below a value come first
  smaller_first : (x : K) (xs : List ℕ) → IsSortedBy comes_before xs → IsPartitionedBy (λ r. is_lt (R (key r) x)) xs
  smaller_first x xs sorted i j d le high = less_falls _ _ (rises x xs sorted i j d le high)

  -- and so do those up to it
  up_to_first : (x : K) (xs : List ℕ) → IsSortedBy comes_before xs → IsPartitionedBy (λ r. is_le (R (key r) x)) xs
  up_to_first x xs sorted i j d le high = up_to_falls _ _ (rises x xs sorted i j d le high)

  -- and so do those before an end of the rows with it
  pub passed_first : (end : End) (x : K) (xs : List ℕ) → IsSortedBy comes_before xs → IsPartitionedBy (λ r. is_passed end (R (key r) x)) xs
  passed_first Before x xs sorted = smaller_first x xs sorted
  passed_first Behind x xs sorted = up_to_first x xs sorted

-- the values of a column have an order
pub column_total : (cells : Cells) → IsTotalOrder (compare_cells cells)
column_total hidden = on_total (λ (r : ℕ). 0) nat_cmp_total
column_total (numbers xs) = on_total (λ (r : ℕ). slice_index_or xs r (pos 0)) int_cmp_total
column_total (texts ts) = on_total (λ (r : ℕ). slice_index_or ts r []) nat_list_cmp_total
