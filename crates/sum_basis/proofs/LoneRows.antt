-- A new row with one entry: it takes a column out of the rows of a form.
use Rattle.std.proofs.Common.{◌≡◌, ◌≢◌, ℕ, ◌≤◌, ℤ, pos, List, [], ◌∷◌, length, get_or, refl, sym, ap, ◌∙◌, subst, arith, inl, inr}
use Rattle.std.specs.Prelude.{◌*ℤ◌, neg_ℤ, ◌<ℤ◌, unsigned_abs}
use Rattle.std.specs.Int.{◌∣◌}
use Rattle.std.specs.List.{AllByRecursion}
use Rattle.std.proofs.lemmas.Int.{ints}
use Rattle.std.proofs.lemmas.Bool.{cases_eq}
use Rattle.std.proofs.lemmas.Nat.Gcd.{dvd_refl, dvd-zero, le_of_dvd}
use Rattle.std.proofs.Math.IntN.{*ℤ-zero}
use Rattle.audit_types.specs.Truth.{number_at}
use Rattle.audit_types.specs.Form.{IsPrimitive}
use Rattle.audit_types.specs.Numbers.{zero_or_not}
use Rattle.audit_types.specs.Products.{size_of_factor, one-times}
use Rattle.audit_types.specs.RowNumbers.{all_by_number}
use Rattle.sum_basis.specs.declared.sparse.FreeEntry.{FreeEntry}
use Rattle.sum_basis.specs.declared.sparse.SparseRow.{SparseRow}
use Rattle.sum_basis.specs.Elimination.{IsWithin, IsZeroAtPivots, IsCleared, AreCleared}
use Rattle.sum_basis.specs.Sparse.{entry_at, row_of, rows_of, entries_of, IsKept, IsNew}
use Rattle.sum_basis.proofs.Sizes.{within_at}
use Rattle.sum_basis.proofs.SparseRows.{elsewhere, number_at-row_of}
use Rattle.sum_basis.proofs.ListContents.{none}
use Rattle.sum_basis.proofs.ClearedLists.{is_led}
use Rattle.sum_basis.proofs.KeptRows.{stands_earlier, cleared_as_it_is, nothing_at}
use Rattle.sum_basis.proofs.BoundedRows.{on_line}

-- it has nothing elsewhere
elsewhere_nothing : (new : List FreeEntry) (j : ℕ) → length new ≡ 1 → j ≢ (get_or new 0 none).place → entry_at new j ≡ pos 0
elsewhere_nothing [] j one other = absurd (omega arith)
elsewhere_nothing (e ∷ []) j one other = let first = elsewhere e j (λ same. other (sym same)) in omega (arith, ints)
elsewhere_nothing (e ∷ f ∷ es) j one other = absurd (omega arith)

-- a number whose size is 1 and that is positive is 1
size_one : (x : ℤ) → pos 0 <ℤ x → unsigned_abs x ≤ 1 → x ≡ pos 1
size_one x p h = omega (arith, ints)

module _ (n width : ℕ) (new : List FreeEntry) (is_new : IsNew n new) (one : length new ≡ 1) where
  -- its entry is 1
  value_is : (get_or new 0 none).value ≡ pos 1
  value_is =
      size_one v (subst (λ z. pos 0 <ℤ z) (is_led n new is_new).pivot_entry_is is_new.primitive.leading)
      (le_of_dvd (omega arith) (is_new.primitive.content.greatest (unsigned_abs v) (all_by_number (λ x. unsigned_abs v ∣ unsigned_abs x) (row_of n new) at)))
    where
      v : ℤ
      v = (get_or new 0 none).value

      at : (j : ℕ) → unsigned_abs v ∣ unsigned_abs (number_at (row_of n new) j)
      at j = let led = is_led n new is_new in elim (cases_eq j (get_or new 0 none).place) [
        | inl same ↦ subst (λ z. unsigned_abs v ∣ unsigned_abs z) (sym (ap (number_at (row_of n new)) (same ∙ sym led.at_pivot) ∙ led.pivot_entry_is))
            (dvd_refl (unsigned_abs v))
        | inr other ↦ subst (λ z. unsigned_abs v ∣ unsigned_abs z) (sym (number_at-row_of 0 n new is_new.listed j ∙ elsewhere_nothing new j one other))
            (dvd-zero (unsigned_abs v))
      ]

  -- a row that it clears stays within the width
  pub cleared_within : (r : SparseRow) → IsKept n r → IsPrimitive n (row_of n (entries_of r)) → entry_at new r.pivot ≡ pos 0 →
      IsWithin width (row_of n (entries_of r)) → (made : List ℤ) × IsCleared n (row_of n new) (row_of n (entries_of r)) made × IsWithin width made
  cleared_within r kept primitive nothing within = elim (zero_or_not (entry_at r.free.items (get_or new 0 none).place)) [
    | inl z ↦ (row_of n (entries_of r), cleared_as_it_is n r new kept is_new nothing primitive z, within)
    | inr some ↦
        let led = is_led n new is_new in
        let place = (get_or new 0 none).place in
        let times = entry_at r.free.items place in
        let line = on_line n r new kept primitive is_new nothing (stands_earlier n r new kept is_new some) (pos 1) times (sym value_is) refl in
        let at : (j : ℕ) → unsigned_abs (number_at line.0 j) ≤ width = λ j. elim (cases_eq j place) [
          | inl same ↦ subst (λ z. unsigned_abs z ≤ width) (sym (ap (number_at line.0) (same ∙ sym led.at_pivot) ∙ line.1.cleared.zero_there)) (omega arith)
          | inr other ↦
              let is = line.1.line j in
              let least = size_of_factor line.1.over (number_at line.0 j) line.1.not_zero in
              let once = one-times (entry_at (entries_of r) j) in
              let gone = ap (λ z. neg_ℤ times *ℤ z) (elsewhere_nothing new j one other) ∙ *ℤ-zero (neg_ℤ times) in
              let was = subst (λ z. unsigned_abs z ≤ width) (number_at-row_of 0 n (entries_of r) kept.listed j)
              (within_at width (row_of n (entries_of r)) j within) in
              omega (arith, ints)
        ] in
        (line.0, line.1.cleared, all_by_number (λ x. unsigned_abs x ≤ width) line.0 at)
  ]

  -- and so are all rows
  pub all_cleared_within : (rows : List SparseRow) → AllByRecursion (IsKept n) rows → AllByRecursion (IsPrimitive n) (rows_of n rows)
      → AllByRecursion (IsWithin width) (rows_of n rows) → IsZeroAtPivots (rows_of n rows) (row_of n new)
      → (made : List (List ℤ)) × AreCleared n (row_of n new) (rows_of n rows) made × AllByRecursion (IsWithin width) made
  all_cleared_within [] kept primitive within zero = ([], tt, tt)
  all_cleared_within (r ∷ rows) kept primitive within zero =
      let first = cleared_within r kept.0 primitive.0 (nothing_at n r new kept.0 is_new zero.0) within.0 in
      let rest = all_cleared_within rows kept.1 primitive.1 within.1 zero.1 in
      (first.0 ∷ rest.0, (first.1, rest.1), (first.2, rest.2))
