-- A kept row cleared in place, if both pivot entries are 1.
use Rattle.std.proofs.Common.{◌≡◌, ℕ, zero, suc, ◌+◌, ◌<◌, ◌≤◌, ◌^◌, ℤ, pos, List, [], ◌∷◌, ◌++◌, length, get_or, refl, sym, ap, ◌∙◌, subst, arith, inl, inr}
use Rattle.std.specs.Prelude.{◌-ℤ◌, ◌*ℤ◌, ◌<ℤ◌, neg_ℤ, unsigned_abs}
use Rattle.std.proofs.lemmas.Int.{ints}
use Rattle.audit_types.specs.Truth.{number_at}
use Rattle.audit_types.specs.Numbers.{zero_or_not}
use Rattle.std.specs.List.{AllByRecursion}
use Rattle.std.specs.Vec.{vec_capacity}
use Rattle.audit_types.specs.Form.{IsContent, IsPrimitive}
use Rattle.audit_types.specs.Products.{one-times, neg-times}
use Rattle.sum_basis.specs.declared.sparse.FreeEntry.{FreeEntry}
use Rattle.sum_basis.specs.declared.sparse.SparseRow.{SparseRow}
use Rattle.sum_basis.specs.Combination.{combine}
use Rattle.sum_basis.specs.CombinedRows.{number_at-combine, length-combine}
use Rattle.sum_basis.specs.Elimination.{IsCleared, StaysSmall}
use Rattle.sum_basis.specs.Sparse.{entry_at, row_of, IsListed, entries_of, IsKept, IsNew, IsOverContent}
use Rattle.sum_basis.proofs.ListContents.{none, values, over_one, content_of_one, stays_one}
use Rattle.sum_basis.proofs.BoundedRows.{bounded_at}
use Rattle.sum_basis.proofs.Listing.{IsPartlyListed, none_listed, left_out, one_more_listed, all_listed}
use Rattle.sum_basis.proofs.SparseRows.{number_at-row_of, length-row_of, small_values}
use Rattle.sum_basis.proofs.ClearedLists.{cleared_listed, is_cleared}

module _ (n : ℕ) (r : SparseRow) (new : List FreeEntry) (kept : IsKept n r) (primitive : IsPrimitive n (row_of n (entries_of r))) (is_new : IsNew n new)
    (before : r.pivot < (get_or new 0 none).place) (times : ℤ) (times_is : times ≡ entry_at r.free.items (get_or new 0 none).place)
    (head_one : r.head ≡ pos 1) (new_one : (get_or new 0 none).value ≡ pos 1) (out : List FreeEntry) (out_listed : IsListed 0 n out)
    (taken : (j : ℕ) → entry_at out j ≡ entry_at r.free.items j -ℤ times *ℤ entry_at new j) where
  combined : (j : ℕ) → entry_at out j ≡ (get_or new 0 none).value *ℤ entry_at r.free.items j -ℤ times *ℤ entry_at new j
  combined j = taken j ∙ ap (λ z. z -ℤ times *ℤ entry_at new j) (sym (ap (λ z. z *ℤ entry_at r.free.items j) new_one ∙ one-times (entry_at r.free.items j)))

  content : IsContent (r.head ∷ values out) 1
  content = stays_one r.head out 0 (subst (IsContent (r.head ∷ [])) (ap unsigned_abs head_one) (content_of_one r.head))

  over : IsOverContent ((get_or new 0 none).value *ℤ r.head) out r.head out
  over = subst (λ z. IsOverContent z out r.head out) (sym (ap (λ z. z *ℤ r.head) new_one ∙ one-times r.head)) (over_one r.head out content)

  -- the changed list, with the pivot entry
  pub edited_listed : IsListed 0 n (record { place = r.pivot; value = r.head } ∷ out)
  edited_listed = cleared_listed n r new kept primitive is_new before (get_or new 0 none).value times refl times_is out out_listed combined r.head out over

  -- is the row cleared
  pub edited_cleared : IsCleared n (row_of n new) (row_of n (entries_of r)) (row_of n (record { place = r.pivot; value = r.head } ∷ out))
  edited_cleared = is_cleared n r new kept primitive is_new before (get_or new 0 none).value times refl times_is out out_listed combined r.head out over

-- the entries of a row that are not 0, up to a place
pub row_listed : (row : List ℤ) (k : ℕ) → (list : List FreeEntry) × IsPartlyListed row list k
row_listed row zero = ([], none_listed row)
row_listed row (suc k) =
    let before = row_listed row k in
    let next : k + 1 ≡ suc k = omega arith in
    elim (zero_or_not (number_at row k)) [
      | inl none_there ↦ (before.0, subst (IsPartlyListed row before.0) next (left_out row before.0 k before.1 none_there))
      | inr some ↦ (
        before.0 ++ record { place = k; value = number_at row k } ∷ [],
        subst (IsPartlyListed row (before.0 ++ record { place = k; value = number_at row k } ∷ [])) next
            (one_more_listed row before.0 k (number_at row k) before.1 refl some),
      )
    ]

-- if the row stays small, so does each number that is written
module _ (n : ℕ) (r : SparseRow) (new : List FreeEntry) (kept : IsKept n r) (primitive : IsPrimitive n (row_of n (entries_of r))) (is_new : IsNew n new)
    (before : r.pivot < (get_or new 0 none).place) (times : ℤ) (times_is : times ≡ entry_at r.free.items (get_or new 0 none).place)
    (head_one : r.head ≡ pos 1) (new_one : (get_or new 0 none).value ≡ pos 1) where
  abbrev pub whole : List ℤ
  whole = combine (pos 1) (row_of n r.free.items) times (row_of n new)

  whole_long : n ≡ length whole
  whole_long = sym (length-combine n (pos 1) (row_of n r.free.items) times (row_of n new) (length-row_of n r.free.items) (length-row_of n new))

  abbrev pub list : List FreeEntry
  list = (row_listed whole n).0

  list_at : (j : ℕ) → entry_at list j ≡ entry_at r.free.items j -ℤ times *ℤ entry_at new j
  list_at j =
      let is = all_listed whole list n whole_long (row_listed whole n).1 j ∙ number_at-combine (pos 1) (row_of n r.free.items) times (row_of n new) j in
      let own = ap (λ z. pos 1 *ℤ z) (number_at-row_of (r.pivot + 1) n r.free.items kept.listed.3 j) ∙ one-times (entry_at r.free.items j) in
      let less = ap (λ z. neg_ℤ times *ℤ z) (number_at-row_of 0 n new is_new.listed j) ∙ neg-times times (entry_at new j) in
      omega (arith, ints)

  pub edited_small : StaysSmall n (row_of n new) (row_of n (entries_of r)) → (j : ℕ) →
      unsigned_abs (entry_at r.free.items j -ℤ times *ℤ entry_at new j) ≤ 2 ^ 56
  edited_small narrow j =
      let here = (row_listed whole n).1.listed in
      let listed = edited_listed n r new kept primitive is_new before times times_is head_one new_one list here list_at in
      let cleared = edited_cleared n r new kept primitive is_new before times times_is head_one new_one list here list_at in
      let small = small_values n (record { place = r.pivot; value = r.head } ∷ list) listed (narrow _ cleared) in
      subst (λ (z : ℤ). unsigned_abs z ≤ 2 ^ 56) (list_at j) (bounded_at 0 n (2 ^ 56) list here small.1 j)

-- what is kept of a row that was cleared
pub kept_row : (n : ℕ) (r : SparseRow) (head : ℤ) (out list : List FreeEntry) → IsListed 0 n (record { place = r.pivot; value = head } ∷ out) → pos 0 <ℤ head
    → unsigned_abs head ≤ r.most → list ≡ out → AllByRecursion (λ (e : FreeEntry). unsigned_abs e.value ≤ r.most) list
    → r.head ≡ head → r.free.items ≡ out → n ≤ vec_capacity r.free → IsKept n r
kept_row n r head out list listed leading most same all h items room = record {
  listed = rw (h, items) listed;
  leading = rw h leading;
  bounded = (rw h most, rw (items, sym same) all);
  room = room;
}
