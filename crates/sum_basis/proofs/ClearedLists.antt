-- A kept row cleared at the pivot of a new one, as whole rows.
use Rattle.std.proofs.Common.{◌≡◌, ℕ, zero, suc, ◌+◌, ◌<◌, ◌≤◌, ◌^◌, Bool, true, false, cond, nat_eq, ◌*◌, ℤ, pos, negsuc, List, [], ◌∷◌, get_or, refl, sym, ap, ◌∙◌, subst, arith, inl, inr}
use Rattle.std.specs.Prelude.{◌+ℤ◌, ◌-ℤ◌, ◌*ℤ◌, neg_ℤ, ◌<ℤ◌, unsigned_abs, FitsSigned}
use Rattle.std.specs.Int.{◌∣◌, w128}
use mir.Val.{to_z, of_z}
use Rattle.std.specs.List.{AllByRecursion}
use Rattle.std.proofs.lemmas.Int.{ints, to_z-of_z}
use Rattle.std.proofs.lemmas.Bool.{cases_eq, cases_lt}
use Rattle.std.proofs.lemmas.List.{length-map}
use Rattle.std.proofs.lemmas.Nat.Gcd.{dvd-zero}
use Rattle.std.proofs.Math.IntN.{*ℤ-zero, pos-*ℤ-pos, pos-*ℤ-negsuc}
use Rattle.audit_types.specs.Truth.{number_at}
use Rattle.audit_types.specs.Form.{IsContent, IsPrimitive, pivot, pivot_entry}
use Rattle.audit_types.specs.PrimitiveLines.{number_at-times, same_rows, times as times_of}
use Rattle.sum_basis.specs.declared.sparse.FreeEntry.{FreeEntry}
use Rattle.sum_basis.specs.declared.sparse.SparseRow.{SparseRow}
use Rattle.sum_basis.specs.Combination.{combine}
use Rattle.sum_basis.specs.Elimination.{IsSmall, IsCleared}
use Rattle.sum_basis.specs.Sparse.{entry_at, row_of, IsListed, entries_of, IsKept, IsNew, IsOverContent}
use Rattle.sum_basis.specs.CombinedRows.{number_at-combine, length-combine}
use Rattle.audit_types.specs.Products.{times-add, neg-times}
use Rattle.audit_types.specs.Numbers.{positive_not_zero, product_small}
use Rattle.audit_types.specs.ListLaws.{all-unmap}
use Rattle.sum_basis.proofs.Clearing.{cleared_from}
use Rattle.sum_basis.proofs.Sizes.{small_at}
use Rattle.sum_basis.proofs.SparseRows.{elsewhere, zero_below, number_at-row_of, length-row_of, pivot-row_of, pivot_entry-row_of, first_value, listed_to, small_values}
use Rattle.sum_basis.proofs.ListContents.{values, none, entry_at-scaled, listed_scaled}
use Rattle.int_rows.specs.ContentLaws.{all-ones}

-- the first entry of the list of a new row
pub record IsLed (n : ℕ) (es : List FreeEntry) (place : ℕ) (value : ℤ) : Type 0 where
  pub at_pivot : pivot (row_of n es) ≡ place
  pub pivot_entry_is : pivot_entry (row_of n es) ≡ value
  pub inside : place < n
  pub small : unsigned_abs value ≤ 2 ^ 56
  pub before : (j : ℕ) → j < place → entry_at es j ≡ pos 0

pub is_led : (n : ℕ) (es : List FreeEntry) → IsNew n es → IsLed n es (get_or es 0 none).place (get_or es 0 none).value
is_led n [] new = let some = new.some in absurd (omega arith)
is_led n (e ∷ es) new = let h = new.listed in record {
  at_pivot = pivot-row_of 0 n e es h;
  pivot_entry_is = pivot_entry-row_of 0 n e es h;
  inside = h.1;
  small = (small_values n (e ∷ es) h new.small).0;
  before = λ j l. zero_below e.place n (e ∷ es) j (omega arith, h.1, h.2, h.3) l;
}

-- what holds of 0 and of each number of a row holds of each value
pub values_from : (P : ℤ → Type 0) (from n : ℕ) (es : List FreeEntry) → IsListed from n es → ((j : ℕ) → P (entry_at es j)) → P (pos 0) →
    AllByRecursion P (values es)
values_from P from n [] h all zero_too = tt
values_from P from n (e ∷ es) h all zero_too = (
  subst P (first_value from n e es h) (all e.place),
  values_from P (e.place + 1) n es h.3 (λ j. elim (cases_lt e.place j) [
    | inl after ↦
        let first = elsewhere e j (λ same. omega arith) in
        let sum : entry_at (e ∷ es) j ≡ entry_at es j = omega (arith, ints) in
        subst P sum (all j)
    | inr before ↦ subst P (sym (zero_below (e.place + 1) n es j h.3 (omega arith))) zero_too
  ]) zero_too,
)

-- a list whose values have content 1 is a row of content 1
pub content_of_row : (n : ℕ) (es : List FreeEntry) → IsListed 0 n es → IsContent (values es) 1 → IsContent (row_of n es) 1
content_of_row n es h content = record {
  divides = all-ones (row_of n es);
  greatest =
      λ d all. content.greatest d (values_from (λ x. d ∣ unsigned_abs x) 0 n es h
      (λ j. subst (λ x. d ∣ unsigned_abs x) (number_at-row_of 0 n es h j) (at d (row_of n es) j all)) (dvd-zero d));
}
  where
    at : (d : ℕ) (xs : List ℤ) (j : ℕ) → AllByRecursion (λ x. d ∣ unsigned_abs x) xs → d ∣ unsigned_abs (number_at xs j)
    at d [] j all = dvd-zero d
    at d (x ∷ xs) zero all = all.0
    at d (x ∷ xs) (suc j) all = at d xs j all.1

-- entries that are 0 outside some columns are listed within them
pub listed_within : (from n start m : ℕ) (es : List FreeEntry) → IsListed start m es → ((j : ℕ) → j < from → entry_at es j ≡ pos 0) → start ≤ from → m ≤ n →
    IsListed from n es
listed_within from n start m [] h zeros l k = tt
listed_within from n start m (e ∷ es) h zeros l k =
    let inside = h.1 in
    elim (cases_lt e.place from) [
      | inl before ↦ absurd (h.2 (sym (first_value start m e es h) ∙ zeros e.place before))
      | inr after ↦ (after, omega arith, h.2, listed_to (e.place + 1) m n es k h.3)
    ]

-- a small row has small entries after its pivot
pub entry_small : (n : ℕ) (r : SparseRow) (j : ℕ) → IsKept n r → IsSmall (row_of n (entries_of r)) → unsigned_abs (entry_at r.free.items j) ≤ 2 ^ 56
entry_small n r j kept small = elim (cases_eq r.pivot j) [
  | inl same ↦ rw (zero_below (r.pivot + 1) n r.free.items j kept.listed.3 (omega arith)) (omega arith)
  | inr other ↦
      let first = elsewhere (record { place = r.pivot; value = r.head }) j other in
      let sum : entry_at (entries_of r) j ≡ entry_at r.free.items j = omega (arith, ints) in
      subst (λ z. unsigned_abs z ≤ 2 ^ 56) (number_at-row_of 0 n (entries_of r) kept.listed j ∙ sum) (small_at (row_of n (entries_of r)) j small)
]

-- and its pivot entry is small
pub head_small : (n : ℕ) (r : SparseRow) → IsKept n r → IsSmall (row_of n (entries_of r)) → unsigned_abs r.head ≤ 2 ^ 56
head_small n r kept small = (small_values n (entries_of r) kept.listed small).0

-- the values of a combination of small rows
pub combined_small : (n : ℕ) (r : SparseRow) (new out : List FreeEntry) (by times : ℤ) → IsKept n r → IsSmall (row_of n (entries_of r)) → IsNew n new
    → unsigned_abs by ≤ 2 ^ 56 → unsigned_abs times ≤ 2 ^ 56 → IsListed 0 n out
    → ((j : ℕ) → entry_at out j ≡ by *ℤ entry_at r.free.items j -ℤ times *ℤ entry_at new j) →
    AllByRecursion (λ (e : FreeEntry). unsigned_abs e.value ≤ 2 ^ 126) out
combined_small n r new out by times kept small is_new p q h combined =
    all-unmap (λ (e : FreeEntry). e.value) (λ x. unsigned_abs x ≤ 2 ^ 126) out (values_from (λ x. unsigned_abs x ≤ 2 ^ 126) 0 n out h at (omega arith))
  where
    at : (j : ℕ) → unsigned_abs (entry_at out j) ≤ 2 ^ 126
    at j =
        let is = combined j in
        let one = product_small by (entry_at r.free.items j) p (entry_small n r j kept small) in
        let two = product_small times (entry_at new j) q (subst (λ z. unsigned_abs z ≤ 2 ^ 56) (number_at-row_of 0 n new is_new.listed j)
        (small_at (row_of n new) j is_new.small)) in
        omega (arith, ints)

-- a positive product of a positive factor has a positive other factor
pub positive_factor : (x y : ℤ) → pos 0 <ℤ x → pos 0 <ℤ (x *ℤ y) → pos 0 <ℤ y
positive_factor x (pos (suc m)) p q = omega (arith, ints)
positive_factor x (pos zero) p q = let none = *ℤ-zero x in absurd (omega (arith, ints))
positive_factor (pos (suc n)) (negsuc m) p q =
    let product = pos-*ℤ-negsuc (suc n) m in let big : 0 < suc n * suc m = omega arith in absurd (omega (arith, ints))
positive_factor (pos zero) (negsuc m) p q = absurd (omega (arith, ints))
positive_factor (negsuc n) (negsuc m) p q = absurd (omega (arith, ints))

-- and positive factors have a positive product
pub positive_times : (x y : ℤ) → pos 0 <ℤ x → pos 0 <ℤ y → pos 0 <ℤ (x *ℤ y)
positive_times (pos (suc n)) (pos (suc m)) p q = let product = pos-*ℤ-pos (suc n) (suc m) in let big : 0 < suc n * suc m = omega arith in omega (arith, ints)
positive_times (pos zero) y p q = absurd (omega (arith, ints))
positive_times (negsuc n) y p q = absurd (omega (arith, ints))
positive_times (pos (suc n)) (pos zero) p q = absurd (omega (arith, ints))
positive_times (pos (suc n)) (negsuc m) p q = absurd (omega (arith, ints))

-- the row and the new one, combined at the new pivot
module _ (n : ℕ) (r : SparseRow) (new : List FreeEntry) (kept : IsKept n r) (is_new : IsNew n new) (before : r.pivot < (get_or new 0 none).place)
    (by times : ℤ) (by_is : by ≡ (get_or new 0 none).value) (times_is : times ≡ entry_at r.free.items (get_or new 0 none).place) where
  abbrev pub combined_rows : List ℤ
  combined_rows = combine (pivot_entry (row_of n new)) (row_of n (entries_of r)) (number_at (row_of n (entries_of r)) (pivot (row_of n new))) (row_of n new)

  pub combined_rows_at : (j : ℕ) → number_at combined_rows j ≡ by *ℤ entry_at (entries_of r) j +ℤ neg_ℤ times *ℤ entry_at new j
  combined_rows_at j =
      let x = pivot_entry (row_of n new) in
      let y = number_at (row_of n (entries_of r)) (pivot (row_of n new)) in
      number_at-combine x (row_of n (entries_of r)) y (row_of n new) j
      ∙ ap (λ z. x *ℤ z +ℤ neg_ℤ y *ℤ number_at (row_of n new) j) (number_at-row_of 0 n (entries_of r) kept.listed j)
      ∙ ap (λ z. x *ℤ entry_at (entries_of r) j +ℤ neg_ℤ y *ℤ z) (number_at-row_of 0 n new is_new.listed j)
      ∙ ap (λ z. z *ℤ entry_at (entries_of r) j +ℤ neg_ℤ y *ℤ entry_at new j) ((is_led n new is_new).pivot_entry_is ∙ sym by_is)
      ∙ ap (λ z. by *ℤ entry_at (entries_of r) j +ℤ neg_ℤ z *ℤ entry_at new j) (sym times_leads)
    where
      times_leads : times ≡ number_at (row_of n (entries_of r)) (pivot (row_of n new))
      times_leads =
          let place = (get_or new 0 none).place in
          let first = elsewhere (record { place = r.pivot; value = r.head }) place (λ same. omega arith) in
          let sum : entry_at (entries_of r) place ≡ entry_at r.free.items place = omega (arith, ints) in
          times_is ∙ sym sum ∙ sym (number_at-row_of 0 n (entries_of r) kept.listed place)
          ∙ ap (number_at (row_of n (entries_of r))) (sym (is_led n new is_new).at_pivot)

-- the row and the new one, combined at the new pivot, and that over its content
module _ (n : ℕ) (r : SparseRow) (new : List FreeEntry) (kept : IsKept n r) (primitive : IsPrimitive n (row_of n (entries_of r))) (is_new : IsNew n new)
    (before : r.pivot < (get_or new 0 none).place)
    (by times : ℤ) (by_is : by ≡ (get_or new 0 none).value) (times_is : times ≡ entry_at r.free.items (get_or new 0 none).place)
    (out : List FreeEntry) (out_listed : IsListed 0 n out) (combined : (j : ℕ) → entry_at out j ≡ by *ℤ entry_at r.free.items j -ℤ times *ℤ entry_at new j)
    (head : ℤ) (made : List FreeEntry) (over : IsOverContent (by *ℤ r.head) out head made) where
  by_leads : by ≡ pivot_entry (row_of n new)
  by_leads = by_is ∙ sym (is_led n new is_new).pivot_entry_is

  by_positive : pos 0 <ℤ by
  by_positive = subst (λ z. pos 0 <ℤ z) (sym by_leads) is_new.primitive.leading

  -- up to the row's pivot the result has nothing
  out_before : (j : ℕ) → j < r.pivot + 1 → entry_at out j ≡ pos 0
  out_before j l =
      let is = combined j in
      let one = ap (λ z. by *ℤ z) (zero_below (r.pivot + 1) n r.free.items j kept.listed.3 l) ∙ *ℤ-zero by in
      let two = ap (λ z. times *ℤ z) ((is_led n new is_new).before j (omega arith)) ∙ *ℤ-zero times in
      omega (arith, ints)

  made_listed : IsListed (r.pivot + 1) n made
  made_listed =
      listed_scaled over.by (r.pivot + 1) n made
      (subst (IsListed (r.pivot + 1) n) over.entries_are (listed_within (r.pivot + 1) n 0 n out out_listed out_before (omega arith) (omega arith)))

  -- the pivot entry is positive
  pub head_positive : pos 0 <ℤ head
  head_positive = positive_factor over.by head over.positive (subst (λ z. pos 0 <ℤ z) over.head_is (positive_times by r.head by_positive kept.leading))

  -- with it the result is listed
  pub cleared_listed : IsListed 0 n (record { place = r.pivot; value = head } ∷ made)
  cleared_listed = (omega arith, kept.listed.1, positive_not_zero head head_positive, made_listed)

  abbrev pub whole : List FreeEntry
  whole = record { place = r.pivot; value = head } ∷ made

  is_primitive : IsPrimitive n (row_of n whole)
  is_primitive = record {
    one_each = length-row_of n whole;
    content = content_of_row n whole cleared_listed over.content;
    leading = subst (λ z. pos 0 <ℤ z) (sym (pivot_entry-row_of 0 n (record { place = r.pivot; value = head }) made cleared_listed)) head_positive;
  }

  -- the combination, column by column
  column : (j : ℕ) → by *ℤ entry_at (entries_of r) j +ℤ neg_ℤ times *ℤ entry_at new j ≡ over.by *ℤ entry_at whole j
  column j =
      let is = combined j in
      let minus = neg-times times (entry_at new j) in
      let scaled_at = ap (λ l. entry_at l j) over.entries_are ∙ entry_at-scaled over.by made j in
      let left = times-add by (cond (nat_eq r.pivot j) r.head (pos 0)) (entry_at r.free.items j) in
      let right = times-add over.by (cond (nat_eq r.pivot j) head (pos 0)) (entry_at made j) in
      let heads = head_at (nat_eq r.pivot j) in
      omega (arith, ints)
    where
      head_at : (b : Bool) → by *ℤ cond b r.head (pos 0) ≡ over.by *ℤ cond b head (pos 0)
      head_at true = over.head_is
      head_at false = *ℤ-zero by ∙ sym (*ℤ-zero over.by)

  combination : combine (pivot_entry (row_of n new)) (row_of n (entries_of r)) (number_at (row_of n (entries_of r)) (pivot (row_of n new)))
      (row_of n new) ≡ times_of over.by (row_of n whole)
  combination =
      let x = pivot_entry (row_of n new) in
      let y = number_at (row_of n (entries_of r)) (pivot (row_of n new)) in
      same_rows (combine x (row_of n (entries_of r)) y (row_of n new)) (times_of over.by (row_of n whole))
      (length-combine n x (row_of n (entries_of r)) y (row_of n new) (length-row_of n (entries_of r)) (length-row_of n new)
      ∙ sym (length-map (row_of n whole) (λ z. over.by *ℤ z) ∙ length-row_of n whole))
      (λ j. combined_rows_at n r new kept is_new before by times by_is times_is j
      ∙ column j
      ∙ sym (number_at-times over.by (row_of n whole) j ∙ ap (λ z. over.by *ℤ z) (number_at-row_of 0 n whole cleared_listed j)))

  -- it is the row cleared
  pub is_cleared : IsCleared n (row_of n new) (row_of n (entries_of r)) (row_of n whole)
  is_cleared =
      let row_pivot = pivot-row_of 0 n (record { place = r.pivot; value = r.head }) r.free.items kept.listed in
      let led = is_led n new is_new in
      let new_pivot = led.at_pivot in
      cleared_from n (row_of n new) (row_of n (entries_of r)) (row_of n whole) over.by is_new.primitive primitive
      (number_at-row_of 0 n new is_new.listed (pivot (row_of n (entries_of r))) ∙ led.before (pivot (row_of n (entries_of r))) (omega arith))
      (omega arith) (positive_not_zero over.by over.positive) combination is_primitive

-- what is true of the row and the new one combined, over their content
pub record IsResult (n : ℕ) (r : SparseRow) (new : List FreeEntry) (head : ℤ) (made : List FreeEntry) : Type 0 where
  pub leading : pos 0 <ℤ head
  pub listed : IsListed 0 n (record { place = r.pivot; value = head } ∷ made)
  pub cleared : IsCleared n (row_of n new) (row_of n (entries_of r)) (row_of n (record { place = r.pivot; value = head } ∷ made))

pub result_is : (n : ℕ) (r : SparseRow) (new out : List FreeEntry) (times p head : ℤ) (made : List FreeEntry) → IsKept n r
    → IsPrimitive n (row_of n (entries_of r)) → IsNew n new → r.pivot < (get_or new 0 none).place → times ≡ entry_at r.free.items (get_or new 0 none).place
    → IsListed 0 n out → ((j : ℕ) → entry_at out j ≡ (get_or new 0 none).value *ℤ entry_at r.free.items j -ℤ times *ℤ entry_at new j) →
    p ≡ (get_or new 0 none).value *ℤ r.head → IsOverContent p out head made → IsResult n r new head made
result_is n r new out times p head made kept primitive is_new before times_is h combined e over =
    let whole = subst (λ z. IsOverContent z out head made) e over in
    let by = (get_or new 0 none).value in
    record {
      leading = head_positive n r new kept primitive is_new before by times refl times_is out h combined head made whole;
      listed = cleared_listed n r new kept primitive is_new before by times refl times_is out h combined head made whole;
      cleared = is_cleared n r new kept primitive is_new before by times refl times_is out h combined head made whole;
    }

-- the same of numbers that are kept as bits
pub result_of_bits : (n : ℕ) (r : SparseRow) (new out list made : List FreeEntry) (given p head : ℤ) → FitsSigned w128 given → FitsSigned w128 p → IsKept n r
    → IsPrimitive n (row_of n (entries_of r)) → IsNew n new → r.pivot < (get_or new 0 none).place → given ≡ entry_at r.free.items (get_or new 0 none).place
    → IsListed 0 n out → ((j : ℕ) → entry_at out j ≡ (get_or new 0 none).value *ℤ entry_at r.free.items j -ℤ to_z w128 (of_z w128 given) *ℤ entry_at new j) →
    p ≡ (get_or new 0 none).value *ℤ r.head → list ≡ out → IsOverContent (to_z w128 (of_z w128 p)) list head made → IsResult n r new head made
result_of_bits n r new out list made given p head f g kept primitive is_new before times_is listed combined e same over =
    result_is n r new out given p head made kept primitive is_new before times_is listed
    (λ j. combined j ∙ ap (λ z. (get_or new 0 none).value *ℤ entry_at r.free.items j -ℤ z *ℤ entry_at new j) (to_z-of_z w128 given f)) e
    (subst (λ l. IsOverContent p l head made) same (subst (λ z. IsOverContent z list head made) (to_z-of_z w128 p g) over))
