-- Lists of entries changed in place.
use Rattle.std.proofs.Common.{◌≡◌, ◌≢◌, ℕ, zero, suc, ◌+◌, ◌<◌, ◌≤◌, ◌^◌, Bool, true, false, cond, nat_eq, ℤ, pos, List, [], ◌∷◌, length, take, drop, get_or, set, refl, sym, ap, ◌∙◌, subst, arith, inl, inr}
use Rattle.std.specs.Prelude.{◌+ℤ◌, ◌-ℤ◌, ◌*ℤ◌, neg_ℤ, insert, remove, unsigned_abs}
use Rattle.std.specs.List.{AllByRecursion}
use Rattle.std.specs.List.Sorted.{IsPartitionPoint}
use Rattle.std.proofs.lemmas.List.Edits.{length-insert}
use Rattle.std.proofs.lemmas.Int.{ints}
use Rattle.std.proofs.lemmas.Bool.{cases_eq}
use Rattle.std.proofs.Math.IntN.{*ℤ-zero}
use Rattle.audit_types.specs.Truth.{is_zero}
use Rattle.audit_types.specs.Products.{times-add, product_not_zero}
use Rattle.audit_types.specs.Numbers.{zero_or_not, test_of_not_zero, size_negated, product_small}
use Rattle.audit_types.specs.ListLaws.{all-unmap}
use Rattle.sum_basis.specs.declared.sparse.FreeEntry.{FreeEntry}
use Rattle.sum_basis.specs.Sparse.{entry_at, IsListed}
use Rattle.sum_basis.specs.Merging.{first_value}
use Rattle.sum_basis.proofs.ListContents.{none}
use Rattle.sum_basis.proofs.ClearedLists.{values_from}
use Rattle.sum_basis.proofs.SparseRows.{here, elsewhere, listed_from, listed_length, take_entry, front_zero}
use Rattle.sum_basis.proofs.Merges.{neg_not_zero, nothing}
use Rattle.std.proofs.lemmas.List.{take_all}

-- one entry put in
entry_at-insert : (es : List FreeEntry) (k : ℕ) (e : FreeEntry) (j : ℕ) → entry_at (insert es k e) j ≡ entry_at es j +ℤ cond (nat_eq e.place j) e.value (pos 0)
entry_at-insert [] zero e j = omega (arith, ints)
entry_at-insert [] (suc k) e j = omega (arith, ints)
entry_at-insert (x ∷ es) zero e j = omega (arith, ints)
entry_at-insert (x ∷ es) (suc k) e j = let rest = entry_at-insert es k e j in omega (arith, ints)

listed_insert : (from n : ℕ) (es : List FreeEntry) (k : ℕ) (e : FreeEntry) → IsListed from n es → from ≤ e.place → e.place < n → e.value ≢ pos 0
    → ((i : ℕ) (d : FreeEntry) → i < k → i < length es → (get_or es i d).place < e.place) → ((d : FreeEntry) → k < length es → e.place < (get_or es k d).place)
    → IsListed from n (insert es k e)
listed_insert from n [] zero e h low inside some before after = (low, inside, some, tt)
listed_insert from n [] (suc k) e h low inside some before after = (low, inside, some, tt)
listed_insert from n (x ∷ es) zero e h low inside some before after = let next = after x (omega arith) in (low, inside, some, (omega arith, h.1, h.2, h.3))
listed_insert from n (x ∷ es) (suc k) e h low inside some before after =
    let first = before 0 x (omega arith) (omega arith) in (
      h.0,
      h.1,
      h.2,
      listed_insert (x.place + 1) n es k e h.3 (omega arith) inside some (λ i d p q. before (suc i) d (omega arith) (omega arith))
          (λ d p. after d (omega arith)),
    )

-- one entry taken out
entry_at-remove : (es : List FreeEntry) (k : ℕ) (j : ℕ) → k < length es →
    entry_at (remove es k) j +ℤ cond (nat_eq (get_or es k none).place j) (get_or es k none).value (pos 0) ≡ entry_at es j
entry_at-remove [] k j l = absurd (omega arith)
entry_at-remove (x ∷ es) zero j l = omega (arith, ints)
entry_at-remove (x ∷ es) (suc k) j l = let rest = entry_at-remove es k j (omega arith) in omega (arith, ints)

listed_remove : (from n : ℕ) (es : List FreeEntry) (k : ℕ) → IsListed from n es → IsListed from n (remove es k)
listed_remove from n [] zero h = tt
listed_remove from n [] (suc k) h = tt
listed_remove from n (x ∷ es) zero h = let at = h.0 in listed_from (x.place + 1) from n es (omega arith) h.3
listed_remove from n (x ∷ es) (suc k) h = (h.0, h.1, h.2, listed_remove (x.place + 1) n es k h.3)

-- one entry with another value
entry_at-set : (es : List FreeEntry) (k : ℕ) (v : ℤ) (j : ℕ) → k < length es →
    entry_at (set es k (record { place = (get_or es k none).place; value = v })) j +ℤ cond (nat_eq (get_or es k none).place j) (get_or es k none).value
    (pos 0) ≡ entry_at es j +ℤ cond (nat_eq (get_or es k none).place j) v (pos 0)
entry_at-set [] k v j l = absurd (omega arith)
entry_at-set (x ∷ es) zero v j l = omega (arith, ints)
entry_at-set (x ∷ es) (suc k) v j l = let rest = entry_at-set es k v j (omega arith) in omega (arith, ints)

listed_set : (from n : ℕ) (es : List FreeEntry) (k : ℕ) (v : ℤ) → k < length es → IsListed from n es → v ≢ pos 0 →
    IsListed from n (set es k (record { place = (get_or es k none).place; value = v }))
listed_set from n [] k v l h some = absurd (omega arith)
listed_set from n (x ∷ es) zero v l h some = (h.0, h.1, some, h.3)
listed_set from n (x ∷ es) (suc k) v l h some = (h.0, h.1, h.2, listed_set (x.place + 1) n es k v (omega arith) h.3 some)

-- if the list has a value at a column, from entry k on, it is entry k's
record IsFound (es : List FreeEntry) (k place : ℕ) (v : ℤ) : Type 0 where
  within : k < length es
  at_place : (get_or es k none).place ≡ place
  value_is : (get_or es k none).value ≡ v

found : (es : List FreeEntry) (k place : ℕ) → first_value (drop k es) place ≢ pos 0 → IsFound es k place (first_value (drop k es) place)
found [] zero place some = absurd (some refl)
found [] (suc k) place some = absurd (some refl)
found (e ∷ es) zero place some = elim (cases_eq e.place place) [
  | inl same ↦ record { within = omega arith; at_place = same; value_is = sym (here e place same) }
  | inr other ↦ absurd (some (elsewhere e place other))
]
found (e ∷ es) (suc k) place some =
    let rest = found es k place some in record { within = let l = rest.within in omega arith; at_place = rest.at_place; value_is = rest.value_is }

-- if it has none, entry k stands elsewhere
missed : (from n : ℕ) (es : List FreeEntry) (k place : ℕ) (d : FreeEntry) → IsListed from n es → first_value (drop k es) place ≡ pos 0 → k < length es →
    (get_or es k d).place ≢ place
missed from n [] k place d h gone l = absurd (omega arith)
missed from n (e ∷ es) zero place d h gone l = λ same. h.2 (sym (here e place same) ∙ gone)
missed from n (e ∷ es) (suc k) place d h gone l = missed (e.place + 1) n es k place d h.3 gone (omega arith)

-- a number added at a column
module _ (n : ℕ) (es : List FreeEntry) (k place : ℕ) (number : ℤ) (h : IsListed 0 n es) (inside : place < n) (some : number ≢ pos 0)
    (before : (i : ℕ) (d : FreeEntry) → i < k → i < length es → (get_or es i d).place < place)
    (after : (d : FreeEntry) → k < length es → place ≤ (get_or es k d).place) where
  abbrev entry : FreeEntry
  entry = record { place = place; value = number }

  pub inserted_listed : first_value (drop k es) place ≡ pos 0 → IsListed 0 n (insert es k (record { place = place; value = number }))
  inserted_listed gone =
      listed_insert 0 n es k entry h (omega arith) inside some before (λ d l. let other = missed 0 n es k place d h gone l in let at = after d l in omega arith)

  pub inserted_at : (j : ℕ) → entry_at (insert es k (record { place = place; value = number })) j ≡ entry_at es j +ℤ cond (nat_eq place j) number (pos 0)
  inserted_at j = entry_at-insert es k entry j

  module _ (v : ℤ) (there : first_value (drop k es) place ≢ pos 0) (is : v ≡ first_value (drop k es) place +ℤ number) where
    abbrev replaced : List FreeEntry
    replaced = cond (is_zero v) (remove es k) (set es k (record { place = place; value = v }))

    f : IsFound es k place (first_value (drop k es) place)
    f = found es k place there

    set_is : set es k (record { place = place; value = v }) ≡ set es k (record { place = (get_or es k none).place; value = v })
    set_is = ap (λ p. set es k (record { place = p; value = v })) (sym f.at_place)

    pub replaced_listed : IsListed 0 n replaced
    replaced_listed = elim (zero_or_not v) [
      | inl z ↦ rw (ap is_zero z) (listed_remove 0 n es k h)
      | inr other ↦ rw (test_of_not_zero v other) (subst (IsListed 0 n) (sym set_is) (listed_set 0 n es k v f.within h other))
    ]

    -- what stood at the place, as a choice by the column
    was : (j : ℕ) → cond (nat_eq (get_or es k none).place j) (get_or es k none).value (pos 0) ≡ cond (nat_eq place j) (first_value (drop k es) place) (pos 0)
    was j = ap (λ p. cond (nat_eq p j) (get_or es k none).value (pos 0)) f.at_place ∙ ap (λ x. cond (nat_eq place j) x (pos 0)) f.value_is

    both : (b : Bool) → cond b v (pos 0) ≡ cond b (first_value (drop k es) place) (pos 0) +ℤ cond b number (pos 0)
    both true = is
    both false = omega (arith, ints)

    pub replaced_at : (j : ℕ) → entry_at replaced j ≡ entry_at es j +ℤ cond (nat_eq place j) number (pos 0)
    replaced_at j = elim (zero_or_not v) [
      | inl z ↦ rw (ap is_zero z)
          (let less = entry_at-remove es k j f.within in let old = was j in let sum = both (nat_eq place j) in
          let gone = ap (λ x. cond (nat_eq place j) x (pos 0)) z ∙ nothing (nat_eq place j) in omega (arith, ints))
      | inr other ↦ rw (test_of_not_zero v other)
          (let changed = ap (λ l. entry_at l j) set_is in let new = entry_at-set es k v j f.within in let old = was j in
          let now = ap (λ p. cond (nat_eq p j) v (pos 0)) f.at_place in let sum = both (nat_eq place j) in omega (arith, ints))
    ]

-- a multiple of the first k entries is taken from a list
pub record IsTaken (old new : List FreeEntry) (times : ℤ) (es : List FreeEntry) (k : ℕ) : Type 0 where
  pub is : (j : ℕ) → entry_at new j ≡ entry_at old j -ℤ times *ℤ entry_at (take k es) j

pub none_taken_yet : (old : List FreeEntry) (times : ℤ) (es : List FreeEntry) → IsTaken old old times es 0
none_taken_yet old times es = record { is = λ j. let none_there = *ℤ-zero times in omega (arith, ints) }

-- up to entry k the list is as it was at that entry's place
pub as_before : (old new : List FreeEntry) (times : ℤ) (n : ℕ) (es : List FreeEntry) (k : ℕ) (d : FreeEntry) → IsListed 0 n es → k < length es →
    IsTaken old new times es k → entry_at new (get_or es k d).place ≡ entry_at old (get_or es k d).place
as_before old new times n es k d h l part =
    let is = part.is (get_or es k d).place in
    let nothing = ap (λ z. times *ℤ z) (front_zero 0 n es k d h l) ∙ *ℤ-zero times in
    omega (arith, ints)

-- one entry more
pub one_more_entry_taken : (old new next : List FreeEntry) (times : ℤ) (es : List FreeEntry) (k : ℕ) (d : FreeEntry) (number : ℤ) → k < length es
    → IsTaken old new times es k → number ≡ neg_ℤ (times *ℤ (get_or es k d).value)
    → ((j : ℕ) → entry_at next j ≡ entry_at new j +ℤ cond (nat_eq (get_or es k d).place j) number (pos 0)) → IsTaken old next times es (k + 1)
one_more_entry_taken old new next times es k d number l part is added = record { is = λ j. at j }
  where
    e : FreeEntry
    e = get_or es k d

    choice : (b : Bool) → cond b number (pos 0) ≡ neg_ℤ (times *ℤ cond b e.value (pos 0))
    choice true = is
    choice false = let nothing = *ℤ-zero times in omega (arith, ints)

    at : (j : ℕ) → entry_at next j ≡ entry_at old j -ℤ times *ℤ entry_at (take (k + 1) es) j
    at j =
        let more = ap (λ z. times *ℤ z) (take_entry es k d j l) ∙ times-add times (entry_at (take k es) j) (cond (nat_eq e.place j) e.value (pos 0)) in
        let before = part.is j in
        let now = added j in
        let minus = choice (nat_eq e.place j) in
        omega (arith, ints)

-- the bound with the number that was written
pub bounded_with : (new next : List FreeEntry) (place : ℕ) (number after : ℤ) (bound more : ℕ) → ((j : ℕ) → unsigned_abs (entry_at new j) ≤ bound)
    → ((j : ℕ) → entry_at next j ≡ entry_at new j +ℤ cond (nat_eq place j) number (pos 0)) → after ≡ entry_at new place +ℤ number
    → bound ≤ more → unsigned_abs after ≤ more → (j : ℕ) → unsigned_abs (entry_at next j) ≤ more
bounded_with new next place number after bound more all added is p q j = elim (cases_eq place j) [
  | inl same ↦
      let at = added place in
      let there = here (record { place = place; value = number }) place refl in
      let value : entry_at next place ≡ after = omega (arith, ints) in
      subst (λ i. unsigned_abs (entry_at next i) ≤ more) same (rw value q)
  | inr other ↦
      let at = added j in
      let there = elsewhere (record { place = place; value = number }) j other in
      let value : entry_at next j ≡ entry_at new j = omega (arith, ints) in
      let before = all j in
      rw value (omega arith)
]

-- what bounds a list at each column bounds its values
pub all_bounded : (n most : ℕ) (es : List FreeEntry) → IsListed 0 n es → ((j : ℕ) → unsigned_abs (entry_at es j) ≤ most) →
    AllByRecursion (λ (e : FreeEntry). unsigned_abs e.value ≤ most) es
all_bounded n most es h all =
    all-unmap (λ (e : FreeEntry). e.value) (λ x. unsigned_abs x ≤ most) es (values_from (λ x. unsigned_abs x ≤ most) 0 n es h all (omega arith))

-- in the end the multiple of all entries is taken
pub all_taken : (old new : List FreeEntry) (times : ℤ) (es : List FreeEntry) (k : ℕ) → length es ≤ k → IsTaken old new times es k → (j : ℕ) →
    entry_at new j ≡ entry_at old j -ℤ times *ℤ entry_at es j
all_taken old new times es k past part j = part.is j ∙ ap (λ l. entry_at old j -ℤ times *ℤ entry_at l j) (take_all k es past)

-- a list parted at a column
pub parted_of : (list es : List FreeEntry) (k place : ℕ) → list ≡ es
    → IsPartitionPoint (λ (e : FreeEntry). e.place < place) (λ (e : FreeEntry). place ≤ e.place) list k
    → ((i : ℕ) (d : FreeEntry) → i < k → i < length es → (get_or es i d).place < place) × ((d : FreeEntry) → k < length es → place ≤ (get_or es k d).place)
parted_of list es k place e parted =
    let h = subst (λ l. IsPartitionPoint (λ (x : FreeEntry). x.place < place) (λ (x : FreeEntry). place ≤ x.place) l k) e parted in
    (λ i d p q. h.0 i d (omega arith) p, λ d q. h.1 k d (omega arith) q)

-- an entry can be put in only if the list is shorter than the columns
pub room_to_insert : (n : ℕ) (es : List FreeEntry) (k : ℕ) (e : FreeEntry) → k ≤ length es → IsListed 0 n (insert es k e) → length es < n
room_to_insert n es k e l h = let all = listed_length 0 n (insert es k e) (omega arith) h in let more = length-insert es k e l in omega arith

-- the product of small numbers that is taken
pub record IsTakenNumber (times value number : ℤ) : Type 0 where
  pub is : number ≡ neg_ℤ (times *ℤ value)
  pub small : unsigned_abs number ≤ 2 ^ 112
  pub some : number ≢ pos 0

pub taken_number : (times value number : ℤ) → unsigned_abs times ≤ 2 ^ 56 → unsigned_abs value ≤ 2 ^ 56 → times ≢ pos 0 → value ≢ pos 0 →
    number ≡ neg_ℤ (times *ℤ value) → IsTakenNumber times value number
taken_number times value number p q t v is = record {
  is = is;
  small = rw (is, size_negated (times *ℤ value)) (product_small times value p q);
  some = λ z. neg_not_zero (times *ℤ value) (product_not_zero times value t v) (sym is ∙ z);
}
