-- Rows as lists of entries, and as whole rows.
use Rattle.std.proofs.Common.{◌≡◌, ◌≢◌, ℕ, zero, suc, ◌+◌, ◌<◌, ◌≤◌, ◌^◌, cond, nat_eq, ℤ, pos, List, [], ◌∷◌, ◌++◌, length, take, drop, get_or, set, refl, sym, ap, ◌∙◌, subst, arith, inl, inr}
use Rattle.std.specs.Prelude.{◌+ℤ◌, ◌-ℤ◌, ◌*ℤ◌, unsigned_abs}
use Rattle.std.specs.List.{AllByRecursion}
use Rattle.std.proofs.lemmas.Int.{ints}
use Rattle.std.proofs.lemmas.Bool.{cases_eq, cases_lt}
use Rattle.std.proofs.lemmas.List.{get_or_past, get_or-set_same, get_or-set_other, take_more, take_all}
use Rattle.std.proofs.lemmas.List.FromFn.{get_or-map-range_with_len, length-map-range_with_len}
use Rattle.std.proofs.Math.IntN.{+ℤ_idl, *ℤ-zero}
use Rattle.audit_types.specs.Truth.{number_at}
use Rattle.audit_types.specs.Form.{pivot, pivot_entry}
use Rattle.sum_basis.specs.declared.sparse.FreeEntry.{FreeEntry}
use Rattle.sum_basis.specs.Combination.{combine}
use Rattle.sum_basis.specs.Elimination.{IsWithin, IsSmall}
use Rattle.sum_basis.specs.Sparse.{entry_at, row_of, IsListed}
pub use Rattle.sum_basis.specs.EntryLaws.{here, elsewhere, zero_below, first_value}
use Rattle.sum_basis.specs.Merging.{first_value as first_value_at}
use Rattle.sum_basis.specs.CombinedRows.{number_at-combine, length-combine}
use Rattle.std.specs.List.Sorted.{IsNonDecreasingBy}
use Rattle.audit_types.specs.Products.{times-add, neg-times, one-times}
use Rattle.sum_basis.proofs.FormsAreUnique.{pivot_is}
use Rattle.sum_basis.proofs.Sizes.{within_at}
use Rattle.audit_types.specs.PrimitiveLines.{same_rows}
use Rattle.audit_types.specs.RowNumbers.{all_by_number}

-- no entries have nothing
pub no_entry : (es : List FreeEntry) (j : ℕ) → length es ≡ 0 → entry_at es j ≡ pos 0
no_entry [] j h = refl
no_entry (e ∷ es) j h = absurd (omega arith)

-- two lists of entries have the sum of what they have
pub entry_at-append : (xs ys : List FreeEntry) (j : ℕ) → entry_at (xs ++ ys) j ≡ entry_at xs j +ℤ entry_at ys j
entry_at-append [] ys j = sym (+ℤ_idl (entry_at ys j))
entry_at-append (e ∷ xs) ys j = let rest = entry_at-append xs ys j in omega (arith, ints)

-- a list has nothing past the columns
pub zero_past : (from n : ℕ) (es : List FreeEntry) (j : ℕ) → IsListed from n es → n ≤ j → entry_at es j ≡ pos 0
zero_past from n [] j h l = refl
zero_past from n (e ∷ es) j h l =
    let at = h.1 in
    let first = elsewhere e j (λ same. omega arith) in
    let rest = zero_past (e.place + 1) n es j h.3 l in
    omega (arith, ints)

-- the whole row has n numbers
pub length-row_of : (n : ℕ) (es : List FreeEntry) → length (row_of n es) ≡ n
length-row_of n es = length-map-range_with_len (entry_at es) 0 n

-- each of which is what the list has there
pub number_at-row_of : (from n : ℕ) (es : List FreeEntry) → IsListed from n es → (j : ℕ) → number_at (row_of n es) j ≡ entry_at es j
number_at-row_of from n es h j = elim (cases_lt j n) [
  | inl lt ↦ get_or-map-range_with_len (entry_at es) 0 n j j (pos 0) lt (omega arith)
  | inr le ↦ get_or_past (row_of n es) j (pos 0) (let all = length-row_of n es in omega arith) ∙ sym (zero_past from n es j h le)
]

-- its first place is the pivot of the row
pub pivot-row_of : (from n : ℕ) (e : FreeEntry) (es : List FreeEntry) → IsListed from n (e ∷ es) → pivot (row_of n (e ∷ es)) ≡ e.place
pivot-row_of from n e es h =
    pivot_is (row_of n (e ∷ es)) e.place
    (λ j lt. number_at-row_of from n (e ∷ es) h j ∙ zero_below e.place n (e ∷ es) j (omega arith, h.1, h.2, h.3) lt)
    (λ z. h.2 (sym (number_at-row_of from n (e ∷ es) h e.place ∙ first_value from n e es h) ∙ z))

-- and the first value its pivot entry
pub pivot_entry-row_of : (from n : ℕ) (e : FreeEntry) (es : List FreeEntry) → IsListed from n (e ∷ es) → pivot_entry (row_of n (e ∷ es)) ≡ e.value
pivot_entry-row_of from n e es h =
    ap (number_at (row_of n (e ∷ es))) (pivot-row_of from n e es h) ∙ number_at-row_of from n (e ∷ es) h e.place ∙ first_value from n e es h

-- there are no more entries than columns
pub listed_length : (from n : ℕ) (es : List FreeEntry) → from ≤ n → IsListed from n es → length es + from ≤ n
listed_length from n [] l h = omega arith
listed_length from n (e ∷ es) l h = let at = h.0 in let inside = h.1 in let rest = listed_length (e.place + 1) n es (omega arith) h.3 in omega arith

-- a list may begin sooner
pub listed_from : (from start n : ℕ) (es : List FreeEntry) → start ≤ from → IsListed from n es → IsListed start n es
listed_from from start n [] l h = tt
listed_from from start n (e ∷ es) l h = let at = h.0 in (omega arith, h.1, h.2, h.3)

-- and end later
pub listed_to : (from m n : ℕ) (es : List FreeEntry) → m ≤ n → IsListed from m es → IsListed from n es
listed_to from m n [] l h = tt
listed_to from m n (e ∷ es) l h = let at = h.1 in (h.0, omega arith, h.2, listed_to (e.place + 1) m n es l h.3)

-- one entry more, at a later place
pub listed_push : (from m n : ℕ) (es : List FreeEntry) (e : FreeEntry) → from ≤ m → IsListed from m es → m ≤ e.place → e.place < n → e.value ≢ pos 0 →
    IsListed from n (es ++ e ∷ [])
listed_push from m n [] e l h at inside some = (omega arith, inside, some, tt)
listed_push from m n (x ∷ es) e l h at inside some =
    let last = h.1 in (h.0, omega arith, h.2, listed_push (x.place + 1) m n es e (omega arith) h.3 at inside some)

-- where entry k stands
pub record StandsWithin (from n : ℕ) (e : FreeEntry) : Type 0 where
  pub after : from ≤ e.place
  pub inside : e.place < n
  pub some : e.value ≢ pos 0

pub stands_within : (from n : ℕ) (es : List FreeEntry) (k : ℕ) (d : FreeEntry) → IsListed from n es → k < length es → StandsWithin from n (get_or es k d)
stands_within from n [] k d h l = absurd (omega arith)
stands_within from n (e ∷ es) zero d h l = record { after = h.0; inside = h.1; some = h.2 }
stands_within from n (e ∷ es) (suc k) d h l =
    let rest = stands_within (e.place + 1) n es k d h.3 (omega arith) in
    let at = h.0 in let next = rest.after in
    record { after = omega arith; inside = rest.inside; some = rest.some }

-- the entries before entry k have nothing at its place
pub front_zero : (from n : ℕ) (es : List FreeEntry) (k : ℕ) (d : FreeEntry) → IsListed from n es → k < length es →
    entry_at (take k es) (get_or es k d).place ≡ pos 0
front_zero from n [] k d h l = absurd (omega arith)
front_zero from n (e ∷ es) zero d h l = refl
front_zero from n (e ∷ es) (suc k) d h l =
    let next = (stands_within (e.place + 1) n es k d h.3 (omega arith)).after in
    let first = elsewhere e (get_or es k d).place (λ same. omega arith) in
    let rest = front_zero (e.place + 1) n es k d h.3 (omega arith) in
    omega (arith, ints)

-- what a list has where entry k stands
pub own_value : (from n : ℕ) (es : List FreeEntry) (k : ℕ) (d : FreeEntry) → IsListed from n es → k < length es →
    entry_at es (get_or es k d).place ≡ (get_or es k d).value
own_value from n [] k d h l = absurd (omega arith)
own_value from n (e ∷ es) zero d h l =
    let first = here e e.place refl in
    let rest = zero_below (e.place + 1) n es e.place h.3 (omega arith) in
    omega (arith, ints)
own_value from n (e ∷ es) (suc k) d h l =
    let next = (stands_within (e.place + 1) n es k d h.3 (omega arith)).after in
    let first = elsewhere e (get_or es k d).place (λ same. omega arith) in
    let rest = own_value (e.place + 1) n es k d h.3 (omega arith) in
    omega (arith, ints)

-- what the first k + 1 entries have
pub take_entry : (es : List FreeEntry) (k : ℕ) (d : FreeEntry) (j : ℕ) → k < length es →
    entry_at (take (k + 1) es) j ≡ entry_at (take k es) j +ℤ cond (nat_eq (get_or es k d).place j) (get_or es k d).value (pos 0)
take_entry es k d j h =
    let split = ap (λ l. entry_at l j) (take_more es k d h) ∙ entry_at-append (take k es) (get_or es k d ∷ []) j in
    omega (arith, ints)

-- a multiple of the first k entries is taken from the row
pub record IsPartlyTaken (old row : List ℤ) (times : ℤ) (es : List FreeEntry) (k : ℕ) : Type 0 where
  pub taken : (j : ℕ) → number_at row j ≡ number_at old j -ℤ times *ℤ entry_at (take k es) j

-- up to entry k the row is as it was at that entry's place
pub not_yet_taken : (old row : List ℤ) (times : ℤ) (n : ℕ) (es : List FreeEntry) (k : ℕ) (d : FreeEntry) → IsListed 0 n es → k < length es →
    IsPartlyTaken old row times es k → number_at row (get_or es k d).place ≡ number_at old (get_or es k d).place
not_yet_taken old row times n es k d h l part =
    let is = part.taken (get_or es k d).place in
    let none = ap (λ z. times *ℤ z) (front_zero 0 n es k d h l) ∙ *ℤ-zero times in
    omega (arith, ints)

-- one entry more is taken
pub one_entry_taken : (old row : List ℤ) (times : ℤ) (es : List FreeEntry) (k : ℕ) (d : FreeEntry) (v : ℤ) → k < length es → (get_or es k d).place < length row
    → IsPartlyTaken old row times es k
    → v ≡ number_at row (get_or es k d).place -ℤ times *ℤ (get_or es k d).value → IsPartlyTaken old (set row (get_or es k d).place v) times es (k + 1)
one_entry_taken old row times es k d v h inside part is = record { taken = λ j. at j }
  where
    e : FreeEntry
    e = get_or es k d

    at : (j : ℕ) → number_at (set row e.place v) j ≡ number_at old j -ℤ times *ℤ entry_at (take (k + 1) es) j
    at j =
        let more = ap (λ z. times *ℤ z) (take_entry es k d j h) ∙ times-add times (entry_at (take k es) j) (cond (nat_eq e.place j) e.value (pos 0)) in
        elim (cases_eq e.place j) [
          | inl same ↦
              let new = ap (number_at (set row e.place v)) (sym same) ∙ get_or-set_same row e.place v (pos 0) inside ∙ is
              ∙ ap (λ m. number_at row m -ℤ times *ℤ e.value) same in
              let one = ap (λ z. times *ℤ z) (here e j same) in
              let before = part.taken j in
              omega (arith, ints)
          | inr other ↦
              let new = get_or-set_other row e.place j v (pos 0) (λ same. other (sym same)) in
              let none = ap (λ z. times *ℤ z) (elsewhere e j other) ∙ *ℤ-zero times in
              let before = part.taken j in
              omega (arith, ints)
        ]

-- when all are, the row is less the multiple
pub all_entries_taken : (old row : List ℤ) (times : ℤ) (es : List FreeEntry) (k : ℕ) → length row ≡ length old → IsListed 0 (length old) es → length es ≤ k →
    IsPartlyTaken old row times es k → row ≡ combine (pos 1) old times (row_of (length old) es)
all_entries_taken old row times es k same h past part =
    same_rows row (combine (pos 1) old times whole) (same ∙ sym (length-combine (length old) (pos 1) old times whole refl (length-row_of (length old) es))) at
  where
    whole : List ℤ
    whole = row_of (length old) es

    at : (j : ℕ) → number_at row j ≡ number_at (combine (pos 1) old times whole) j
    at j =
        let taken = part.taken j in
        let list = ap (λ l. times *ℤ entry_at l j) (take_all k es past) in
        let is = number_at-combine (pos 1) old times whole j in
        let other = ap (λ z. times *ℤ z) (number_at-row_of 0 (length old) es h j) in
        let once = one-times (number_at old j) in
        let minus = neg-times times (number_at whole j) in
        omega (arith, ints)

-- values within a width make a row within it
pub row_within : (width n : ℕ) (es : List FreeEntry) → IsListed 0 n es → AllByRecursion (λ e. unsigned_abs e.value ≤ width) es → IsWithin width (row_of n es)
row_within width n es h within = all_by_number (λ x. unsigned_abs x ≤ width) (row_of n es) (λ j. rw (number_at-row_of 0 n es h j) (at 0 es j h within))
  where
    at : (from : ℕ) (xs : List FreeEntry) (j : ℕ) → IsListed from n xs → AllByRecursion (λ e. unsigned_abs e.value ≤ width) xs →
        unsigned_abs (entry_at xs j) ≤ width
    at from [] j l all = omega arith
    at from (e ∷ xs) j l all = elim (cases_eq e.place j) [
      | inl same ↦
          let first = here e j same in
          let rest = zero_below (e.place + 1) n xs j l.3 (omega arith) in
          let sum : entry_at (e ∷ xs) j ≡ e.value = omega (arith, ints) in
          rw sum all.0
      | inr other ↦
          let first = elsewhere e j other in
          let sum : entry_at (e ∷ xs) j ≡ entry_at xs j = omega (arith, ints) in
          rw sum (at (e.place + 1) xs j l.3 all.1)
    ]

-- and a row within it has such values
pub values_within : (width n : ℕ) (es : List FreeEntry) → IsListed 0 n es → IsWithin width (row_of n es) → AllByRecursion (λ e. unsigned_abs e.value ≤ width) es
values_within width n es h within = go 0 es h (λ j. subst (λ z. unsigned_abs z ≤ width) (number_at-row_of 0 n es h j) (within_at width (row_of n es) j within))
  where
    go : (from : ℕ) (xs : List FreeEntry) → IsListed from n xs → ((j : ℕ) → unsigned_abs (entry_at xs j) ≤ width) →
        AllByRecursion (λ e. unsigned_abs e.value ≤ width) xs
    go from [] l all = tt
    go from (e ∷ xs) l all = (
      subst (λ z. unsigned_abs z ≤ width) (first_value from n e xs l) (all e.place),
      go (e.place + 1) xs l.3 (λ j. elim (cases_lt e.place j) [
        | inl after ↦
            let first = elsewhere e j (λ same. omega arith) in
            let sum : entry_at (e ∷ xs) j ≡ entry_at xs j = omega (arith, ints) in
            subst (λ z. unsigned_abs z ≤ width) sum (all j)
        | inr before ↦ rw (zero_below (e.place + 1) n xs j l.3 (omega arith)) (omega arith)
      ]),
    )

-- a small row has small values
pub small_values : (n : ℕ) (es : List FreeEntry) → IsListed 0 n es → IsSmall (row_of n es) → AllByRecursion (λ e. unsigned_abs e.value ≤ 2 ^ 56) es
small_values n es h small = values_within (2 ^ 56) n es h small

-- the entries from entry k on
pub drop_entry : (es : List FreeEntry) (k : ℕ) (d : FreeEntry) → k < length es → drop k es ≡ get_or es k d ∷ drop (suc k) es
drop_entry [] k d h = absurd (omega arith)
drop_entry (e ∷ es) zero d h = refl
drop_entry (e ∷ es) (suc k) d h = drop_entry es k d (omega arith)

-- the places of a list rise
pub places_rise : (from n : ℕ) (es : List FreeEntry) → IsListed from n es → IsNonDecreasingBy (λ (e : FreeEntry). e.place) es
places_rise from n [] h i j d p q = absurd (omega arith)
places_rise from n (e ∷ es) h zero zero d p q = omega arith
places_rise from n (e ∷ es) h zero (suc j) d p q = let later = (stands_within (e.place + 1) n es j d h.3 (omega arith)).after in omega arith
places_rise from n (e ∷ es) h (suc i) zero d p q = absurd (omega arith)
places_rise from n (e ∷ es) h (suc i) (suc j) d p q = places_rise (e.place + 1) n es h.3 i j d (omega arith) (omega arith)

-- what a list has at a column, by the first entry that stands no sooner
pub value_from_there : (from n : ℕ) (es : List FreeEntry) (k column : ℕ) → IsListed from n es
    → ((i : ℕ) (d : FreeEntry) → i < k → i < length es → (get_or es i d).place < column) → ((d : FreeEntry) → k < length es → column ≤ (get_or es k d).place)
    → first_value_at (drop k es) column ≡ entry_at es column
value_from_there from n [] zero column h before after = refl
value_from_there from n [] (suc k) column h before after = refl
value_from_there from n (e ∷ es) zero column h before after =
    let here = after e (omega arith) in
    let rest = zero_below (e.place + 1) n es column h.3 (omega arith) in
    omega (arith, ints)
value_from_there from n (e ∷ es) (suc k) column h before after =
    let past = before 0 e (omega arith) (omega arith) in
    let first = elsewhere e column (λ same. omega arith) in
    let rest = value_from_there (e.place + 1) n es k column h.3 (λ i d p q. before (suc i) d (omega arith) (omega arith)) (λ d p. after d (omega arith)) in
    omega (arith, ints)
