-- Two lists of entries combined, place by place.
use Rattle.std.proofs.Common.{◌≡◌, ◌≢◌, ℕ, suc, ◌+◌, ◌-◌, ◌<◌, ◌≤◌, Bool, true, false, cond, nat_eq, ℤ, pos, List, [], ◌∷◌, ◌++◌, length, map, take, drop, get_or, refl, sym, ap, ◌∙◌, subst, arith, inl, inr, ◌⊎◌, length-drop}
use Rattle.std.specs.Prelude.{◌+ℤ◌, ◌-ℤ◌, ◌*ℤ◌, neg_ℤ}
use Rattle.std.proofs.lemmas.Int.{ints}
use Rattle.std.proofs.lemmas.Bool.{cases_eq, cases_lt}
use Rattle.std.proofs.lemmas.List.{drop_all, drop-drop, length-append, length-map, append-nil, take_all}
use Rattle.std.proofs.Math.IntN.{*ℤ-zero}
use Rattle.audit_types.specs.Truth.{is_zero}
use Rattle.sum_basis.specs.declared.sparse.FreeEntry.{FreeEntry}
use Rattle.sum_basis.specs.Sparse.{entry_at, IsListed, scaled}
use Rattle.sum_basis.specs.Merging.{first_value}
use Rattle.audit_types.specs.Products.{times-add, neg-times, product_not_zero}
use Rattle.audit_types.specs.Numbers.{test_of_not_zero, zero_or_not}
use Rattle.sum_basis.proofs.SparseRows.{here, elsewhere, entry_at-append, listed_push, listed_to, listed_from, listed_length, drop_entry}
use Rattle.sum_basis.proofs.ListContents.{entry_at-scaled, none}

-- the place of the first entry, and the number of columns for no entries
abbrev first_place : ℕ → List FreeEntry → ℕ
first_place n [] = n
first_place n (e ∷ entries) = e.place

-- what is left of a list when its entry at the place is taken
abbrev rest : List FreeEntry → ℕ → List FreeEntry
rest es place = cond (is_zero (first_value es place)) es (drop 1 es)

-- it begins later
rest_listed : (next n : ℕ) (es : List FreeEntry) (place : ℕ) → IsListed next n es → place ≤ first_place n es → IsListed (place + 1) n (rest es place)
rest_listed next n [] place h le = tt
rest_listed next n (e ∷ es) place h le = elim (cases_eq e.place place) [
  | inl same ↦ subst (λ b. IsListed (place + 1) n (cond b (e ∷ es) es)) (sym (ap is_zero (here e place same) ∙ test_of_not_zero e.value h.2))
      (subst (λ m. IsListed (m + 1) n es) same h.3)
  | inr other ↦ subst (λ b. IsListed (place + 1) n (cond b (e ∷ es) es)) (sym (ap is_zero (elsewhere e place other))) (omega arith, h.1, h.2, h.3)
]

-- whatever is chosen of nothing and nothing
pub nothing : (b : Bool) → cond b (pos 0) (pos 0) ≡ pos 0
nothing true = refl
nothing false = refl

-- and has what the list had but for that entry
rest_entry : (next n : ℕ) (es : List FreeEntry) (place : ℕ) → IsListed next n es → place ≤ first_place n es → (j : ℕ) →
    entry_at es j ≡ cond (nat_eq place j) (first_value es place) (pos 0) +ℤ entry_at (rest es place) j
rest_entry next n [] place h le j = let none = nothing (nat_eq place j) in omega (arith, ints)
rest_entry next n (e ∷ es) place h le j = elim (cases_eq e.place place) [
  | inl same ↦
      let left = ap (λ b. entry_at (cond b (e ∷ es) es) j) (ap is_zero (here e place same) ∙ test_of_not_zero e.value h.2) in
      let value = ap (λ z. cond (nat_eq place j) z (pos 0)) (here e place same) ∙ ap (λ m. cond (nat_eq m j) e.value (pos 0)) (sym same) in
      omega (arith, ints)
  | inr other ↦
      let left = ap (λ b. entry_at (cond b (e ∷ es) es) j) (ap is_zero (elsewhere e place other)) in
      let value = ap (λ z. cond (nat_eq place j) z (pos 0)) (elsewhere e place other) ∙ nothing (nat_eq place j) in
      omega (arith, ints)
]

-- the rest of what is left from entry i on
rest_drop : (es : List FreeEntry) (i : ℕ) (b : Bool) → drop (cond b i (i + 1)) es ≡ cond b (drop i es) (drop 1 (drop i es))
rest_drop es i true = refl
rest_drop es i false = sym (drop-drop 1 i es)

-- a list after another
listed_append : (from next n : ℕ) (xs ys : List FreeEntry) → next ≤ n → IsListed from next xs → IsListed next n ys → from ≤ next → IsListed from n (xs ++ ys)
listed_append from next n [] ys l h k low = listed_from next from n ys low k
listed_append from next n (x ∷ xs) ys l h k low = let inside = h.1 in (h.0, omega arith, h.2, listed_append (x.place + 1) next n xs ys l h.3 k (omega arith))

-- multiples of the entries
pub scaled_listed : (by : ℤ) (from n : ℕ) (es : List FreeEntry) → by ≢ pos 0 → IsListed from n es → IsListed from n (map (scaled by) es)
scaled_listed by from n [] p h = tt
scaled_listed by from n (e ∷ es) p h = (h.0, h.1, product_not_zero by e.value p h.2, scaled_listed by (e.place + 1) n es p h.3)

pub neg_not_zero : (z : ℤ) → z ≢ pos 0 → neg_ℤ z ≢ pos 0
neg_not_zero z p e = p (let same : z ≡ pos 0 = omega (arith, ints) in same)

-- how far the two lists were combined: everything before place `next`
pub record IsMerging (n : ℕ) (by : ℤ) (first : List FreeEntry) (times : ℤ) (second out : List FreeEntry) (i j : ℕ) : Type 0 where
  pub next : ℕ
  pub next_within : next ≤ n
  pub out_listed : IsListed 0 next out
  pub first_left : IsListed next n (drop i first)
  pub second_left : IsListed next n (drop j second)
  pub first_within : i ≤ length first
  pub second_within : j ≤ length second
  pub is : (k : ℕ) →
      entry_at out k +ℤ (by *ℤ entry_at (drop i first) k -ℤ times *ℤ entry_at (drop j second) k) ≡ by *ℤ entry_at first k -ℤ times *ℤ entry_at second k

-- a list begins where it was said to, or there is none
first_after : (next n : ℕ) (es : List FreeEntry) → next ≤ n → IsListed next n es → next ≤ first_place n es
first_after next n [] l h = l
first_after next n (e ∷ es) l h = h.0

-- the first entry of some is at a column
first_inside : (next n : ℕ) (es : List FreeEntry) → 0 < length es → IsListed next n es → first_place n es < n
first_inside next n [] l h = absurd (omega arith)
first_inside next n (e ∷ es) l h = h.1

-- an entry at the place is not 0
taken : (next n : ℕ) (es : List FreeEntry) (place : ℕ) → IsListed next n es → place < n → place ≡ first_place n es → is_zero (first_value es place) ≡ false
taken next n [] place h l e = absurd (omega arith)
taken next n (e ∷ es) place h l same = ap is_zero (here e place (sym same)) ∙ test_of_not_zero e.value h.2

-- an index stays within its list
still_within : (es : List FreeEntry) (i place : ℕ) → i ≤ length es → cond (is_zero (first_value (drop i es) place)) i (i + 1) ≤ length es
still_within es i place h = elim (cases_lt i (length es)) [
  | inl more ↦ at_most (is_zero (first_value (drop i es) place)) more
  | inr none ↦ rw (drop_all i es none) h
]
  where
    at_most : (b : Bool) → i < length es → cond b i (i + 1) ≤ length es
    at_most true l = omega arith
    at_most false l = omega arith

module _ (n : ℕ) (by : ℤ) (first : List FreeEntry) (times : ℤ) (second out : List FreeEntry) (i j : ℕ) (m : IsMerging n by first times second out i j) where
  -- there is room for an entry more
  pub out_length : length out ≤ m.next
  out_length = let all = listed_length 0 m.next out (omega arith) m.out_listed in omega arith

  -- what is left of both lists, as it is appended
  abbrev pub whole : List FreeEntry
  whole = (out ++ map (scaled by) (drop i first)) ++ map (scaled (neg_ℤ times)) (drop j second)

  -- when one list is done, the result with what is left of the other is the combination
  module _ (done : (length first ≤ i) ⊎ (length second ≤ j)) (p : by ≢ pos 0) (q : times ≢ pos 0) where
    part_listed : IsListed 0 n (out ++ map (scaled by) (drop i first))
    part_listed =
        listed_append 0 m.next n out (map (scaled by) (drop i first)) m.next_within m.out_listed (scaled_listed by m.next n (drop i first) p m.first_left)
        (omega arith)

    pub whole_listed : IsListed 0 n whole
    whole_listed = elim done [
      | inl one ↦
          subst (λ (l : List FreeEntry). IsListed 0 n ((out ++ map (scaled by) l) ++ map (scaled (neg_ℤ times)) (drop j second))) (sym (drop_all i first one))
          (rw (append-nil out) (listed_append 0 m.next n out (map (scaled (neg_ℤ times)) (drop j second)) m.next_within m.out_listed
          (scaled_listed (neg_ℤ times) m.next n (drop j second) (neg_not_zero times q) m.second_left) (omega arith)))
      | inr other ↦
          subst (λ (l : List FreeEntry). IsListed 0 n ((out ++ map (scaled by) (drop i first)) ++ map (scaled (neg_ℤ times)) l))
          (sym (drop_all j second other)) (rw (append-nil (out ++ map (scaled by) (drop i first))) part_listed)
    ]

    pub whole_is : (k : ℕ) → entry_at whole k ≡ by *ℤ entry_at first k -ℤ times *ℤ entry_at second k
    whole_is k =
        let one = entry_at-append (out ++ map (scaled by) (drop i first)) (map (scaled (neg_ℤ times)) (drop j second)) k in
        let two = entry_at-append out (map (scaled by) (drop i first)) k in
        let three = entry_at-scaled by (drop i first) k in
        let four = entry_at-scaled (neg_ℤ times) (drop j second) k ∙ neg-times times (entry_at (drop j second) k) in
        let is = m.is k in
        omega (arith, ints)

    -- so there is room for what is left of the first, and then of the second
    pub part_length : length out + length (drop i first) ≤ n
    part_length =
        let all = listed_length 0 n (out ++ map (scaled by) (drop i first)) (omega arith) part_listed in
        let one = length-append out (map (scaled by) (drop i first)) in
        let two = length-map (drop i first) (scaled by) in
        omega arith

    pub whole_length : length (out ++ map (scaled by) (drop i first)) + length (drop j second) ≤ n
    whole_length =
        let all = listed_length 0 n whole (omega arith) whole_listed in
        let one = length-append (out ++ map (scaled by) (drop i first)) (map (scaled (neg_ℤ times)) (drop j second)) in
        let two = length-map (drop j second) (scaled (neg_ℤ times)) in
        omega arith

  module _ (place : ℕ) (more : i + j < length first + length second) (l1 : place ≤ first_place n (drop i first)) (l2 : place ≤ first_place n (drop j second))
      (one : (place ≡ first_place n (drop i first)) ⊎ (place ≡ first_place n (drop j second))) where
    -- the place is one of the columns
    pub place_inside : place < n
    place_inside = elim (cases_lt i (length first)) [
      | inl some ↦ let here = first_inside m.next n (drop i first) (let all = length-drop i first in omega arith) m.first_left in omega arith
      | inr none ↦ let here = first_inside m.next n (drop j second) (let all = length-drop j second in let p = m.first_within in omega arith) m.second_left in
          omega arith
    ]

    -- after those that are done
    pub place_after : m.next ≤ place
    place_after = elim one [
      | inl same ↦ let here = first_after m.next n (drop i first) m.next_within m.first_left in omega arith
      | inr same ↦ let here = first_after m.next n (drop j second) m.next_within m.second_left in omega arith
    ]

    -- one place more is combined
    pub one_place_merged : (v : ℤ) → v ≡ by *ℤ first_value (drop i first) place -ℤ times *ℤ first_value (drop j second) place
        → IsMerging n by first times second (cond (is_zero v) out (out ++ record { place = place; value = v } ∷ []))
        (cond (is_zero (first_value (drop i first) place)) i (i + 1)) (cond (is_zero (first_value (drop j second) place)) j (j + 1))
    one_place_merged v value = record {
      next = place + 1;
      next_within = let inside = place_inside in omega arith;
      out_listed = listed;
      first_left = rw (rest_drop first i (is_zero (first_value (drop i first) place))) (rest_listed m.next n (drop i first) place m.first_left l1);
      second_left = rw (rest_drop second j (is_zero (first_value (drop j second) place))) (rest_listed m.next n (drop j second) place m.second_left l2);
      first_within = still_within first i place m.first_within;
      second_within = still_within second j place m.second_within;
      is = at;
    }
      where
        x : ℤ
        x = first_value (drop i first) place

        y : ℤ
        y = first_value (drop j second) place

        entry : FreeEntry
        entry = record { place = place; value = v }

        listed : IsListed 0 (place + 1) (cond (is_zero v) out (out ++ entry ∷ []))
        listed = elim (zero_or_not v) [
          | inl z ↦ rw (ap is_zero z) (listed_to 0 m.next (place + 1) out (let after = place_after in omega arith) m.out_listed)
          | inr some ↦ rw (test_of_not_zero v some) (listed_push 0 m.next (place + 1) out entry (omega arith) m.out_listed place_after (omega arith) some)
        ]

        grown : (k : ℕ) → entry_at (cond (is_zero v) out (out ++ entry ∷ [])) k ≡ entry_at out k +ℤ cond (nat_eq place k) v (pos 0)
        grown k = elim (zero_or_not v) [
          | inl z ↦ rw (ap is_zero z) (let none = zeros (nat_eq place k) v z in omega (arith, ints))
          | inr some ↦ rw (test_of_not_zero v some) (let both = entry_at-append out (entry ∷ []) k in omega (arith, ints))
        ]
          where
            zeros : (b : Bool) (z : ℤ) → z ≡ pos 0 → cond b z (pos 0) ≡ pos 0
            zeros true z e = e
            zeros false z e = refl

        here_value : (b : Bool) → cond b v (pos 0) ≡ by *ℤ cond b x (pos 0) -ℤ times *ℤ cond b y (pos 0)
        here_value true = value
        here_value false = let none = *ℤ-zero by in let other = *ℤ-zero times in omega (arith, ints)

        at : (k : ℕ) →
            entry_at (cond (is_zero v) out (out ++ entry ∷ [])) k +ℤ
            (by *ℤ entry_at (drop (cond (is_zero x) i (i + 1)) first) k -ℤ times *ℤ entry_at (drop (cond (is_zero y) j (j + 1)) second) k)
            ≡ by *ℤ entry_at first k -ℤ times *ℤ entry_at second k
        at k =
            let before = m.is k in
            let out_at = grown k in
            let value_at = here_value (nat_eq place k) in
            let first_at = ap (λ z. by *ℤ z) (rest_entry m.next n (drop i first) place m.first_left l1 k)
            ∙ times-add by (cond (nat_eq place k) x (pos 0)) (entry_at (cond (is_zero x) (drop i first) (drop 1 (drop i first))) k) in
            let second_at = ap (λ z. times *ℤ z) (rest_entry m.next n (drop j second) place m.second_left l2 k)
            ∙ times-add times (cond (nat_eq place k) y (pos 0)) (entry_at (cond (is_zero y) (drop j second) (drop 1 (drop j second))) k) in
            let first_rest = ap (λ l. by *ℤ entry_at l k) (rest_drop first i (is_zero x)) in
            let second_rest = ap (λ l. times *ℤ entry_at l k) (rest_drop second j (is_zero y)) in
            omega (arith, ints)

-- the first entry of what is left
module _ (es : List FreeEntry) (k : ℕ) (l : k < length es) where
  place_is : (n : ℕ) → first_place n (drop k es) ≡ (get_or es k none).place
  place_is n = ap (first_place n) (drop_entry es k none l)

  value_is : (place : ℕ) → (get_or es k none).place ≡ place → first_value (drop k es) place ≡ (get_or es k none).value
  value_is place same = ap (λ xs. first_value xs place) (drop_entry es k none l) ∙ here (get_or es k none) place same

  no_value : (place : ℕ) → (get_or es k none).place ≢ place → first_value (drop k es) place ≡ pos 0
  no_value place other = ap (λ xs. first_value xs place) (drop_entry es k none l) ∙ elsewhere (get_or es k none) place other

-- one step, by the order of the two places
module _ (n : ℕ) (by : ℤ) (first : List FreeEntry) (times : ℤ) (second out : List FreeEntry) (i j : ℕ) (m : IsMerging n by first times second out i j)
    (p : i < length first) (q : j < length second) where
  first_listed : IsListed m.next n (get_or first i none ∷ drop (suc i) first)
  first_listed = subst (IsListed m.next n) (drop_entry first i none p) m.first_left

  second_listed : IsListed m.next n (get_or second j none ∷ drop (suc j) second)
  second_listed = subst (IsListed m.next n) (drop_entry second j none q) m.second_left

  -- there is room for one entry more
  pub out_room : length out < n
  out_room = let all = out_length n by first times second out i j m in let after = first_listed.0 in let inside = first_listed.1 in omega arith

  abbrev with_entry : ℕ → ℤ → List FreeEntry
  with_entry place v = cond (is_zero v) out (out ++ record { place = place; value = v } ∷ [])

  -- an index goes on if there is a value, and stays if there is none
  on : (x y : ℤ) (k : ℕ) → x ≡ y → y ≢ pos 0 → cond (is_zero x) k (k + 1) ≡ k + 1
  on x y k e some = ap (λ z. cond (is_zero z) k (k + 1)) e ∙ ap (λ b. cond b k (k + 1)) (test_of_not_zero y some)

  stays : (x : ℤ) (k : ℕ) → x ≡ pos 0 → cond (is_zero x) k (k + 1) ≡ k
  stays x k e = ap (λ z. cond (is_zero z) k (k + 1)) e

  -- the first entry of the first list comes sooner
  pub first_merged : (v : ℤ) → (get_or first i none).place < (get_or second j none).place → v ≡ by *ℤ (get_or first i none).value →
      IsMerging n by first times second (with_entry (get_or first i none).place v) (i + 1) j
  first_merged v sooner is =
      let place = (get_or first i none).place in
      let x = value_is first i p place refl in
      let y = no_value second j q place (λ same. omega arith) in
      let at = place_is first i p n in
      let later = place_is second j q n in
      let value : v ≡ by *ℤ first_value (drop i first) place -ℤ times *ℤ first_value (drop j second) place = is
      ∙ (let a = ap (λ z. by *ℤ z) x in let b = ap (λ z. times *ℤ z) y ∙ *ℤ-zero times in omega (arith, ints)) in
      let step = one_place_merged n by first times second out i j m place (omega arith) (omega arith) (omega arith) (inl (sym at)) v value in
      subst (λ (k : ℕ). IsMerging n by first times second (with_entry place v) k j) (on _ _ i x first_listed.2)
      (subst (λ (k : ℕ). IsMerging n by first times second (with_entry place v) (cond (is_zero (first_value (drop i first) place)) i (i + 1)) k)
      (stays _ j y) step)

  -- the first entry of the second list comes sooner
  pub second_merged : (v : ℤ) → (get_or second j none).place < (get_or first i none).place → v ≡ neg_ℤ times *ℤ (get_or second j none).value →
      IsMerging n by first times second (with_entry (get_or second j none).place v) i (j + 1)
  second_merged v sooner is =
      let place = (get_or second j none).place in
      let x = no_value first i p place (λ same. omega arith) in
      let y = value_is second j q place refl in
      let at = place_is second j q n in
      let later = place_is first i p n in
      let value : v ≡ by *ℤ first_value (drop i first) place -ℤ times *ℤ first_value (drop j second) place =
      is
      ∙ (let a = ap (λ z. by *ℤ z) x ∙ *ℤ-zero by in let b = ap (λ z. times *ℤ z) y in let minus = neg-times times (get_or second j none).value in
      omega (arith, ints)) in
      let step = one_place_merged n by first times second out i j m place (omega arith) (omega arith) (omega arith) (inr (sym at)) v value in
      subst (λ (k : ℕ). IsMerging n by first times second (with_entry place v) i k) (on _ _ j y second_listed.2)
      (subst (λ (k : ℕ). IsMerging n by first times second (with_entry place v) k (cond (is_zero (first_value (drop j second) place)) j (j + 1)))
      (stays _ i x) step)

  -- both stand at one place
  pub both_merged : (v : ℤ) → (get_or first i none).place ≡ (get_or second j none).place →
      v ≡ by *ℤ (get_or first i none).value -ℤ times *ℤ (get_or second j none).value →
      IsMerging n by first times second (with_entry (get_or first i none).place v) (i + 1) (j + 1)
  both_merged v same is =
      let place = (get_or first i none).place in
      let x = value_is first i p place refl in
      let y = value_is second j q place (sym same) in
      let at = place_is first i p n in
      let also = place_is second j q n in
      let value : v ≡ by *ℤ first_value (drop i first) place -ℤ times *ℤ first_value (drop j second) place = is
      ∙ (let a = ap (λ z. by *ℤ z) x in let b = ap (λ z. times *ℤ z) y in omega (arith, ints)) in
      let step = one_place_merged n by first times second out i j m place (omega arith) (omega arith) (omega arith) (inl (sym at)) v value in
      subst (λ (k : ℕ). IsMerging n by first times second (with_entry place v) k (j + 1)) (on _ _ i x first_listed.2)
      (subst (λ (k : ℕ). IsMerging n by first times second (with_entry place v) (cond (is_zero (first_value (drop i first) place)) i (i + 1)) k)
      (on _ _ j y second_listed.2) step)

-- the end of a list, as the code takes it
pub end_is : (xs : List FreeEntry) (k : ℕ) → take (length xs - k) (drop k xs) ≡ drop k xs
end_is xs k = take_all (length xs - k) (drop k xs) (let len = length-drop k xs in omega arith)

-- the combination, as the code appends the ends of the lists
pub appended : (out one two first second : List FreeEntry) (by times minus : ℤ) (i j : ℕ)
    → one ≡ out ++ map (scaled by) (take (length first - i) (drop i first)) → two ≡ one ++ map (scaled minus) (take (length second - j) (drop j second))
    → minus ≡ neg_ℤ times
    → two ≡ (out ++ map (scaled by) (drop i first)) ++ map (scaled (neg_ℤ times)) (drop j second)
appended out one two first second by times minus i j e f g = rw (f, e, g, end_is first i, end_is second j) refl
