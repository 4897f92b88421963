-- What the lists of kept rows tell of ties.
use Rattle.std.proofs.Common.{◌≡◌, ◌≢◌, ℕ, zero, suc, ◌+◌, ◌<◌, ◌≤◌, ◌^◌, ℤ, pos, List, [], ◌∷◌, ◌++◌, map, length, take, slice_index_or, refl, sym, ap, ◌∙◌, subst, arith, inl, inr, ◌⊎◌}
use Rattle.std.specs.Prelude.{◌+ℤ◌, ◌*ℤ◌, unsigned_abs}
use Rattle.std.specs.List.{AllByRecursion}
use Rattle.std.proofs.lemmas.Bool.{cases_eq, cases_order}
use Rattle.std.proofs.Math.IntN.{+ℤ_idl, *ℤ_comm, *ℤ-zero}
use Rattle.audit_types.specs.Truth.{number_at}
use Rattle.audit_types.specs.Form.{IsEchelon, StandsBefore, pivot}
use Rattle.audit_types.specs.Products.{times_assoc, product_not_zero}
use Rattle.sum_basis.specs.Elimination.{IsSmall}
use Rattle.sum_basis.proofs.Sizes.{small_at}
use Rattle.sum_basis.specs.Ties.{IsRowOf, IsShort, AreParallel, AreLikeLists}
use Rattle.sum_basis.specs.Sparse.{entry_at, row_of, rows_of, entries_of, scaled, IsListed, IsKept}
use Rattle.sum_basis.specs.declared.sparse.FreeEntry.{FreeEntry}
use Rattle.sum_basis.specs.declared.sparse.SparseRow.{SparseRow}
use Rattle.sum_basis.proofs.SparseRows.{elsewhere, zero_below, first_value, number_at-row_of, pivot-row_of}
use Rattle.sum_basis.proofs.ListContents.{entry_at-scaled}
use Rattle.sum_basis.proofs.Parallels.{same_listed}
use Rattle.sum_basis.proofs.OneKey.{cancelled}
use Rattle.sum_basis.proofs.Merges.{scaled_listed}

-- a kept row as a list of n numbers
abbrev pub line_of : ℕ → SparseRow → List ℤ
line_of n r = row_of n (entries_of r)

-- ---- one row

module _ (n : ℕ) (r : SparseRow) (kept : IsKept n r) where
  -- the row as a list of n numbers
  abbrev line : List ℤ
  line = row_of n (entries_of r)

  pub pivot_is : pivot line ≡ r.pivot
  pivot_is = pivot-row_of 0 n (record { place = r.pivot; value = r.head }) r.free.items kept.listed

  -- but for its pivot it has what its list has
  pub free_at : (j : ℕ) → j ≢ r.pivot → number_at line j ≡ entry_at r.free.items j
  free_at j apart =
      number_at-row_of 0 n (entries_of r) kept.listed j
      ∙ ap (λ z. z +ℤ entry_at r.free.items j) (elsewhere (record { place = r.pivot; value = r.head }) j (λ e. apart (sym e)))
      ∙ +ℤ_idl (entry_at r.free.items j)

  -- and its list has nothing there
  pub nothing_at_pivot : entry_at r.free.items r.pivot ≡ pos 0
  nothing_at_pivot = zero_below (r.pivot + 1) n r.free.items r.pivot kept.listed.3 (omega arith)

  -- a list of at most one entry is that of a short row
  pub short_from : length r.free.items ≤ 1 → IsShort line
  short_from few = by r.free.items refl few
    where
      by : (es : List FreeEntry) → r.free.items ≡ es → length es ≤ 1 → IsShort line
      by [] is few = (r.pivot, λ j first second. free_at j second ∙ ap (λ l. entry_at l j) is)
      by (e ∷ []) is few = (
        e.place,
        λ j first second.
            free_at j (λ same. first (same ∙ sym pivot_is)) ∙ ap (λ l. entry_at l j) is
            ∙ ap (λ z. z +ℤ pos 0) (elsewhere e j (λ same. second (sym same))),
      )
      by (e ∷ f ∷ es) is few = absurd (omega arith)

  -- and a short row has no longer one
  pub short_to : IsShort line → length r.free.items ≤ 1
  short_to (q, only) = by r.free.items refl kept.listed.3
    where
      by : (es : List FreeEntry) → r.free.items ≡ es → IsListed (r.pivot + 1) n es → length es ≤ 1
      by [] is listed = omega arith
      by (e ∷ []) is listed = omega arith
      by (e ∷ f ∷ es) is listed =
          let after = listed.0 in
          let later = listed.3.0 in
          let value_at : (j : ℕ) → j ≢ r.pivot → number_at line j ≡ entry_at (e ∷ f ∷ es) j = λ j apart. free_at j apart ∙ ap (λ l. entry_at l j) is in
          let first : entry_at (e ∷ f ∷ es) e.place ≡ e.value = first_value (r.pivot + 1) n e (f ∷ es) listed in
          let second : entry_at (e ∷ f ∷ es) f.place ≡ f.value =
          ap (λ z. z +ℤ entry_at (f ∷ es) f.place) (elsewhere e f.place (λ same. absurd (omega arith))) ∙ +ℤ_idl (entry_at (f ∷ es) f.place)
          ∙ first_value (e.place + 1) n f es listed.3 in
          elim (cases_eq e.place q) [
            | inl same ↦ absurd (listed.3.2 (sym second ∙ sym (value_at f.place (λ k. absurd (omega arith)))
                ∙ only f.place (λ k. absurd (let p = pivot_is in omega arith)) (λ k. absurd (omega arith))))
            | inr apart ↦ absurd (listed.2 (sym first ∙ sym (value_at e.place (λ k. absurd (omega arith)))
                ∙ only e.place (λ k. absurd (let p = pivot_is in omega arith)) apart))
          ]

-- where the row's entries are small, its list's are
small_values : (from n : ℕ) (es : List FreeEntry) → IsListed from n es → ((j : ℕ) → from ≤ j → unsigned_abs (entry_at es j) ≤ 2 ^ 56) →
    AllByRecursion (λ e. unsigned_abs e.value ≤ 2 ^ 56) es
small_values from n [] listed small = tt
small_values from n (e ∷ es) listed small = (
  subst (λ z. unsigned_abs z ≤ 2 ^ 56) (first_value from n e es listed) (small e.place listed.0),
  small_values (e.place + 1) n es listed.3
      (λ j later. subst (λ z. unsigned_abs z ≤ 2 ^ 56) (ap (λ z. z +ℤ entry_at es j) (elsewhere e j (λ same. absurd (omega arith))) ∙ +ℤ_idl (entry_at es j))
      (small j (let first = listed.0 in omega arith))),
)

small_list : (n : ℕ) (r : SparseRow) → IsKept n r → IsSmall (line_of n r) → AllByRecursion (λ e. unsigned_abs e.value ≤ 2 ^ 56) r.free.items
small_list n r kept small = small_values (r.pivot + 1) n r.free.items kept.listed.3
    (λ j later. subst (λ z. unsigned_abs z ≤ 2 ^ 56) (free_at n r kept j (λ same. absurd (omega arith))) (small_at (line_of n r) j small))

pub small_lists : (n : ℕ) (rows : List SparseRow) → AllByRecursion (IsKept n) rows → AllByRecursion IsSmall (rows_of n rows) →
    AllByRecursion (λ r. AllByRecursion (λ e. unsigned_abs e.value ≤ 2 ^ 56) r.free.items) rows
small_lists n [] kept small = tt
small_lists n (r ∷ rows) kept small = (small_list n r kept.0 small.0, small_lists n rows kept.1 small.1)

-- ---- lists

module _ (n from start : ℕ) (xs ys : List FreeEntry) (first : IsListed from n xs) (second : IsListed start n ys) where
  -- lists that have everywhere the same multiple are like each other
  pub like_from : (x y : ℤ) → x ≢ pos 0 → y ≢ pos 0 → 0 < length ys → ((j : ℕ) → x *ℤ entry_at xs j ≡ y *ℤ entry_at ys j) → AreLikeLists xs ys
  like_from x y x_some y_some some same = by xs ys refl refl first second
    where
      by : (es fs : List FreeEntry) → xs ≡ es → ys ≡ fs → IsListed from n es → IsListed start n fs → AreLikeLists es fs
      by [] [] is are p q = absurd (let none = ap length are in omega arith)
      by [] (f ∷ fs) is are p q =
          absurd (product_not_zero y f.value y_some q.2
          (ap (λ z. y *ℤ z) (sym (first_value start n f fs q)) ∙ ap (λ l. y *ℤ entry_at l f.place) (sym are) ∙ sym (same f.place)
          ∙ ap (λ l. x *ℤ entry_at l f.place) is ∙ *ℤ-zero x))
      by (e ∷ es) [] is are p q =
          absurd (product_not_zero x e.value x_some p.2
          (ap (λ z. x *ℤ z) (sym (first_value from n e es p)) ∙ ap (λ l. x *ℤ entry_at l e.place) (sym is) ∙ same e.place
          ∙ ap (λ l. y *ℤ entry_at l e.place) are ∙ *ℤ-zero y))
      by (e ∷ es) (f ∷ fs) is are p q =
          let at : (j : ℕ) → x *ℤ entry_at (e ∷ es) j ≡ y *ℤ entry_at (f ∷ fs) j = λ j.
          ap (λ l. x *ℤ entry_at l j) (sym is) ∙ same j ∙ ap (λ l. y *ℤ entry_at l j) are in
          let own_e = first_value from n e es p in
          let own_f = first_value start n f fs q in
          let place : e.place ≡ f.place = elim (cases_order e.place f.place) [
            | inl equal ↦ equal
            | inr other ↦ elim other [
              | inl before ↦ absurd (product_not_zero x e.value x_some p.2 (ap (λ z. x *ℤ z) (sym own_e) ∙ at e.place
                  ∙ ap (λ z. y *ℤ z) (zero_below f.place n (f ∷ fs) e.place (omega arith, q.1, q.2, q.3) before) ∙ *ℤ-zero y))
              | inr after ↦ absurd (product_not_zero y f.value y_some q.2 (ap (λ z. y *ℤ z) (sym own_f) ∙ sym (at f.place)
                  ∙ ap (λ z. x *ℤ z) (zero_below e.place n (e ∷ es) f.place (omega arith, p.1, p.2, p.3) after) ∙ *ℤ-zero x))
            ]
          ] in
          let values : x *ℤ e.value ≡ y *ℤ f.value = ap (λ z. x *ℤ z) (sym own_e) ∙ at e.place ∙ ap (λ k. y *ℤ entry_at (f ∷ fs) k) place
          ∙ ap (λ z. y *ℤ z) own_f in
          let cross : (j : ℕ) → f.value *ℤ entry_at (e ∷ es) j ≡ e.value *ℤ entry_at (f ∷ fs) j = λ j.
          cancelled x (f.value *ℤ entry_at (e ∷ es) j) (e.value *ℤ entry_at (f ∷ fs) j) x_some
          (sym (times_assoc x f.value (entry_at (e ∷ es) j)) ∙ ap (λ z. z *ℤ entry_at (e ∷ es) j) (*ℤ_comm x f.value)
          ∙ times_assoc f.value x (entry_at (e ∷ es) j)
          ∙ ap (λ z. f.value *ℤ z) (at j) ∙ sym (times_assoc f.value y (entry_at (f ∷ fs) j))
          ∙ ap (λ z. z *ℤ entry_at (f ∷ fs) j) (*ℤ_comm f.value y ∙ sym values)
          ∙ times_assoc x e.value (entry_at (f ∷ fs) j)) in
          same_listed 0 n (map (scaled f.value) (e ∷ es)) (map (scaled e.value) (f ∷ fs))
          (scaled_listed f.value 0 n (e ∷ es) q.2 (lower p)) (scaled_listed e.value 0 n (f ∷ fs) p.2 (lower_second q))
          (λ j. entry_at-scaled f.value (e ∷ es) j ∙ cross j ∙ sym (entry_at-scaled e.value (f ∷ fs) j))
        where
          lower : IsListed from n (e ∷ es) → IsListed 0 n (e ∷ es)
          lower h = (omega arith, h.1, h.2, h.3)

          lower_second : IsListed start n (f ∷ fs) → IsListed 0 n (f ∷ fs)
          lower_second h = (omega arith, h.1, h.2, h.3)

  -- and like lists have
  pub like_to : AreLikeLists xs ys → (x : ℤ) × (y : ℤ) × (x ≢ pos 0) × (y ≢ pos 0) × ((j : ℕ) → x *ℤ entry_at xs j ≡ y *ℤ entry_at ys j)
  like_to like = by xs ys like first second
    where
      by : (es fs : List FreeEntry) → AreLikeLists es fs → IsListed from n es → IsListed start n fs →
          (x : ℤ) × (y : ℤ) × (x ≢ pos 0) × (y ≢ pos 0) × ((j : ℕ) → x *ℤ entry_at es j ≡ y *ℤ entry_at fs j)
      by [] fs like p q = absurd like
      by (e ∷ es) [] like p q = absurd like
      by (e ∷ es) (f ∷ fs) like p q = (
        f.value,
        e.value,
        q.2,
        p.2,
        λ j. sym (entry_at-scaled f.value (e ∷ es) j) ∙ ap (λ l. entry_at l j) like ∙ entry_at-scaled e.value (f ∷ fs) j,
      )

-- ---- rows of a form

-- each row of the front part stands before the row after it
pub stands : (n : ℕ) (rows : List SparseRow) (k : ℕ) (r : SparseRow) → k < length rows → r ≡ slice_index_or rows k r → IsEchelon (rows_of n rows) →
    AllByRecursion (λ s. StandsBefore (line_of n s) (line_of n r)) (take k rows)
stands n [] k r h is e = absurd (omega arith)
stands n (s ∷ rows) zero r h is e = tt
stands n (s ∷ rows) (suc k) r h is e = (later rows k (omega arith) is e.0, stands n rows k r (omega arith) is e.1)
  where
    later : (rest : List SparseRow) (i : ℕ) → i < length rest → r ≡ slice_index_or rest i r → AllByRecursion (StandsBefore (line_of n s)) (rows_of n rest) →
        StandsBefore (line_of n s) (line_of n r)
    later [] i l at all = absurd (omega arith)
    later (q ∷ rest) zero l at all = subst (λ z. StandsBefore (line_of n s) (line_of n z)) (sym at) all.0
    later (q ∷ rest) (suc i) l at all = later rest i (omega arith) at all.1

-- what is true of each is true of each in front
pub all_front : {X : Type 0} (P : X → Type 0) (k : ℕ) (l : List X) → AllByRecursion P l → AllByRecursion P (take k l)
all_front P zero l all = tt
all_front P (suc k) [] all = tt
all_front P (suc k) (x ∷ l) all = (all.0, all_front P k l all.1)

-- and of the one at k
pub all_there : {X : Type 0} (P : X → Type 0) (k : ℕ) (l : List X) (x : X) → k < length l → x ≡ slice_index_or l k x → AllByRecursion P l → P x
all_there P k [] x h is all = absurd (omega arith)
all_there P zero (y ∷ l) x h is all = subst P (sym is) all.0
all_there P (suc k) (y ∷ l) x h is all = all_there P k l x (omega arith) is all.1

-- the one at k is a row
pub row_there : (n k : ℕ) (l : List SparseRow) (r : SparseRow) → k < length l → r ≡ slice_index_or l k r → IsRowOf (line_of n r) (rows_of n l)
row_there n k [] r h is = absurd (omega arith)
row_there n zero (y ∷ l) r h is = inl (ap (line_of n) (sym is))
row_there n (suc k) (y ∷ l) r h is = inr (row_there n k l r (omega arith) is)

-- and so is each in front
pub row_in_front : (n k : ℕ) (l : List SparseRow) (row : List ℤ) → IsRowOf row (rows_of n (take k l)) → IsRowOf row (rows_of n l)
row_in_front n zero l row h = absurd h
row_in_front n (suc k) [] row h = absurd h
row_in_front n (suc k) (y ∷ l) row (inl h) = inl h
row_in_front n (suc k) (y ∷ l) row (inr h) = inr (row_in_front n k l row h)

-- one more row
pub one_more : (n : ℕ) (front : List SparseRow) (r : SparseRow) (row : List ℤ) → IsRowOf row (rows_of n (front ++ r ∷ [])) → IsRowOf row (rows_of n front) ⊎
    (line_of n r ≡ row)
one_more n [] r row (inl h) = inr h
one_more n [] r row (inr h) = absurd h
one_more n (s ∷ front) r row (inl h) = inl (inl h)
one_more n (s ∷ front) r row (inr h) = elim (one_more n front r row h) [ inl among ↦ inl (inr among) | inr last ↦ inr last ]

pub turned : (row other : List ℤ) → AreParallel row other → AreParallel other row
turned row other p = record {
  apart = λ same. p.apart (sym same);
  x = p.y;
  y = p.x;
  x_some = p.y_some;
  y_some = p.x_some;
  is = λ j first second. sym (p.is j second first);
}

module _ (n : ℕ) (r : SparseRow) (kept : IsKept n r) where
  -- a row with a like list is parallel
  pub parallel_from : (s : SparseRow) → IsKept n s → StandsBefore (line_of n s) (line_of n r) → AreLikeLists s.free.items r.free.items →
      AreParallel (line_of n s) (line_of n r)
  parallel_from s own stand like =
      let (x, y, x_some, y_some, is) = like_to n (s.pivot + 1) (r.pivot + 1) s.free.items r.free.items own.listed.3 kept.listed.3 like in
      record {
        apart = λ same. absurd (let before = stand.0 in omega arith);
        x = x;
        y = y;
        x_some = x_some;
        y_some = y_some;
        is = λ j first second. ap (λ z. x *ℤ z) (free_at n s own j (λ e. first (e ∙ sym (pivot_is n s own)))) ∙ is j
            ∙ ap (λ z. y *ℤ z) (sym (free_at n r kept j (λ e. second (e ∙ sym (pivot_is n r kept)))));
      }

  -- and has one, if its list isn't empty
  pub parallel_to : (s : SparseRow) → IsKept n s → StandsBefore (line_of n s) (line_of n r) → 0 < length r.free.items →
      AreParallel (line_of n s) (line_of n r) →
      AreLikeLists s.free.items r.free.items
  parallel_to s own stand some p = like_from n (s.pivot + 1) (r.pivot + 1) s.free.items r.free.items own.listed.3 kept.listed.3 p.x p.y p.x_some p.y_some some
      at
    where
      apart : s.pivot ≢ r.pivot
      apart e = absurd (let before = stand.0 in let p = pivot_is n s own in let q = pivot_is n r kept in omega arith)

      at : (j : ℕ) → p.x *ℤ entry_at s.free.items j ≡ p.y *ℤ entry_at r.free.items j
      at j = elim (cases_eq j s.pivot) [
        | inl own_pivot ↦ ap (λ z. p.x *ℤ entry_at s.free.items z) own_pivot ∙ ap (λ z. p.x *ℤ z) (nothing_at_pivot n s own) ∙ *ℤ-zero p.x ∙ sym (*ℤ-zero p.y)
            ∙ ap (λ z. p.y *ℤ z) (sym stand.2 ∙ ap (number_at (line_of n r)) (pivot_is n s own) ∙ free_at n r kept s.pivot apart)
            ∙ ap (λ z. p.y *ℤ entry_at r.free.items z) (sym own_pivot)
        | inr first ↦ elim (cases_eq j r.pivot) [
          | inl other ↦ ap (λ z. p.x *ℤ entry_at s.free.items z) other
              ∙ ap (λ z. p.x *ℤ z) (sym (free_at n s own r.pivot (λ e. apart (sym e))) ∙ ap (number_at (line_of n s)) (sym (pivot_is n r kept)) ∙ stand.1)
              ∙ *ℤ-zero p.x ∙ sym (*ℤ-zero p.y)
              ∙ ap (λ z. p.y *ℤ z) (sym (nothing_at_pivot n r kept)) ∙ ap (λ z. p.y *ℤ entry_at r.free.items z) (sym other)
          | inr second ↦ ap (λ z. p.x *ℤ z) (sym (free_at n s own j first)) ∙ p.is j (λ e. first (e ∙ pivot_is n s own)) (λ e. second (e ∙ pivot_is n r kept))
              ∙ ap (λ z. p.y *ℤ z) (free_at n r kept j second)
        ]
      ]

-- the first k + 1
pub taken_next : (l : List SparseRow) (k : ℕ) (r : SparseRow) → k < length l → r ≡ slice_index_or l k r → take (suc k) l ≡ take k l ++ r ∷ []
taken_next [] k r h is = absurd (omega arith)
taken_next (s ∷ l) zero r h is = ap (λ z. z ∷ []) (sym is)
taken_next (s ∷ l) (suc k) r h is = ap (λ z. s ∷ z) (taken_next l k r (omega arith) is)

pub one_taken : (l : List SparseRow) (k : ℕ) (r : SparseRow) → k < length l → r ≡ slice_index_or l k r → take (k + 1) l ≡ take k l ++ r ∷ []
one_taken l k r h is = ap (λ m. take m l) same ∙ taken_next l k r h is
  where
    same : k + 1 ≡ suc k
    same = omega arith
