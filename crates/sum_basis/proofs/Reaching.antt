-- What a form with a new list reaches, by its counts.
use Rattle.std.proofs.Common.{◌≡◌, ◌≢◌, ℕ, suc, ◌+◌, ◌<◌, ◌≤◌, Bool, true, false, cond, ◌==◌, ℤ, pos, List, [], ◌∷◌, ◌++◌, ◌⊎◌, length, get_or, take, map, refl, sym, ap, ◌∙◌, subst, arith, inl, inr}
use Rattle.std.specs.Prelude.{◌*ℤ◌, ◌-ℤ◌, All, Contains}
use Rattle.std.proofs.lemmas.Int.{ints}
use Rattle.std.proofs.lemmas.Bool.{cases_eq, eq-eqb, ne_eqb, eqb-true, or_cases, true≢false}
use Rattle.std.proofs.lemmas.List.{take_more, take_all, get_or_past, get_or-map, length-map}
use Rattle.std.proofs.Math.IntN.{*ℤ_comm, *ℤ-zero}
use Rattle.audit_types.specs.Rows.{Rows, AreRows, has_row}
use Rattle.audit_types.specs.Truth.{number_at, sum_over}
use Rattle.audit_types.specs.Form.{set_row, InSpan, pivot}
use Rattle.audit_types.specs.ListLaws.{all-front}
use Rattle.audit_types.specs.PrimitiveLines.{times}
use Rattle.audit_types.specs.Direction.{is_pivot}
use Rattle.audit_types.specs.Numbers.{zero_or_not}
use Rattle.sum_basis.specs.Basis.{IsFreeList}
use Rattle.sum_basis.specs.Reach.{IsReached, ReachesAll, IsNear, AreCounts, one_if, met, without_new, count_with, rest_at}
use Rattle.sum_basis.specs.Elimination.{IsRemainder}
use Rattle.sum_basis.specs.Sparse.{entry_at, IsListed}
use Rattle.sum_basis.specs.declared.sparse.FreeEntry.{FreeEntry}
use Rattle.sum_basis.proofs.Along.{extent_is, column_below}
use Rattle.sum_basis.specs.Spans.{own}
use Rattle.sum_basis.proofs.Remainders.{span_from_left, span_to_left}
use Rattle.sum_basis.proofs.SparseRows.{zero_past}
use Rattle.sum_basis.proofs.NearColumns.{Tells, reached_if_near, near_if_reached}
use Rattle.sum_basis.proofs.WithinReach.{IsOff, HasGrown, row_value, column_value, set_value, new_value, same_free}

-- a test that decides what a value is told by
pub cond_false : (b : Bool) (m : ℕ) → b ≡ false → cond b 0 m ≡ m
cond_false b m e = ap (λ t. cond t 0 m) e

pub cond_true : (b : Bool) (m : ℕ) → b ≡ true → cond b 0 m ≡ 0
cond_true b m e = ap (λ t. cond t 0 m) e

-- ---- counting the rows

-- the count of the first k + 1 rows
count_more : (new : List FreeEntry) (rows : List (List ℤ)) (k j : ℕ) → k < length rows →
    count_with new (take (k + 1) rows) j ≡ count_with new (take k rows) j + one_if (without_new new (number_at (get_or rows k [])) j)
count_more new rows k j l = ap (λ r. count_with new r j) (take_more rows k [] l) ∙ push (take k rows) (get_or rows k [])
  where
    push : (front : List (List ℤ)) (row : List ℤ) → count_with new (front ++ row ∷ []) j ≡ count_with new front j + one_if (without_new new (number_at row) j)
    push [] row = omega arith
    push (first ∷ front) row = let rest = push front row in omega arith

-- the counts of the new list and of the first k rows
pub record AreFirstCounts (n : ℕ) (old : List (List ℤ)) (new : List FreeEntry) (grown : List (List ℤ)) (k : ℕ) (counts : List ℕ) : Type 0 where
  pub is : (j : ℕ) → get_or counts j 0 ≡ cond (is_pivot grown j) 0 (one_if (rest_at new j) + count_with new (take k old) j)

module _ (n : ℕ) (old : List (List ℤ)) (new : List FreeEntry) (grown : List (List ℤ)) (g : HasGrown n old new grown) where
  -- the new list after its first entry is 0 at the pivots
  pub rest_off : (j : ℕ) → is_pivot grown j ≡ true → rest_at new j ≡ pos 0
  rest_off j e = elim (zero_or_not (rest_at new j)) [ inl z ↦ z | inr some ↦ absurd (true≢false (sym e ∙ at new g some)) ]
    where
      at : (list : List FreeEntry) → HasGrown n old list grown → rest_at list j ≢ pos 0 → is_pivot grown j ≡ false
      at [] h some = absurd (some refl)
      at (x ∷ list) h some = ((new_value n old x list grown h).inside j some).1

  pub first_counts : (counts : List ℕ) → ((j : ℕ) → get_or counts j 0 ≡ one_if (rest_at new j)) → AreFirstCounts n old new grown 0 counts
  first_counts counts first = record { is = λ j. go j (is_pivot grown j) refl }
    where
      go : (j : ℕ) (b : Bool) → is_pivot grown j ≡ b → get_or counts j 0 ≡ cond (is_pivot grown j) 0 (one_if (rest_at new j) + 0)
      go j true e = let start = first j in let none = ap one_if (rest_off j e) in let test = cond_true (is_pivot grown j) (one_if (rest_at new j) + 0) e in
          omega arith
      go j false e = let start = first j in let test = cond_false (is_pivot grown j) (one_if (rest_at new j) + 0) e in omega arith

  -- the count of one row more
  pub row_counted : (k j : ℕ) (entries : List FreeEntry) → k < length old → IsFreeList n old (get_or old k []) entries →
      cond (is_pivot grown j) 0 (one_if (rest_at new j) + count_with new (take (k + 1) old) j)
      ≡ cond (is_pivot grown j) 0 (one_if (rest_at new j) + count_with new (take k old) j) + one_if (without_new new (entry_at entries) j)
  row_counted k j entries l free = go (is_pivot grown j) refl
    where
      go : (b : Bool) → is_pivot grown j ≡ b → cond (is_pivot grown j) 0 (one_if (rest_at new j) + count_with new (take (k + 1) old) j)
          ≡ cond (is_pivot grown j) 0 (one_if (rest_at new j) + count_with new (take k old) j) + one_if (without_new new (entry_at entries) j)
      go true e =
          let off : without_new new (entry_at entries) j ≡ pos 0 = elim (zero_or_not (without_new new (entry_at entries) j)) [
            | inl z ↦ z
            | inr some ↦ absurd (true≢false (sym e ∙ ((row_value n old new grown g k entries l free).inside j some).1))
          ] in
          let none = ap one_if off in
          let test = cond_true (is_pivot grown j) (one_if (rest_at new j) + count_with new (take k old) j) e in
          let after = cond_true (is_pivot grown j) (one_if (rest_at new j) + count_with new (take (k + 1) old) j) e in
          omega arith
      go false e =
          let same = ap one_if (same_free n old new grown g (get_or old k []) entries j free e) in
          let test = cond_false (is_pivot grown j) (one_if (rest_at new j) + count_with new (take k old) j) e in
          let after = cond_false (is_pivot grown j) (one_if (rest_at new j) + count_with new (take (k + 1) old) j) e in
          let count = count_more new old k j l in
          omega arith

  pub more_counts : (k : ℕ) (counts next : List ℕ) (entries : List FreeEntry) → k < length old → IsFreeList n old (get_or old k []) entries →
      ((j : ℕ) → get_or next j 0 ≡ get_or counts j 0 + one_if (without_new new (entry_at entries) j)) →
      AreFirstCounts n old new grown k counts → AreFirstCounts n old new grown (k + 1) next
  more_counts k counts next entries l free step before = record {
    is = λ j. let old_count = before.is j in let more = step j in let row = row_counted k j entries l free in omega arith;
  }

  pub all_counts : (k : ℕ) (counts : List ℕ) → length old ≤ k → length counts ≡ n → AreFirstCounts n old new grown k counts → AreCounts n grown counts
  all_counts k counts past long before = record { one_each = long; is = λ j. go j (is_pivot grown j) refl }
    where
      go : (j : ℕ) (b : Bool) → is_pivot grown j ≡ b → get_or counts j 0 ≡ cond (is_pivot grown j) 0 (met grown j)
      go j true e =
          let count = before.is j in
          let test = cond_true (is_pivot grown j) (one_if (rest_at new j) + count_with new (take k old) j) e in
          let after = cond_true (is_pivot grown j) (met grown j) e in
          omega arith
      go j false e =
          let count = before.is j in
          let all = ap (λ l. count_with new l j) (take_all k old past) in
          let is = g.count j e in
          let test = cond_false (is_pivot grown j) (one_if (rest_at new j) + count_with new (take k old) j) e in
          let after = cond_false (is_pivot grown j) (met grown j) e in
          omega arith

-- ---- reaching

-- a pivot is that of some row
pivot_found : (rows : List (List ℤ)) (i : ℕ) → is_pivot rows i ≡ true → (k : ℕ) × (k < length rows) × (pivot (get_or rows k []) ≡ i)
pivot_found [] i e = absurd (true≢false (sym e))
pivot_found (row ∷ rows) i e = elim (or_cases (pivot row == i) (is_pivot rows i) e) [
  | inl here ↦ (0, omega arith, eqb-true (pivot row) i here)
  | inr later ↦ let rest = pivot_found rows i later in (suc rest.0, omega arith, rest.2)
]

module _ (n : ℕ) (old : List (List ℤ)) (new : List FreeEntry) (grown : List (List ℤ)) (g : HasGrown n old new grown) (reach : ℕ) where
  -- if no free column has too many rows, whatever is asked is within reach
  pub all_few : (shared : List ℕ) (sets : List (List ℕ)) → ((j : ℕ) → j < n → is_pivot grown j ≡ false → met grown j < reach) →
      ReachesAll n reach shared sets grown
  all_few shared sets few = record { numbers = λ i l own. within (λ w. number_at w i); totals = λ set found. within (λ w. sum_over w set) }
    where
      within : (value : List ℤ → ℤ) → IsReached n reach grown value
      within value change =
          let long = extent_is n grown g.primitive g.echelon change.column change.direction change.along in
          let below = column_below n grown g.primitive g.echelon change.column change.direction change.along in
          let rows = few change.column below change.along.free in
          record { column = change.column; direction = change.direction; along = change.along; near = omega arith; changed = change.changed }

module _ (n : ℕ) (old : List (List ℤ)) (new : List FreeEntry) (grown : List (List ℤ)) (g : HasGrown n old new grown) (counts : List ℕ) (reach : ℕ)
    (are : AreCounts n grown counts) where
  counted : (j : ℕ) → j < n → is_pivot grown j ≡ false → get_or counts j 0 ≡ met grown j
  counted j l e = are.is j ∙ cond_false (is_pivot grown j) (met grown j) e

  -- a value is reached exactly if its row is near
  pub reached : (value : List ℤ → ℤ) (row : ℕ → ℤ) → Tells n grown value row → IsNear counts reach row → IsReached n reach grown value
  reached value row tells = reached_if_near n grown g.primitive g.echelon value row tells counts reach counted

  pub near : (value : List ℤ → ℤ) (row : ℕ → ℤ) → Tells n grown value row → IsReached n reach grown value → IsNear counts reach row
  near value row tells = near_if_reached n grown g.primitive g.echelon value row tells counts reach counted

  pub all_below : (shared : List ℕ) (sets : List (List ℕ)) → ((j : ℕ) → j < length counts → get_or counts j 0 < reach) →
      ReachesAll n reach shared sets grown
  all_below shared sets below = all_few n old new grown g reach shared sets (λ j l e.
      let all = are.one_each in let is = counted j l e in let small = below j (omega arith) in omega arith)

  -- a free column with a count below the reach
  spike_near : (i : ℕ) → get_or counts i 0 < reach → IsNear counts reach (λ j. cond (i == j) (pos 1) (pos 0))
  spike_near i small = λ j some. (i, λ none. (let one = sym (ap (λ b. cond b (pos 1) (pos 0)) (eq-eqb i i refl)) ∙ none in omega (arith, ints)), small)

  -- each column that isn't shared has a count below the reach, if the numbers are reached
  pub columns_near : (shared : List ℕ) (sets : List (List ℕ)) → 0 < reach → ReachesAll n reach shared sets grown →
      (j : ℕ) → j < n → has_row shared j ≡ false → get_or counts j 0 < reach
  columns_near shared sets some within j l own = go (is_pivot grown j) refl
    where
      go : (b : Bool) → is_pivot grown j ≡ b → get_or counts j 0 < reach
      go true e = let none = are.is j ∙ cond_true (is_pivot grown j) (met grown j) e in omega arith
      go false e =
          let q =
          near (λ w. number_at w j) (λ i. cond (j == i) (pos 1) (pos 0)) (column_value n old new grown g j l e) (within.numbers j l own) j
          (λ none. (let one = sym (ap (λ b. cond b (pos 1) (pos 0)) (eq-eqb j j refl)) ∙ none in omega (arith, ints))) in
          elim (cases_eq j q.0) [
            | inl same ↦ let count = ap (λ (i : ℕ). get_or counts i 0) same in let small = q.2 in omega arith
            | inr other ↦ absurd (q.1 (ap (λ b. cond b (pos 1) (pos 0)) (ne_eqb j q.0 other)))
          ]

  -- the pivot of the new list, and those of the rows
  pivot_cases : (i : ℕ) → is_pivot grown i ≡ true → (¬ (IsOff new i)) ⊎ (is_pivot old i ≡ true)
  pivot_cases i e = go (is_pivot old i) refl
    where
      go : (b : Bool) → is_pivot old i ≡ b → (¬ (IsOff new i)) ⊎ (is_pivot old i ≡ true)
      go true is = inr is
      go false is = inl (λ off. true≢false (sym e ∙ g.fresh i is off))

  -- all that is asked is reached
  pub all_within : (shared : List ℕ) (sets : List Rows) → ((j : ℕ) → j < n → has_row shared j ≡ false → get_or counts j 0 < reach) →
      (has_row shared (get_or new 0 (record { place = 0; value = pos 0 })).place ≡ false → IsNear counts reach (rest_at new)) →
      ((k : ℕ) → k < length old → has_row shared (pivot (get_or old k [])) ≡ false → IsReached n reach grown (λ w. number_at w (pivot (get_or old k [])))) →
      All (λ (s : Rows). IsReached n reach grown (λ w. sum_over w s.list)) sets → ReachesAll n reach shared (map (λ (s : Rows). s.list) sets) grown
  all_within shared sets columns at_new rows totals = record {
    numbers = λ i l own. go i l own (is_pivot grown i) refl;
    totals = λ set found.
        let k = found.0 in
        let d : Rows = record { n = 0; list = set } in
        let long = length-map sets (λ (s : Rows). s.list) in
        let inside : k < length sets = let below = found.1 in omega arith in
        let is : (get_or sets k d).list ≡ set = sym (get_or-map (λ (s : Rows). s.list) sets k d set inside) ∙ found.2 in
        subst (λ list. IsReached n reach grown (λ w. sum_over w list)) is (totals k d inside);
  }
    where
      new_case : (list : List FreeEntry) (h : HasGrown n old list grown) (i : ℕ) → ¬ (IsOff list i) → has_row shared i ≡ false →
          (has_row shared (get_or list 0 (record { place = 0; value = pos 0 })).place ≡ false → IsNear counts reach (rest_at list)) →
          IsReached n reach grown (λ w. number_at w i)
      new_case [] h i not_off own at_list = absurd (not_off tt)
      new_case (x ∷ list) h i not_off own at_list = elim (cases_eq x.place i) [
        | inl same ↦ subst (λ (p : ℕ). IsReached n reach grown (λ w. number_at w p)) same
            (reached (λ w. number_at w x.place) (rest_at (x ∷ list)) (new_value n old x list grown h) (at_list (ap (has_row shared) same ∙ own)))
        | inr other ↦ absurd (not_off other)
      ]

      go : (i : ℕ) → i < n → has_row shared i ≡ false → (b : Bool) → is_pivot grown i ≡ b → IsReached n reach grown (λ w. number_at w i)
      go i l own false e = reached (λ w. number_at w i) (λ j. cond (i == j) (pos 1) (pos 0)) (column_value n old new grown g i l e)
          (spike_near i (columns i l own))
      go i l own true e = elim (pivot_cases i e) [
        | inl not_off ↦ new_case new g i not_off own at_new
        | inr is ↦
            let k = pivot_found old i is in
            subst (λ (p : ℕ). IsReached n reach grown (λ w. number_at w p)) k.2 (rows k.0 k.1 (ap (has_row shared) k.2 ∙ own))
      ]

  -- and back: what the new list needs
  pub new_near : (shared : List ℕ) (sets : List (List ℕ)) → ReachesAll n reach shared sets grown →
      has_row shared (get_or new 0 (record { place = 0; value = pos 0 })).place ≡ false → IsNear counts reach (rest_at new)
  new_near shared sets within = go new g
    where
      go : (list : List FreeEntry) → HasGrown n old list grown → has_row shared (get_or list 0 (record { place = 0; value = pos 0 })).place ≡ false →
          IsNear counts reach (rest_at list)
      go [] h own = λ j some. absurd (some refl)
      go (x ∷ list) h own =
          near (λ w. number_at w x.place) (rest_at (x ∷ list)) (new_value n old x list grown h) (within.numbers x.place h.has_new.1.1 own)

-- what is left of a set's row tells what its total does
pub set_tells : (n : ℕ) (old : List (List ℤ)) (new : List FreeEntry) (grown : List (List ℤ)) → HasGrown n old new grown → (left : List ℤ) → length left ≡ n →
    (set : List ℕ) → AreRows n set → (rest : (m : ℕ) × (0 < m) × IsRemainder old (times (pos m) (set_row n set)) left) →
    Tells n grown (λ w. sum_over w set) (without_new new (number_at left))
set_tells n old new grown g left long set are rest =
    let with_left = all-front (InSpan (old ++ left ∷ [])) old left (own (old ++ left ∷ [])) in
    let with_set = all-front (InSpan (old ++ set_row n set ∷ [])) old (set_row n set) (own (old ++ set_row n set ∷ [])) in
    set_value n old new grown g left long rest.2.zeros set are
    (span_from_left old (set_row n set) left rest.0 rest.1 rest.2 (old ++ left ∷ []) with_left.0 with_left.1)
    (span_to_left old (set_row n set) left rest.0 rest.1 rest.2 (old ++ set_row n set ∷ []) with_set.0 with_set.1)

-- each set's list is among the lists
pub contains_list : (sets : List Rows) (k : ℕ) (d : Rows) → k < length sets → Contains (map (λ (s : Rows). s.list) sets) (get_or sets k d).list
contains_list sets k d l =
    let long = length-map sets (λ (s : Rows). s.list) in
    (k, omega arith, get_or-map (λ (s : Rows). s.list) sets k d (get_or sets k d).list l)

-- past the columns there is nothing
pub nothing_past : (n : ℕ) (new : List FreeEntry) (row : List ℤ) (j : ℕ) → IsListed 0 n new → length row ≤ j → n ≤ j → without_new new (number_at row) j ≡ pos 0
nothing_past n [] row j listed past l = get_or_past row j (pos 0) past
nothing_past n (e ∷ new) row j listed past l =
    let first = ap (λ z. e.value *ℤ z) (get_or_past row j (pos 0) past) ∙ *ℤ-zero e.value in
    let second = ap (λ z. number_at row e.place *ℤ z) (zero_past 0 n (e ∷ new) j listed l) ∙ *ℤ-zero (number_at row e.place) in
    omega (arith, ints)

-- what is left at a column, as the products that are compared
pub as_products : (new : List FreeEntry) (f : ℕ → ℤ) (j : ℕ) (d : FreeEntry) → 0 < length new →
    without_new new f j ≡ (get_or new 0 d).value *ℤ f j -ℤ entry_at new j *ℤ f (get_or new 0 d).place
as_products [] f j d some = absurd (omega arith)
as_products (e ∷ new) f j d some = ap (λ z. e.value *ℤ f j -ℤ z) (*ℤ_comm (f e.place) (entry_at (e ∷ new) j))
