-- Counts of a form brought up to date for a new list.
use Rattle.std.proofs.Common.{◌≡◌, ◌≢◌, ℕ, ◌+◌, ◌<◌, ◌≤◌, nat_eq, Bool, true, false, cond, ℤ, pos, List, [], ◌∷◌, ◌++◌, length, get_or, set, take, drop, refl, sym, ap, ◌∙◌, subst, arith, inl, inr}
use Rattle.std.specs.Prelude.{◌+ℤ◌, ◌*ℤ◌, ◌-ℤ◌, Option, Vec, IfSome}
use Rattle.std.specs.declared.alloc.Global.{Global}
use Rattle.std.specs.List.{AllByRecursion}
use Rattle.std.proofs.lemmas.Int.{ints}
use Rattle.std.proofs.lemmas.Bool.{cases_eq, true≢false}
use Rattle.std.proofs.lemmas.List.{take_all, drop_more, get_or-set_same, get_or-set_other, length-set}
use Rattle.std.proofs.Math.ListN.{drop_of_length-le}
use Rattle.std.proofs.Math.IntN.{zero-*ℤ, *ℤ-zero}
use Rattle.audit_types.specs.Truth.{number_at}
use Rattle.audit_types.specs.Form.{IsPrimitive, IsEchelon, IsReducedForm}
use Rattle.audit_types.specs.FormRows.{lengths_of_form}
use Rattle.audit_types.specs.Direction.{is_pivot}
use Rattle.audit_types.specs.ListLaws.{all-push}
use Rattle.audit_types.specs.Numbers.{zero_or_not, test_of_not_zero}
use Rattle.audit_types.specs.Products.{zero_product, product_not_zero}
use Rattle.sum_basis.specs.Basis.{Echelon, IsFreeList}
use Rattle.sum_basis.specs.Elimination.{IsSmallForm}
use Rattle.sum_basis.specs.Holding.{AreKeptCounts}
use Rattle.sum_basis.specs.Reach.{IsGrownBy, AreCounts, one_if, met, without_new, count_with, times_of, rest_at}
use Rattle.sum_basis.specs.Sparse.{entry_at, row_of, IsListed, IsNew}
use Rattle.sum_basis.specs.declared.sparse.FreeEntry.{FreeEntry}
use Rattle.sum_basis.proofs.Along.{one_alike}
use Rattle.sum_basis.proofs.EveryRowSpaceHasAForm.{every_row_space_has_a_form}
use Rattle.sum_basis.proofs.SparseRows.{here, elsewhere, stands_within, front_zero, take_entry, length-row_of}
use Rattle.sum_basis.proofs.SmallEntries.{one_at_most}
use Rattle.sum_basis.proofs.Reaching.{cond_true, cond_false, rest_off, row_counted, all_counts}
use Rattle.sum_basis.proofs.WithinReach.{HasGrown, same_count, grown_by_none, row_value, same_free, place_open, product_less}

-- ---- one column

pub one_of_none : (x : ℤ) → x ≡ pos 0 → one_if x ≡ 0
one_of_none x e = ap one_if e

pub one_of_some : (x : ℤ) → x ≢ pos 0 → one_if x ≡ 1
one_of_some x some = ap (λ b. cond b 0 1) (test_of_not_zero x some)

-- where a row has nothing, a multiple of a value is taken
pub moved_in : (by before times value : ℤ) → before ≡ pos 0 → times ≢ pos 0 → value ≢ pos 0 → one_if (by *ℤ before -ℤ times *ℤ value) ≡ 1
moved_in by before times value e p q =
    one_of_some (by *ℤ before -ℤ times *ℤ value)
    (λ none. product_not_zero times value p q (let first = ap (λ z. by *ℤ z) e ∙ *ℤ-zero by in omega (arith, ints)))

-- what is left where the new list has a value
pub without_at : (new : List FreeEntry) (f : ℕ → ℤ) (d : FreeEntry) (place : ℕ) (value : ℤ) → 0 < length new → entry_at new place ≡ value →
    without_new new f place ≡ (get_or new 0 d).value *ℤ f place -ℤ times_of new f *ℤ value
without_at [] f d place value some e = absurd (omega arith)
without_at (x ∷ new) f d place value some e = ap (λ z. x.value *ℤ f place -ℤ f x.place *ℤ z) e

-- and where it is 0
pub alike_off : (n : ℕ) (new : List FreeEntry) (f : ℕ → ℤ) (j : ℕ) → IsListed 0 n new → entry_at new j ≡ pos 0 → one_if (f j) ≡ one_if (without_new new f j)
alike_off n [] f j listed e = refl
alike_off n (x ∷ new) f j listed e =
    one_alike (f j) (without_new (x ∷ new) f j) (λ none. product_less x.value (f j) (f x.place) (entry_at (x ∷ new) j) none e)
    (λ none. zero_product x.value (f j)
    (let second = ap (λ z. f x.place *ℤ z) e ∙ *ℤ-zero (f x.place) in omega (arith, ints)) listed.2)

-- a test leaves no more than the number
cond_most : (b : Bool) (m : ℕ) → cond b 0 m ≤ m
cond_most true m = omega arith
cond_most false m = omega arith

-- ---- one row

-- where the first k entries of the new list stand, the counts are those with the cleared row
pub record IsPartlyMoved (old counts : List ℕ) (new : List FreeEntry) (f : ℕ → ℤ) (k : ℕ) : Type 0 where
  pub long : length counts ≡ length old
  pub done : (j : ℕ) → entry_at (take k new) j ≢ pos 0 → get_or counts j 0 + one_if (f j) ≡ get_or old j 0 + one_if (without_new new f j)
  pub rest : (j : ℕ) → entry_at (take k new) j ≡ pos 0 → get_or counts j 0 ≡ get_or old j 0

pub none_moved : (old : List ℕ) (new : List FreeEntry) (f : ℕ → ℤ) → IsPartlyMoved old old new f 0
none_moved old new f = record { long = refl; done = λ j some. absurd (some refl); rest = λ j e. refl }

module _ (old counts : List ℕ) (new : List FreeEntry) (f : ℕ → ℤ) (k : ℕ) (d : FreeEntry) (listed : IsListed 0 (length old) new) (l : k < length new)
    (part : IsPartlyMoved old counts new f k) where
  -- where the next entry stands, the count is as it was
  pub not_yet_moved : get_or counts (get_or new k d).place 0 ≡ get_or old (get_or new k d).place 0
  not_yet_moved = part.rest (get_or new k d).place (front_zero 0 (length old) new k d listed l)

  pub place_moved : (get_or new k d).place < length counts
  place_moved = let at = (stands_within 0 (length old) new k d listed l).inside in let same = part.long in omega arith

  pub one_more_moved : (v : ℕ) →
      v + one_if (f (get_or new k d).place) ≡ get_or counts (get_or new k d).place 0 + one_if (without_new new f (get_or new k d).place) →
      IsPartlyMoved old (set counts (get_or new k d).place v) new f (k + 1)
  one_more_moved v is = record { long = length-set counts (get_or new k d).place v ∙ part.long; done = at; rest = off }
    where
      e : FreeEntry
      e = get_or new k d

      here_is : (j : ℕ) → e.place ≡ j → entry_at (take (k + 1) new) j ≡ e.value
      here_is j same =
          take_entry new k d j l
          ∙ ap (λ z. z +ℤ cond (nat_eq e.place j) e.value (pos 0)) (sym (ap (entry_at (take k new)) same) ∙ front_zero 0 (length old) new k d listed l)
          ∙ ap (λ z. pos 0 +ℤ z) (here e j same) ∙ (omega (arith, ints))

      other_is : (j : ℕ) → e.place ≢ j → entry_at (take (k + 1) new) j ≡ entry_at (take k new) j
      other_is j other = take_entry new k d j l ∙ ap (λ z. entry_at (take k new) j +ℤ z) (elsewhere e j other) ∙ (omega (arith, ints))

      at : (j : ℕ) → entry_at (take (k + 1) new) j ≢ pos 0 → get_or (set counts e.place v) j 0 + one_if (f j) ≡ get_or old j 0 + one_if (without_new new f j)
      at j some = elim (cases_eq e.place j) [
        | inl same ↦
            subst (λ (i : ℕ). get_or (set counts e.place v) i 0 + one_if (f i) ≡ get_or old i 0 + one_if (without_new new f i)) same
            (let written = get_or-set_same counts e.place v 0 place_moved in let before = not_yet_moved in omega (arith, is))
        | inr other ↦
            let kept = get_or-set_other counts e.place j v 0 (λ same. other (sym same)) in
            let before = part.done j (λ none. some (other_is j other ∙ none)) in
            omega arith
      ]

      off : (j : ℕ) → entry_at (take (k + 1) new) j ≡ pos 0 → get_or (set counts e.place v) j 0 ≡ get_or old j 0
      off j none = elim (cases_eq e.place j) [
        | inl same ↦ absurd ((stands_within 0 (length old) new k d listed l).some (sym (here_is j same) ∙ none))
        | inr other ↦ get_or-set_other counts e.place j v 0 (λ same. other (sym same)) ∙ part.rest j (sym (other_is j other) ∙ none)
      ]

pub all_moved : (old counts : List ℕ) (new : List FreeEntry) (f : ℕ → ℤ) (k : ℕ) → IsListed 0 (length old) new → length new ≤ k →
    IsPartlyMoved old counts new f k →
    (j : ℕ) → get_or counts j 0 + one_if (f j) ≡ get_or old j 0 + one_if (without_new new f j)
all_moved old counts new f k listed past part j =
    let all = ap (λ l. entry_at l j) (take_all k new past) in
    elim (zero_or_not (entry_at new j)) [
      | inl none ↦ let same = part.rest j (all ∙ none) in let one = alike_off (length old) new f j listed none in omega arith
      | inr some ↦ part.done j (λ none. some (sym all ∙ none))
    ]

-- ---- all rows

-- the counts with the first k rows cleared, and the others as they are
pub record AreMoved (n : ℕ) (old : List (List ℤ)) (new : List FreeEntry) (grown : List (List ℤ)) (k : ℕ) (counts : List ℕ) : Type 0 where
  pub is : (j : ℕ) → get_or counts j 0
      ≡ cond (is_pivot grown j) 0 (one_if (rest_at new j) + count_with new (take k old) j) + cond (is_pivot old j) 0 (met (drop k old) j)

module _ (n : ℕ) (old : List (List ℤ)) (new : List FreeEntry) (grown : List (List ℤ)) (g : HasGrown n old new grown)
    (primitive : AllByRecursion (IsPrimitive n) old) (echelon : IsEchelon old) where
  -- the count of a row as it is
  row_left : (k j : ℕ) (entries : List FreeEntry) → k < length old → IsFreeList n old (get_or old k []) entries →
      cond (is_pivot old j) 0 (met (drop k old) j) ≡ one_if (entry_at entries j) + cond (is_pivot old j) 0 (met (drop (k + 1) old) j)
  row_left k j entries l free = go (is_pivot old j) refl
    where
      as_it_is : HasGrown n old [] old
      as_it_is = grown_by_none n old primitive echelon

      go : (b : Bool) → is_pivot old j ≡ b →
          cond (is_pivot old j) 0 (met (drop k old) j) ≡ one_if (entry_at entries j) + cond (is_pivot old j) 0 (met (drop (k + 1) old) j)
      go true e =
          let off : entry_at entries j ≡ pos 0 = elim (zero_or_not (entry_at entries j)) [
            | inl z ↦ z
            | inr some ↦ absurd (true≢false (sym e ∙ ((row_value n old [] old as_it_is k entries l free).inside j some).1))
          ] in
          let none = ap one_if off in
          let test = cond_true (is_pivot old j) (met (drop k old) j) e in
          let after = cond_true (is_pivot old j) (met (drop (k + 1) old) j) e in
          omega arith
      go false e =
          let same = ap one_if (same_free n old [] old as_it_is (get_or old k []) entries j free e) in
          let test = cond_false (is_pivot old j) (met (drop k old) j) e in
          let after = cond_false (is_pivot old j) (met (drop (k + 1) old) j) e in
          let split = ap (λ rows. met rows j) (drop_more old k [] l) in
          omega arith

  pub first_moved : (counts : List ℕ) → ((j : ℕ) → get_or counts j 0 ≡ cond (is_pivot old j) 0 (met old j) + one_if (rest_at new j)) →
      AreMoved n old new grown 0 counts
  first_moved counts first = record { is = λ j. go j (is_pivot grown j) refl }
    where
      go : (j : ℕ) (b : Bool) → is_pivot grown j ≡ b →
          get_or counts j 0 ≡ cond (is_pivot grown j) 0 (one_if (rest_at new j) + 0) + cond (is_pivot old j) 0 (met old j)
      go j true e =
          let start = first j in
          let none = ap one_if (rest_off n old new grown g j e) in
          let test = cond_true (is_pivot grown j) (one_if (rest_at new j) + 0) e in
          omega arith
      go j false e = let start = first j in let test = cond_false (is_pivot grown j) (one_if (rest_at new j) + 0) e in omega arith

  pub more_moved : (k : ℕ) (counts next : List ℕ) (entries : List FreeEntry) → k < length old → IsFreeList n old (get_or old k []) entries →
      ((j : ℕ) → get_or next j 0 + one_if (entry_at entries j) ≡ get_or counts j 0 + one_if (without_new new (entry_at entries) j)) →
      AreMoved n old new grown k counts → AreMoved n old new grown (k + 1) next
  more_moved k counts next entries l free step before = record {
    is = λ j.
        let was = before.is j in
        let more = step j in
        let cleared = row_counted n old new grown g k j entries l free in
        let left = row_left k j entries l free in
        omega arith;
  }

  -- a row that isn't cleared yet is counted
  pub counts_row : (k : ℕ) (counts : List ℕ) (entries : List FreeEntry) → k < length old → IsFreeList n old (get_or old k []) entries →
      AreMoved n old new grown k counts → (j : ℕ) → one_if (entry_at entries j) ≤ get_or counts j 0
  counts_row k counts entries l free before j = let was = before.is j in let left = row_left k j entries l free in omega arith

  pub all_rows_moved : (k : ℕ) (counts : List ℕ) → length old ≤ k → length counts ≡ n → AreMoved n old new grown k counts → AreCounts n grown counts
  all_rows_moved k counts past long before = all_counts n old new grown g k counts past long (record { is = λ j. go j (is_pivot old j) refl })
    where
      go : (j : ℕ) (b : Bool) → is_pivot old j ≡ b →
          get_or counts j 0 ≡ cond (is_pivot grown j) 0 (one_if (rest_at new j) + count_with new (take k old) j)
      go j b e =
          let was = before.is j in
          let none = ap (λ rows. met rows j) (drop_of_length-le old past) in
          let most = cond_most (is_pivot old j) (met (drop k old) j) in
          omega arith

-- a form with a new list, or with none, has a reduced form
pub some_grown : (form : Echelon) (new : List FreeEntry) → IsSmallForm form.n form.rows → (grown : List (List ℤ)) × IsGrownBy form new grown
some_grown form [] f = (form.rows, refl)
some_grown form (e ∷ new) f =
    every_row_space_has_a_form form.n (form.rows ++ row_of form.n (e ∷ new) ∷ [])
    (all-push (λ r. length r ≡ form.n) form.rows (row_of form.n (e ∷ new)) (lengths_of_form form.n form.rows f.primitive) (length-row_of form.n (e ∷ new)))

-- ---- how large counts are

met_few : (rows : List (List ℤ)) (j : ℕ) → met rows j ≤ length rows
met_few [] j = omega arith
met_few (row ∷ rows) j = let one = one_at_most (number_at row j) in let rest = met_few rows j in omega arith

pub first_few : (rows : List (List ℤ)) (j : ℕ) → cond (is_pivot rows j) 0 (met rows j) ≤ length rows
first_few rows j = let most = cond_most (is_pivot rows j) (met rows j) in let few = met_few rows j in omega arith

pub counts_few : (n : ℕ) (form : List (List ℤ)) (counts : List ℕ) → AreCounts n form counts → (j : ℕ) → get_or counts j 0 ≤ length form
counts_few n form counts are j = let is = are.is j in let few = first_few form j in omega arith

-- ---- bounds of the counts with a new list

-- where the new list is 0, no row is counted anew
count_off : (x : FreeEntry) (new : List FreeEntry) (rows : List (List ℤ)) (j : ℕ) → entry_at (x ∷ new) j ≡ pos 0 → count_with (x ∷ new) rows j ≤ met rows j
count_off x new [] j e = omega arith
count_off x new (row ∷ rows) j e =
    let rest = count_off x new rows j e in
    let most = one_at_most (without_new (x ∷ new) (number_at row) j) in
    elim (zero_or_not (number_at row j)) [
      | inl none ↦
          let zero = ap one_if (product_less x.value (number_at row j) (number_at row x.place) (entry_at (x ∷ new) j) none e) in
          let was = ap one_if none in
          omega arith
      | inr some ↦ let was = one_of_some (number_at row j) some in omega arith
    ]

-- elsewhere only those with an entry at its pivot are
count_on : (x : FreeEntry) (new : List FreeEntry) (rows : List (List ℤ)) (j : ℕ) → count_with (x ∷ new) rows j ≤ met rows j + met rows x.place
count_on x new [] j = omega arith
count_on x new (row ∷ rows) j =
    let rest = count_on x new rows j in
    let most = one_at_most (without_new (x ∷ new) (number_at row) j) in
    elim (zero_or_not (number_at row j)) [
      | inl none ↦ elim (zero_or_not (number_at row x.place)) [
        | inl clear ↦
            let first = ap (λ z. x.value *ℤ z) none ∙ *ℤ-zero x.value in
            let second = ap (λ z. z *ℤ entry_at (x ∷ new) j) clear ∙ zero-*ℤ (entry_at (x ∷ new) j) in
            let zero = one_of_none (without_new (x ∷ new) (number_at row) j) (omega (arith, ints)) in
            omega arith
        | inr at ↦ let was = one_of_some (number_at row x.place) at in omega arith
      ]
      | inr some ↦ let was = one_of_some (number_at row j) some in omega arith
    ]

module _ (n : ℕ) (old : List (List ℤ)) (grown : List (List ℤ)) (counts : List ℕ) (reach : ℕ) (are : AreCounts n old counts)
    (below : (j : ℕ) → j < length counts → get_or counts j 0 < reach) (j : ℕ) (inside : j < n) (open_here : is_pivot grown j ≡ false) where
  free_count : (i : ℕ) → is_pivot old i ≡ false → get_or counts i 0 ≡ met old i
  free_count i e = are.is i ∙ cond_false (is_pivot old i) (met old i) e

  -- so bounds may show that no free column has too many rows with the new list
  pub surely_few : (new : List FreeEntry) (d : FreeEntry) → HasGrown n old new grown →
      ((i : ℕ) → rest_at new i ≢ pos 0 → get_or counts i 0 + get_or counts (get_or new 0 d).place 0 + 1 < reach) → met grown j < reach
  surely_few [] d g with_new =
      let count = g.count j open_here in
      let same = same_count old j in
      let is = free_count j (g.free j open_here) in
      let all = are.one_each in
      let small = below j (omega arith) in
      omega arith
  surely_few (x ∷ new) d g with_new =
      let count = g.count j open_here in
      let is = free_count j (g.free j open_here) in
      let all = are.one_each in
      let small = below j (omega arith) in
      elim (zero_or_not (rest_at (x ∷ new) j)) [
        | inl none ↦
            let first = elsewhere x j (g.off j open_here) in
            let off = count_off x new old j (omega (arith, ints)) in
            let one = ap one_if none in
            omega arith
        | inr some ↦
            let at = free_count x.place (place_open n old (x ∷ new) grown g x new g.has_new.1 g.zeros) in
            let bound = with_new j some in
            let on = count_on x new old j in
            let one = one_at_most (rest_at (x ∷ new) j) in
            omega arith
      ]

-- the counts of the form with the list of a new row are kept with the form that it has become
pub counts_joined : (old new : Echelon) (list taken : List FreeEntry) (counts : Option (Vec ℕ Global)) → IsNew old.n taken → list ≡ taken → new.n ≡ old.n →
    IsReducedForm old.n (old.rows ++ row_of old.n taken ∷ []) new.rows →
    ((grown : List (List ℤ)) → IsGrownBy old list grown → IfSome counts (λ c. AreCounts old.n grown c.items)) → AreKeptCounts new counts
counts_joined old new [] taken counts is same n reduced told = absurd (let some = is.some in let none = ap length same in omega arith)
counts_joined old new (e ∷ list) taken counts is same n reduced told =
    subst (λ (m : ℕ). IfSome counts (λ c. AreCounts m new.rows c.items)) (sym n)
    (told new.rows (subst (λ l. IsReducedForm old.n (old.rows ++ row_of old.n l ∷ []) new.rows) (sym same) reduced))
