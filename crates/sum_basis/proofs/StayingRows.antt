-- What stays when a new row joins a form, the rows that are 0 at its pivot, and what becomes of the others.
use Rattle.std.proofs.Common.{◌≡◌, ◌≢◌, ℕ, suc, ◌+◌, ◌<◌, Bool, true, false, ◌||◌, ◌==◌, ℤ, pos, List, [], ◌∷◌, ◌++◌, length, get_or, refl, sym, ap, ◌∙◌, subst, arith, inl, inr, ◌⊎◌}
use Rattle.std.specs.Prelude.{◌-ℤ◌, ◌*ℤ◌}
use Rattle.std.specs.List.{AllByRecursion}
use Rattle.std.proofs.lemmas.Int.{ints}
use Rattle.std.proofs.lemmas.Bool.{ne_eqb, true≢false}
use Rattle.audit_types.specs.Truth.{number_at}
use Rattle.audit_types.specs.Direction.{is_pivot}
use Rattle.audit_types.specs.Form.{IsReducedForm, pivot, pivot_entry}
use Rattle.audit_types.specs.Numbers.{positive_not_zero}
use Rattle.sum_basis.specs.Basis.{Echelon, IsFreeList}
use Rattle.sum_basis.specs.Elimination.{IsSmallForm}
use Rattle.sum_basis.specs.Growth.{IsLeftOver}
use Rattle.sum_basis.specs.Sparse.{entry_at, row_of, IsListed}
use Rattle.sum_basis.specs.Ties.{IsRowOf}
use Rattle.sum_basis.specs.declared.sparse.FreeEntry.{FreeEntry}
use Rattle.sum_basis.specs.Keys.{IsListOfColumn, own_entry}
use Rattle.sum_basis.proofs.ColumnPoints.{first_free}
use Rattle.sum_basis.proofs.GrownForms.{grown_is, not_pivots, of_own}
use Rattle.sum_basis.proofs.KeptForms.{row_among}
use Rattle.sum_basis.proofs.OwnRows.{pivot_or_none}
use Rattle.sum_basis.proofs.SparseRows.{elsewhere, first_value}
use Rattle.sum_basis.proofs.SpansWithOneMore.{first_place}

-- a column that is no pivot, by the test
free_to : (rows : List (List ℤ)) (j : ℕ) → AllByRecursion (λ other. pivot other ≢ j) rows → is_pivot rows j ≡ false
free_to [] j h = refl
free_to (r ∷ rows) j h = ap (λ b. b || is_pivot rows j) (ne_eqb (pivot r) j h.0) ∙ free_to rows j h.1

-- where a row stands
place_of : (rows : List (List ℤ)) (row : List ℤ) → IsRowOf row rows → (k : ℕ) × (k < length rows) × (get_or rows k [] ≡ row)
place_of [] row among = absurd among
place_of (r ∷ rows) row (inl same) = (0, omega arith, same)
place_of (r ∷ rows) row (inr among) = let (k, within, is) = place_of rows row among in (suc k, omega arith, is)

-- a row of the form, and its list, as they stand in the new one
pub record StaysAt (old new : Echelon) (k : ℕ) : Type 0 where
  pub place : ℕ
  pub within : place < length new.rows
  pub same : get_or new.rows place [] ≡ get_or old.rows k []
  pub free : (entries : List FreeEntry) → IsFreeList old.n old.rows (get_or old.rows k []) entries →
      IsFreeList new.n new.rows (get_or new.rows place []) entries

module _ (old new : Echelon) (list : List FreeEntry) (d : FreeEntry) (f : IsSmallForm old.n old.rows) (left : IsLeftOver old list) (n : new.n ≡ old.n)
    (reduced : IsReducedForm old.n (old.rows ++ row_of old.n list ∷ []) new.rows) where
  abbrev joined : List ℤ
  joined = row_of old.n list

  pivots_are : (j : ℕ) → is_pivot new.rows j ≡ ((pivot joined == j) || is_pivot old.rows j)
  pivots_are = (grown_is old.n joined left.0.primitive old.rows new.rows f.primitive f.echelon left.1 reduced).pivots

  -- a pivot of the new form is that of the new row, or one of the old form
  pub pivot_before : (j : ℕ) → pivot joined ≢ j → is_pivot new.rows j ≡ true → is_pivot old.rows j ≡ true
  pivot_before j apart h = sym (ap (λ b. b || is_pivot old.rows j) (ne_eqb (pivot joined) j apart)) ∙ sym (pivots_are j) ∙ h

  -- a column that is no pivot of the new form is none of the old one
  pub still_free : (j : ℕ) → AllByRecursion (λ other. pivot other ≢ j) new.rows → AllByRecursion (λ other. pivot other ≢ j) old.rows
  still_free j h = not_pivots old.rows j (go (pivot joined == j) (sym (pivots_are j) ∙ free_to new.rows j h))
    where
      go : (b : Bool) → (b || is_pivot old.rows j) ≡ false → is_pivot old.rows j ≡ false
      go true e = absurd (true≢false e)
      go false e = e

  -- and back, if the new row's pivot stands elsewhere
  pub now_free : (j : ℕ) → pivot joined ≢ j → AllByRecursion (λ other. pivot other ≢ j) old.rows → AllByRecursion (λ other. pivot other ≢ j) new.rows
  now_free j apart h =
      not_pivots new.rows j (pivots_are j ∙ ap (λ b. b || is_pivot old.rows j) (ne_eqb (pivot joined) j apart) ∙ free_to old.rows j h)

  -- a list that has no entry at the new pivot
  all_free : (from : ℕ) (entries : List FreeEntry) → IsListed from old.n entries → entry_at entries (pivot joined) ≡ pos 0 →
      AllByRecursion (λ (e : FreeEntry). AllByRecursion (λ other. pivot other ≢ e.place) old.rows) entries →
      AllByRecursion (λ (e : FreeEntry). AllByRecursion (λ other. pivot other ≢ e.place) new.rows) entries
  all_free from [] listed none free = tt
  all_free from (e ∷ entries) listed none free = (now_free e.place apart free.0, all_free (e.place + 1) entries listed.3 rest free.1)
    where
      apart : pivot joined ≢ e.place
      apart same = listed.2 (sym (first_value from old.n e entries listed) ∙ ap (entry_at (e ∷ entries)) (sym same) ∙ none)

      rest : entry_at entries (pivot joined) ≡ pos 0
      rest = let first = elsewhere e (pivot joined) (λ same. apart (sym same)) in omega (arith, ints)

  module _ (k : ℕ) (within : k < length old.rows) (zero_there : number_at (get_or old.rows k []) (get_or list 0 d).place ≡ pos 0) where
    abbrev row : List ℤ
    row = get_or old.rows k []

    zero_at_new : number_at row (pivot joined) ≡ pos 0
    zero_at_new = ap (number_at row) (first_place old.n list d left.0.some left.0.listed) ∙ zero_there

    list_stays : (entries : List FreeEntry) → IsFreeList old.n old.rows row entries → IsFreeList old.n new.rows row entries
    list_stays entries h = record {
      listed = h.listed;
      free = all_free 0 entries h.listed (at_new (pivot_or_none old.rows (pivot joined))) h.free;
      is = λ j none. h.is j (still_free j none);
    }
      where
        at_new : ((m : ℕ) × (m < length old.rows) × (pivot (get_or old.rows m []) ≡ pivot joined)) ⊎
            AllByRecursion (λ other. pivot other ≢ pivot joined) old.rows → entry_at entries (pivot joined) ≡ pos 0
        at_new (inl found) =
            let other = get_or old.rows found.0 [] in
            let none = of_own (λ r. number_at joined (pivot r) ≡ pos 0) old.rows other left.1 (row_among old.rows found.0 found.1) in
            absurd (positive_not_zero (pivot_entry joined) left.0.primitive.leading (ap (number_at joined) (sym found.2) ∙ none))
        at_new (inr none) = h.is (pivot joined) none ∙ zero_at_new

    pub row_stays : StaysAt old new k
    row_stays =
        let (made, among, lined) = (grown_is old.n joined left.0.primitive old.rows new.rows f.primitive f.echelon left.1 reduced).row k within in
        let (place, there, is) = place_of new.rows made among in
        let same : get_or new.rows place [] ≡ row = is ∙ lined.stays zero_at_new in
        record {
          place = place;
          within = there;
          same = same;
          free = λ entries h. subst (λ m. IsFreeList m new.rows (get_or new.rows place []) entries) (sym n)
              (subst (λ r. IsFreeList old.n new.rows r entries) (sym same) (list_stays entries h));
        }

-- what is left of a column stays, if the new list meets nothing of it
pub column_stays : (old new : Echelon) (e : FreeEntry) (list : List FreeEntry) (q : ℕ) (entries : List FreeEntry) → IsSmallForm old.n old.rows →
    IsLeftOver old (e ∷ list) → new.n ≡ old.n → IsReducedForm old.n (old.rows ++ row_of old.n (e ∷ list) ∷ []) new.rows →
    IsListOfColumn old q entries → entry_at entries e.place ≡ pos 0 → IsListOfColumn new q entries
column_stays old new e list q entries f left n reduced (inl (k, within, at, free)) none =
    let stays = row_stays old new (e ∷ list) e f left n reduced k within (sym (free.is e.place (first_free old e list left)) ∙ none) in
    inl (stays.place, stays.within, ap pivot stays.same ∙ at, stays.free entries free)
column_stays old new e list q entries f left n reduced (inr (free, own)) none =
    inr (now_free old new (e ∷ list) e f left n reduced q apart free, own)
  where
    apart : pivot (row_of old.n (e ∷ list)) ≢ q
    apart same =
        let at : e.place ≡ q = sym (first_place old.n (e ∷ list) e left.0.some left.0.listed) ∙ same in
        let value : entry_at (own_entry q) q ≡ pos 1 =
        first_value 0 (q + 1) (record { place = q; value = pos 1 }) [] (omega arith, omega arith, (λ z. omega (arith, ints)), tt) in
        let there : entry_at (own_entry q) q ≡ pos 0 = ap (λ es. entry_at es q) (sym own) ∙ ap (entry_at entries) (sym at) ∙ none in
        omega (arith, ints)

-- a row that the new list touches, and the row that it becomes
pub record IsClearedAt (old new : Echelon) (list : List FreeEntry) (k : ℕ) : Type 0 where
  pub place : ℕ
  pub within : place < length new.rows
  pub same_pivot : pivot (get_or new.rows place []) ≡ pivot (get_or old.rows k [])
  pub by : ℤ
  pub is : (j : ℕ) → pivot_entry (row_of old.n list) *ℤ number_at (get_or old.rows k []) j
      -ℤ number_at (get_or old.rows k []) (pivot (row_of old.n list)) *ℤ number_at (row_of old.n list) j ≡ by *ℤ number_at (get_or new.rows place []) j

pub cleared_at : (old new : Echelon) (list : List FreeEntry) (k : ℕ) → IsSmallForm old.n old.rows → IsLeftOver old list →
    IsReducedForm old.n (old.rows ++ row_of old.n list ∷ []) new.rows → k < length old.rows → IsClearedAt old new list k
cleared_at old new list k f left reduced within =
    let (made, among, lined) =
    (grown_is old.n (row_of old.n list) left.0.primitive old.rows new.rows f.primitive f.echelon left.1 reduced).row k within in
    let (place, there, is) = place_of new.rows made among in
    record {
      place = place;
      within = there;
      same_pivot = ap pivot is ∙ lined.cleared.same_pivot;
      by = lined.by;
      is = λ j. lined.crossed_is j ∙ ap (λ (row : List ℤ). lined.by *ℤ number_at row j) (sym is);
    }
