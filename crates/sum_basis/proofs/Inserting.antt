-- A new kept row in its place among the cleared ones.
use Rattle.std.proofs.Common.{◌≡◌, ℕ, zero, suc, ◌<◌, ◌≤◌, pos, List, [], ◌∷◌, ◌++◌, length, take, drop, get_or, refl, sym, ap, ◌∙◌, subst, arith}
use Rattle.std.specs.Prelude.{◌<ℤ◌, insert, remove, unsigned_abs}
use Rattle.std.specs.Vec.{vec_capacity}
use Rattle.std.specs.List.{AllByRecursion}
use Rattle.std.proofs.lemmas.List.{take-append-drop, take-map, drop-map, map-append}
use Rattle.audit_types.specs.Form.{IsReducedForm, pivot, pivot_entry}
use Rattle.sum_basis.specs.declared.sparse.FreeEntry.{FreeEntry}
use Rattle.sum_basis.specs.declared.sparse.SparseRow.{SparseRow}
use Rattle.sum_basis.specs.Elimination.{IsSmallForm, IsZeroAtPivots, AreCleared}
use Rattle.sum_basis.specs.Sparse.{row_of, rows_of, IsListed, entries_of, IsKept, IsNew}
use Rattle.sum_basis.proofs.Clearing.{still_echelon, still_zero}
use Rattle.sum_basis.proofs.Placing.{placed}
use Rattle.sum_basis.proofs.Growing.{placed_is_reduced, placed_is, before_place, after_place}
use Rattle.sum_basis.proofs.SparseRows.{pivot_entry-row_of}
use Rattle.sum_basis.proofs.SparseMultiples.{kept_pivot}

-- an item put in at a place
insert_is : {X : Type 0} (xs : List X) (k : ℕ) (x : X) → insert xs k x ≡ take k xs ++ x ∷ drop k xs
insert_is [] zero x = refl
insert_is [] (suc k) x = refl
insert_is (y ∷ xs) zero x = refl
insert_is (y ∷ xs) (suc k) x = ap (λ l. y ∷ l) (insert_is xs k x)

module _ {X : Type 0} (P : X → Type 0) where
  -- what holds of all items holds with one put in
  pub all_inserted : (xs : List X) (k : ℕ) (x : X) → AllByRecursion P xs → P x → AllByRecursion P (insert xs k x)
  all_inserted xs k x h p = subst (AllByRecursion P) (sym (insert_is xs k x)) (parts xs k h)
    where
      parts : (ys : List X) (i : ℕ) → AllByRecursion P ys → AllByRecursion P (take i ys ++ x ∷ drop i ys)
      parts [] zero g = (p, tt)
      parts [] (suc i) g = (p, tt)
      parts (y ∷ ys) zero g = (p, g)
      parts (y ∷ ys) (suc i) g = (g.0, parts ys i g.1)

-- a list without its first entry
pub record IsWithoutFirst (entries : List FreeEntry) (first : FreeEntry) (rest : List FreeEntry) : Type 0 where
  pub is : entries ≡ first ∷ rest

pub without_first : (entries : List FreeEntry) (first : FreeEntry) (rest : List FreeEntry) → 0 < length entries → first ≡ get_or entries 0 first →
    rest ≡ remove entries 0 → IsWithoutFirst entries first rest
without_first [] first rest some f r = absurd (omega arith)
without_first (e ∷ es) first rest some f r = record { is = ap (λ x. x ∷ es) (sym f) ∙ ap (λ l. first ∷ l) (sym r) }

-- the new row as it is kept
pub kept_new : (n : ℕ) (entries : List FreeEntry) (r : SparseRow) → IsNew n entries → entries ≡ entries_of r →
    AllByRecursion (λ (e : FreeEntry). unsigned_abs e.value ≤ r.most) (entries_of r) → n ≤ vec_capacity r.free → IsKept n r
kept_new n entries r is_new e bounded room =
    let listed = subst (IsListed 0 n) e is_new.listed in
    record {
      listed = listed;
      leading =
          subst (λ z. pos 0 <ℤ z) (ap (λ l. pivot_entry (row_of n l)) e
          ∙ pivot_entry-row_of 0 n (record { place = r.pivot; value = r.head }) r.free.items listed) is_new.primitive.leading;
      bounded = bounded;
      room = room;
    }

-- rows whose pivots are not later, as whole rows
not_later : (n : ℕ) (rows : List SparseRow) (k at : ℕ) → AllByRecursion (IsKept n) rows → AllByRecursion (λ r. r.pivot ≤ at) (take k rows) →
    AllByRecursion (λ row. pivot row ≤ at) (take k (rows_of n rows))
not_later n rows zero at kept h = tt
not_later n [] (suc k) at kept h = tt
not_later n (r ∷ rows) (suc k) at kept h = let here = kept_pivot n r kept.0 in let le = h.0 in (omega arith, not_later n rows k at kept.1 h.1)

-- row k has a later one
later : (n : ℕ) (rows : List SparseRow) (k at : ℕ) → AllByRecursion (IsKept n) rows → ((d : SparseRow) → k < length rows → at < (get_or rows k d).pivot) →
    k < length (rows_of n rows) → at < pivot (get_or (rows_of n rows) k [])
later n [] k at kept h l = absurd (omega arith)
later n (r ∷ rows) zero at kept h l = let here = kept_pivot n r kept.0 in let more = h r (omega arith) in omega arith
later n (r ∷ rows) (suc k) at kept h l = later n rows k at kept.1 (λ d m. h d (omega arith)) (omega arith)

-- the cleared rows with the new one are the reduced form
pub inserted_is_reduced : (n : ℕ) (old made : List SparseRow) (entries : List FreeEntry) (r : SparseRow) (k : ℕ) → IsSmallForm n (rows_of n old)
    → IsNew n entries → IsZeroAtPivots (rows_of n old) (row_of n entries) → AllByRecursion (IsKept n) made
    → AreCleared n (row_of n entries) (rows_of n old) (rows_of n made) → entries ≡ entries_of r → IsKept n r →
    AllByRecursion (λ x. x.pivot ≤ r.pivot) (take k made) → ((d : SparseRow) → k < length made → r.pivot < (get_or made k d).pivot)
    → IsReducedForm n (rows_of n old ++ row_of n entries ∷ []) (rows_of n (insert made k r))
inserted_is_reduced n old made entries r k f is_new z kept cleared e kept_r before after =
    subst (IsReducedForm n (rows_of n old ++ row_of n entries ∷ [])) whole
    (placed_is_reduced n (rows_of n old) (rows_of n made) (row_of n entries) f.primitive f.echelon is_new.primitive z cleared)
  where
    at_pivot : pivot (row_of n entries) ≡ r.pivot
    at_pivot = ap (λ l. pivot (row_of n l)) e ∙ kept_pivot n r kept_r

    made_before : AllByRecursion (λ row. pivot row < pivot (row_of n entries)) (take k (rows_of n made))
    made_before =
        before_place n (row_of n entries) (rows_of n made) k is_new.primitive (still_zero n (row_of n entries) (rows_of n old) (rows_of n made) cleared z)
        (rw at_pivot (not_later n made k r.pivot kept before))

    made_after : AllByRecursion (λ row. pivot (row_of n entries) < pivot row) (drop k (rows_of n made))
    made_after =
        after_place (pivot (row_of n entries)) (rows_of n made) k (still_echelon n (row_of n entries) (rows_of n old) (rows_of n made) cleared z f.echelon)
        (λ l. rw at_pivot (later n made k r.pivot kept after l))

    whole : placed (row_of n entries) (rows_of n made) ≡ rows_of n (insert made k r)
    whole =
        ap (placed (row_of n entries)) (sym (take-append-drop k (rows_of n made)))
        ∙ placed_is (row_of n entries) (take k (rows_of n made)) (drop k (rows_of n made)) made_before made_after
        ∙ ap (λ l. l ++ row_of n entries ∷ drop k (rows_of n made)) (take-map (λ (x : SparseRow). row_of n (entries_of x)) k made)
        ∙ ap (λ l. rows_of n (take k made) ++ row_of n entries ∷ l) (drop-map (λ (x : SparseRow). row_of n (entries_of x)) k made)
        ∙ ap (λ l. rows_of n (take k made) ++ row_of n l ∷ rows_of n (drop k made)) e
        ∙ sym (map-append (λ (x : SparseRow). row_of n (entries_of x)) (take k made) (r ∷ drop k made))
        ∙ ap (rows_of n) (sym (insert_is made k r))
