-- Kept rows at the pivot of a new one, small ones, and ones with one entry.
use Rattle.std.proofs.Common.{◌≡◌, ◌≢◌, ◌↔◌, ℕ, Bool, nat_eq, ◌+◌, ◌<◌, ℤ, pos, List, [], ◌∷◌, length, get_or, refl, sym, ap, ◌∙◌, subst, arith, inl, inr}
use Rattle.std.specs.Prelude.{IsTrue}
use Rattle.std.specs.List.{AllByRecursion}
use Rattle.std.proofs.lemmas.Int.{ints}
use Rattle.std.proofs.lemmas.Bool.{cases_lt, eqb-true, eq-eqb}
use Rattle.audit_types.specs.Truth.{number_at}
use Rattle.audit_types.specs.Form.{IsPrimitive, pivot, pivot_entry}
use Rattle.audit_types.specs.Numbers.{positive_not_zero}
use Rattle.sum_basis.specs.declared.sparse.FreeEntry.{FreeEntry}
use Rattle.sum_basis.specs.declared.sparse.SparseRow.{SparseRow}
use Rattle.sum_basis.specs.Elimination.{IsCleared, IsLone}
use Rattle.sum_basis.specs.Sparse.{entry_at, row_of, rows_of, IsListed, entries_of, IsKept, IsNew}
use Rattle.std.proofs.lemmas.List.{get_or-map, length-map}
use Rattle.std.proofs.lemmas.List.Elements.{All-from_recursion}
use Rattle.sum_basis.proofs.Clearing.{cleared_already}
use Rattle.sum_basis.proofs.SparseRows.{elsewhere, zero_below, number_at-row_of, pivot-row_of, first_value}
use Rattle.sum_basis.proofs.ListContents.{none}
use Rattle.sum_basis.proofs.ClearedLists.{is_led}

module _ (n : ℕ) (r : SparseRow) (new : List FreeEntry) (kept : IsKept n r) (is_new : IsNew n new) where
  -- a row with an entry at the new pivot has the earlier pivot
  pub stands_earlier : entry_at r.free.items (get_or new 0 none).place ≢ pos 0 → r.pivot < (get_or new 0 none).place
  stands_earlier some = elim (cases_lt r.pivot (get_or new 0 none).place) [
    | inl lt ↦ lt
    | inr le ↦ absurd (some (zero_below (r.pivot + 1) n r.free.items (get_or new 0 none).place kept.listed.3 (omega arith)))
  ]

  -- a row with none, at whose pivot the new row is 0, is cleared as it is
  pub cleared_as_it_is : entry_at new r.pivot ≡ pos 0 → IsPrimitive n (row_of n (entries_of r)) → entry_at r.free.items (get_or new 0 none).place ≡ pos 0 →
      IsCleared n (row_of n new) (row_of n (entries_of r)) (row_of n (entries_of r))
  cleared_as_it_is nothing primitive none_there =
      let led = is_led n new is_new in
      let place = (get_or new 0 none).place in
      let apart : r.pivot ≢ place = λ same. positive_not_zero (pivot_entry (row_of n new)) is_new.primitive.leading
      (ap (number_at (row_of n new)) (led.at_pivot ∙ sym same) ∙ number_at-row_of 0 n new is_new.listed r.pivot ∙ nothing) in
      let first = elsewhere (record { place = r.pivot; value = r.head }) place apart in
      let sum : entry_at (entries_of r) place ≡ pos 0 = omega (arith, ints) in
      cleared_already n (row_of n new) (row_of n (entries_of r)) primitive
      (ap (number_at (row_of n (entries_of r))) led.at_pivot ∙ number_at-row_of 0 n (entries_of r) kept.listed place ∙ sum)

-- a row is lone exactly if it has no entry after its pivot
pub lone_list : (n : ℕ) (e : FreeEntry) (es : List FreeEntry) → IsListed 0 n (e ∷ es) → (length es ≡ 0) ↔ IsLone (row_of n (e ∷ es))
lone_list n e [] h = (
  λ l j other.
      let at = elsewhere e j (λ same. other (sym (pivot-row_of 0 n e [] h ∙ same))) in
      number_at-row_of 0 n (e ∷ []) h j ∙ omega (arith, ints),
  λ lone. refl,
)
lone_list n e (f ∷ es) h = (
  λ l. absurd (omega arith),
  λ lone.
      let later = h.3.0 in
      let first = elsewhere e f.place (λ same. omega arith) in
      let at = first_value (e.place + 1) n f es h.3 in
      let sum : entry_at (e ∷ f ∷ es) f.place ≡ f.value = omega (arith, ints) in
      absurd (h.3.2 (sym sum ∙ sym (number_at-row_of 0 n (e ∷ f ∷ es) h f.place)
      ∙ lone f.place (λ same. let p = pivot-row_of 0 n e (f ∷ es) h in omega arith))),
)

-- the same, by the length that is kept with the list
pub lone_by_length : (n len : ℕ) (e : FreeEntry) (es : List FreeEntry) (b : Bool) → IsListed 0 n (e ∷ es) → len ≡ length es → b ≡ nat_eq len 0 →
    IsTrue b ↔ IsLone (row_of n (e ∷ es))
lone_by_length n len e es b h l is =
    let lone = lone_list n e es h in
    (λ yes. lone.0 (sym l ∙ eqb-true len 0 (subst IsTrue is yes)), λ all. subst IsTrue (sym is) (eq-eqb len 0 (l ∙ lone.1 all)))

-- a list that is not empty, by its first entry and the rest
pub record IsSplit (n : ℕ) (new : List FreeEntry) : Type 0 where
  pub first : FreeEntry
  pub rest : List FreeEntry
  pub is : new ≡ first ∷ rest

pub split : (n : ℕ) (new : List FreeEntry) → 0 < length new → IsSplit n new
split n [] h = absurd (omega arith)
split n (e ∷ es) h = record { first = e; rest = es; is = refl }

-- row k as a whole row
pub row_is : (n : ℕ) (rows : List SparseRow) (k : ℕ) (r : SparseRow) → k < length rows → r ≡ get_or rows k r →
    get_or (rows_of n rows) k [] ≡ row_of n (entries_of r)
row_is n rows k r h is = get_or-map (λ (x : SparseRow). row_of n (entries_of x)) rows k r [] h ∙ ap (λ (x : SparseRow). row_of n (entries_of x)) (sym is)

-- it is there
pub row_within : (n : ℕ) (rows : List SparseRow) (k : ℕ) → k < length rows → k < length (rows_of n rows)
row_within n rows k h = let l = length-map rows (λ (x : SparseRow). row_of n (entries_of x)) in omega arith

-- a row that was cleared, as one of the form
pub cleared_at : (n : ℕ) (new : List ℤ) (rows : List SparseRow) (k : ℕ) (r : SparseRow) (made : List ℤ) → k < length rows → r ≡ get_or rows k r
    → IsCleared n new (row_of n (entries_of r)) made
    → IsCleared n new (get_or (rows_of n rows) k []) made
cleared_at n new rows k r made h is cleared = subst (λ row. IsCleared n new row made) (sym (row_is n rows k r h is)) cleared

-- what holds of each row holds of row k
pub of_row : (P : SparseRow → Type 0) (rows : List SparseRow) (k : ℕ) (r : SparseRow) → k < length rows → r ≡ get_or rows k r → AllByRecursion P rows → P r
of_row P rows k r h is all = subst P (sym is) (All-from_recursion P rows all k r h)

-- the same of whole rows
pub of_whole_row : (P : List ℤ → Type 0) (n : ℕ) (rows : List SparseRow) (k : ℕ) (r : SparseRow) → k < length rows → r ≡ get_or rows k r →
    AllByRecursion P (rows_of n rows) → P (row_of n (entries_of r))
of_whole_row P n rows k r h is all = subst P (row_is n rows k r h is) (All-from_recursion P (rows_of n rows) all k [] (row_within n rows k h))

-- a new row that is 0 at a kept row's pivot has nothing there
pub nothing_at : (n : ℕ) (r : SparseRow) (new : List FreeEntry) → IsKept n r → IsNew n new →
    number_at (row_of n new) (pivot (row_of n (entries_of r))) ≡ pos 0 → entry_at new r.pivot ≡ pos 0
nothing_at n r new kept is_new z =
    sym (number_at-row_of 0 n new is_new.listed r.pivot)
    ∙ ap (number_at (row_of n new)) (sym (pivot-row_of 0 n (record { place = r.pivot; value = r.head }) r.free.items kept.listed)) ∙ z

-- the new row is lone exactly if it has one entry
pub lone_new : (n : ℕ) (new : List FreeEntry) → IsNew n new → (length new ≡ 1) ↔ IsLone (row_of n new)
lone_new n [] is_new = let some = is_new.some in absurd (omega arith)
lone_new n (e ∷ es) is_new = let lone = lone_list n e es is_new.listed in (λ one. lone.0 (omega arith), λ is. let l = lone.1 is in omega arith)
