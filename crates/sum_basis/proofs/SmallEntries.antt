-- How large the entries of a form's rows and of a new list are.
use Rattle.std.proofs.Common.{◌≡◌, ◌≢◌, ℕ, ◌+◌, ◌<◌, ◌≤◌, ◌^◌, cond, Bool, true, false, ℤ, List, [], ◌∷◌, ◌-◌, length, get_or, take, drop, replicate, refl, sym, ap, ◌∙◌, subst, arith, inl, inr}
use Rattle.std.specs.Prelude.{unsigned_abs}
use Rattle.std.specs.List.{AllByRecursion}
use Rattle.std.proofs.lemmas.Bool.{cases_lt}
use Rattle.std.proofs.lemmas.List.{take_all, get_or-take, get_or-replicate, get_or_past, length-replicate, length-take-le}
use Rattle.std.proofs.lemmas.List.Elements.{All-from_recursion, recursion_from_All}
use Rattle.audit_types.specs.Truth.{is_zero}
use Rattle.audit_types.specs.Form.{pivot}
use Rattle.sum_basis.specs.Basis.{Echelon, IsFreeList}
use Rattle.sum_basis.specs.Elimination.{IsSmall, IsSmallForm}
use Rattle.sum_basis.specs.Reach.{IsLeftOverOrNone, AreSmallEntries, one_if, rest_at, times_of}
use Rattle.sum_basis.specs.Sparse.{entry_at, row_of, IsListed}
use Rattle.sum_basis.specs.declared.sparse.FreeEntry.{FreeEntry}
use Rattle.sum_basis.proofs.Sizes.{small_at}
use Rattle.sum_basis.proofs.SparseRows.{own_value, row_within, small_values, number_at-row_of, listed_from}

-- what a list of small entries has anywhere
pub entry_small : (n : ℕ) (es : List FreeEntry) (j : ℕ) → AreSmallEntries n es → unsigned_abs (entry_at es j) ≤ 2 ^ 56
entry_small n es j small =
    subst (λ z. unsigned_abs z ≤ 2 ^ 56) (number_at-row_of 0 n es small.0 j) (small_at (row_of n es) j (row_within (2 ^ 56) n es small.0 small.1))

-- and at the pivot of a new list
pub times_small : (n : ℕ) (new es : List FreeEntry) → AreSmallEntries n es → unsigned_abs (times_of new (entry_at es)) ≤ 2 ^ 56
times_small n [] es small = omega arith
times_small n (e ∷ new) es small = entry_small n es e.place small

-- the entries of a row of the form at free columns
pub free_small : (form : Echelon) (k : ℕ) (es : List FreeEntry) → IsSmallForm form.n form.rows → k < length form.rows →
    IsFreeList form.n form.rows (get_or form.rows k []) es → AreSmallEntries form.n es
free_small form k es f l free = (
  free.listed,
  recursion_from_All (λ (e : FreeEntry). unsigned_abs e.value ≤ 2 ^ 56) es (λ i d within.
      subst (λ z. unsigned_abs z ≤ 2 ^ 56)
      (sym (free.is (get_or es i d).place (All-from_recursion (λ (e : FreeEntry). AllByRecursion (λ other. pivot other ≢ e.place) form.rows) es free.free i d
      within))
      ∙ own_value 0 form.n es i d free.listed within)
      (small_at (get_or form.rows k []) (get_or es i d).place (All-from_recursion IsSmall form.rows f.entries k [] l))),
)

-- those of a new list
pub new_small : (form : Echelon) (new : List FreeEntry) → IsLeftOverOrNone form new → AreSmallEntries form.n new
new_small form new left = elim left [
  | inl none ↦ subst (AreSmallEntries form.n) (sym none) (tt, tt)
  | inr some ↦ (some.0.listed, small_values form.n new some.0.listed some.0.small)
]

-- the rest of a list
pub rest_is : (new : List FreeEntry) (j : ℕ) → entry_at (drop 1 new) j ≡ rest_at new j
rest_is [] j = refl
rest_is (e ∷ new) j = refl

-- as the code takes it
pub rest_taken : (new : List FreeEntry) (j : ℕ) → entry_at (take (length new - 1) (drop 1 new)) j ≡ rest_at new j
rest_taken [] j = refl
rest_taken (e ∷ new) j = ap (λ l. entry_at l j) (take_all (length (e ∷ new) - 1) new (omega arith))

abbrev zeros : ℕ → List ℕ
zeros m = replicate m 0

-- the first of counts that are 0
pub zeros_taken : (n m i : ℕ) → n ≤ m → ◌≡◌ {A = ℕ} (get_or (take n (zeros m)) i 0) 0
zeros_taken n m i within =
    let long : length (zeros m) ≡ m = length-replicate m 0 in
    let taken : length (take n (zeros m)) ≡ n = length-take-le n (zeros m) (omega arith) in
    elim (cases_lt i n) [
      | inl l ↦ get_or-take n (zeros m) i 0 l ∙ get_or-replicate m i 0 0 (omega arith)
      | inr past ↦ get_or_past (take n (zeros m)) i 0 (omega arith)
    ]

pub rest_listed : (n : ℕ) (new : List FreeEntry) → IsListed 0 n new → IsListed 0 n (drop 1 new)
rest_listed n [] h = tt
rest_listed n (e ∷ new) h = listed_from (e.place + 1) 0 n new (omega arith) h.3

-- a number counts once at most
pub one_at_most : (x : ℤ) → one_if x ≤ 1
one_at_most x = go (is_zero x)
  where
    go : (b : Bool) → cond b 0 1 ≤ 1
    go true = omega arith
    go false = omega arith
