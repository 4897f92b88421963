-- The entries of a row that are not 0, listed one after the other.
use Rattle.std.proofs.Common.{◌≡◌, ◌≢◌, ℕ, ◌+◌, ◌<◌, cond, ℤ, pos, List, [], ◌∷◌, ◌++◌, length, sym, ap, ◌∙◌, arith, inl, inr}
use Rattle.std.proofs.lemmas.Int.{ints}
use Rattle.std.proofs.lemmas.Bool.{cases_eq, cases_lt}
use Rattle.std.proofs.lemmas.List.{get_or_past}
use Rattle.audit_types.specs.Truth.{number_at, is_zero}
use Rattle.audit_types.specs.Numbers.{zero_or_not, test_of_not_zero}
use Rattle.sum_basis.specs.declared.sparse.FreeEntry.{FreeEntry}
use Rattle.sum_basis.specs.Sparse.{entry_at, IsListed}
use Rattle.sum_basis.proofs.SparseRows.{here, elsewhere, entry_at-append, zero_past, listed_push, listed_to, listed_length}

-- the entries before a place are listed
pub record IsPartlyListed (row : List ℤ) (list : List FreeEntry) (k : ℕ) : Type 0 where
  pub listed : IsListed 0 k list
  pub is : (j : ℕ) → j < k → entry_at list j ≡ number_at row j

-- none at the start
pub none_listed : (row : List ℤ) → IsPartlyListed row [] 0
none_listed row = record { listed = tt; is = λ j h. absurd (omega arith) }

-- an entry that is 0 is left out
pub left_out : (row : List ℤ) (list : List FreeEntry) (k : ℕ) → IsPartlyListed row list k → number_at row k ≡ pos 0 → IsPartlyListed row list (k + 1)
left_out row list k part none = record {
  listed = listed_to 0 k (k + 1) list (omega arith) part.listed;
  is = λ j h. elim (cases_lt j k) [
    | inl before ↦ part.is j before
    | inr at ↦ let same : k ≡ j = omega arith in zero_past 0 k list j part.listed (omega arith) ∙ sym none ∙ ap (number_at row) same
  ];
}

-- any other is listed
pub one_more_listed : (row : List ℤ) (list : List FreeEntry) (k : ℕ) (v : ℤ) → IsPartlyListed row list k → v ≡ number_at row k → v ≢ pos 0 →
    IsPartlyListed row (list ++ record { place = k; value = v } ∷ []) (k + 1)
one_more_listed row list k v part e some = record {
  listed = listed_push 0 k (k + 1) list (record { place = k; value = v }) (omega arith) part.listed (omega arith) (omega arith) some;
  is = λ j h.
      let both = entry_at-append list (record { place = k; value = v } ∷ []) j in
      elim (cases_eq k j) [
        | inl same ↦
            let new = here (record { place = k; value = v }) j same in
            let old = zero_past 0 k list j part.listed (omega arith) in
            let at = ap (number_at row) same in
            omega (arith, ints)
        | inr other ↦
            let new = elsewhere (record { place = k; value = v }) j other in
            let old = part.is j (omega arith) in
            omega (arith, ints)
      ];
}

-- the next entry, if it is not 0
pub next_listed : (row : List ℤ) (list new : List FreeEntry) (k : ℕ) (v : ℤ) → IsPartlyListed row list k → v ≡ number_at row k →
    new ≡ cond (is_zero v) list (list ++ record { place = k; value = v } ∷ []) → IsPartlyListed row new (k + 1)
next_listed row list new k v part e is = elim (zero_or_not v) [
  | inl z ↦ rw (is ∙ ap (λ b. cond b list (list ++ record { place = k; value = v } ∷ [])) (ap is_zero z)) (left_out row list k part (sym e ∙ z))
  | inr some ↦ rw (is ∙ ap (λ b. cond b list (list ++ record { place = k; value = v } ∷ [])) (test_of_not_zero v some))
      (one_more_listed row list k v part e some)
]

-- in the end all are
pub all_listed : (row : List ℤ) (list : List FreeEntry) (k : ℕ) → k ≡ length row → IsPartlyListed row list k → (j : ℕ) → entry_at list j ≡ number_at row j
all_listed row list k e part j = elim (cases_lt j k) [
  | inl before ↦ part.is j before
  | inr past ↦ zero_past 0 k list j part.listed past ∙ sym (get_or_past row j (pos 0) (omega arith))
]

-- there is room for the next
pub room_for : (row : List ℤ) (list : List FreeEntry) (k : ℕ) → k < length row → IsPartlyListed row list k → length list < length row
room_for row list k h part = let few = listed_length 0 k list (omega arith) part.listed in omega arith
