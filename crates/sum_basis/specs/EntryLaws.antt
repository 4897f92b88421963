-- What a list of entries, and a unit row, have at a column.
use Rattle.std.proofs.Common.{◌≡◌, ◌≢◌, ℕ, ◌+◌, ◌<◌, false, cond, ◌||◌, nat_eq, pos, List, [], ◌∷◌, refl, sym, ap, ◌∙◌, arith, inl, inr}
use Rattle.std.proofs.lemmas.Int.{ints}
use Rattle.std.proofs.lemmas.Bool.{cases_lt, eq-eqb, ne_eqb}
use Rattle.std.proofs.lemmas.List.{get_or_past}
use Rattle.audit_types.specs.Truth.{number_at}
use Rattle.audit_types.specs.RowNumbers.{number_at-set_row, length-set_row}
use Rattle.sum_basis.specs.declared.sparse.FreeEntry.{FreeEntry}
use Rattle.sum_basis.specs.Basis.{unit_row}
use Rattle.sum_basis.specs.Sparse.{entry_at, IsListed}

-- what an entry has at its own place
pub here : (e : FreeEntry) (j : ℕ) → e.place ≡ j → cond (nat_eq e.place j) e.value (pos 0) ≡ e.value
here e j h = ap (λ b. cond b e.value (pos 0)) (eq-eqb e.place j h)

-- and elsewhere
pub elsewhere : (e : FreeEntry) (j : ℕ) → e.place ≢ j → cond (nat_eq e.place j) e.value (pos 0) ≡ pos 0
elsewhere e j h = ap (λ b. cond b e.value (pos 0)) (ne_eqb e.place j h)

-- a list has nothing before its places
pub zero_below : (from n : ℕ) (es : List FreeEntry) (j : ℕ) → IsListed from n es → j < from → entry_at es j ≡ pos 0
zero_below from n [] j h l = refl
zero_below from n (e ∷ es) j h l =
    let at = h.0 in
    let first = elsewhere e j (λ same. omega arith) in
    let rest = zero_below (e.place + 1) n es j h.3 (omega arith) in
    omega (arith, ints)

-- at its first place it has the first value
pub first_value : (from n : ℕ) (e : FreeEntry) (es : List FreeEntry) → IsListed from n (e ∷ es) → entry_at (e ∷ es) e.place ≡ e.value
first_value from n e es h =
    let first = here e e.place refl in
    let rest = zero_below (e.place + 1) n es e.place h.3 (omega arith) in
    omega (arith, ints)

-- a unit row has 1 at its place
pub unit_here : (n i : ℕ) → i < n → number_at (unit_row n i) i ≡ pos 1
unit_here n i h = number_at-set_row n (i ∷ []) i h ∙ ap (λ b. cond (b || false) (pos 1) (pos 0)) (eq-eqb i i refl)

-- and 0 elsewhere
pub unit_elsewhere : (n i j : ℕ) → j ≢ i → number_at (unit_row n i) j ≡ pos 0
unit_elsewhere n i j other = elim (cases_lt j n) [
  | inl lt ↦ number_at-set_row n (i ∷ []) j lt ∙ ap (λ b. cond (b || false) (pos 1) (pos 0)) (ne_eqb i j (λ e. other (sym e)))
  | inr le ↦ get_or_past (unit_row n i) j (pos 0) (let all = length-set_row n (i ∷ []) in omega arith)
]
