-- What stands at each place of a list after one element was put after it or in another's place.
use Rattle.std.proofs.Common.{◌≡◌, ◌≢◌, ℕ, zero, suc, ◌++◌, List, [], ◌∷◌, length, take, Some, refl, ap, arith, inl, inr, ◌⊎◌}
use Rattle.std.specs.Prelude.{slice_get, slice_set}
use Rattle.std.proofs.lemmas.Option.{none-some, same_Some}

-- an element of a list with one more is an old one, with the same elements before it, or the new one
pub old_or_new : {X : Type 0} (xs : List X) (x : X) (i : ℕ) (y : X) → slice_get (xs ++ x ∷ []) i ≡ Some y →
    ((slice_get xs i ≡ Some y) × (take i (xs ++ x ∷ []) ≡ take i xs)) ⊎ ((x ≡ y) × (take i (xs ++ x ∷ []) ≡ xs) × (i ≡ length xs))
old_or_new [] x zero y here = inr (same_Some x y here, refl, refl)
old_or_new [] x (suc i) y here = absurd (none-some y here)
old_or_new (z ∷ xs) x zero y here = inl (here, refl)
old_or_new (z ∷ xs) x (suc i) y here =
    elim (old_or_new xs x i y here) [
      | inl (old, same) ↦ inl (old, ap (λ l. z ∷ l) same)
      | inr (new, same, last) ↦ inr (new, ap (λ l. z ∷ l) same, ap suc last)
    ]

-- an element of a list in which one was replaced is the new one at its place, or an old one elsewhere
pub new_or_other : {X : Type 0} (xs : List X) (i : ℕ) (x : X) (j : ℕ) (y : X) → slice_get (slice_set xs i x) j ≡ Some y →
    ((j ≡ i) × (x ≡ y)) ⊎ ((i ≢ j) × (slice_get xs j ≡ Some y))
new_or_other [] i x j y here = absurd (none-some y here)
new_or_other (z ∷ xs) zero x zero y here = inl (refl, same_Some x y here)
new_or_other (z ∷ xs) zero x (suc j) y here = inr ((λ e. omega arith), here)
new_or_other (z ∷ xs) (suc i) x zero y here = inr ((λ e. omega arith), here)
new_or_other (z ∷ xs) (suc i) x (suc j) y here =
    elim (new_or_other xs i x j y here) [
      | inl (same, new) ↦ inl (ap suc same, new)
      | inr (apart, old) ↦ inr ((λ e. apart (omega arith)), old)
    ]
