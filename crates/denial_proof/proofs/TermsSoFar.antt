-- A walk over places and their numbers that lists the terms.
use Rattle.std.proofs.Common.{◌≡◌, ℕ, suc, ◌+◌, ◌<◌, true, false, ℤ, pos, List, [], ◌∷◌, ◌++◌, length, drop, get_or, ◌∙◌, add-one, drop-cons, append_assoc}
use Rattle.audit_types.specs.Truth.{is_zero}
use Rattle.denial_proof.specs.declared.proof_parts.Term.{Term}
use Rattle.denial_proof.specs.Numbers.{terms_of}

-- the terms so far, and those of what is left, are those of all
abbrev pub AreTermsSoFar : List ℕ → List ℤ → ℕ → List Term → Type 0
AreTermsSoFar places numbers k terms = terms ++ terms_of (drop k places) (drop k numbers) ≡ terms_of places numbers

module _ (places : List ℕ) (numbers : List ℤ) (k : ℕ) (terms : List Term) (below : k < length places) (one_each : k < length numbers)
    (before : AreTermsSoFar places numbers k terms) where
  spread : terms ++ terms_of (get_or places k 0 ∷ drop (suc k) places) (get_or numbers k (pos 0) ∷ drop (suc k) numbers) ≡ terms_of places numbers
  spread =
      let first : drop k places ≡ get_or places k 0 ∷ drop (suc k) places = drop-cons places k 0 below in
      let second : drop k numbers ≡ get_or numbers k (pos 0) ∷ drop (suc k) numbers = drop-cons numbers k (pos 0) one_each in
      rw (first, second) at before

  -- a number that is 0 makes no term
  pub no_term : is_zero (get_or numbers k (pos 0)) ≡ true → AreTermsSoFar places numbers (k + 1) terms
  no_term zero_there = rw add-one (rw zero_there at spread)

  -- any other does
  pub one_term : is_zero (get_or numbers k (pos 0)) ≡ false → AreTermsSoFar places numbers (k + 1)
      (terms ++ record { place = get_or places k 0; times = get_or numbers k (pos 0) } ∷ [])
  one_term some =
      rw add-one
      (append_assoc terms (record { place = get_or places k 0; times = get_or numbers k (pos 0) } ∷ []) (terms_of (drop (suc k) places) (drop (suc k) numbers))
      ∙ rw some at spread)
