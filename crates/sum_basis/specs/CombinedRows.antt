-- Facts on sums and combinations of rows: their numbers, and their lengths.
use Rattle.std.proofs.Common.{◌≡◌, ℕ, zero, suc, ℤ, List, [], ◌∷◌, length, sym, refl, ap, ◌∙◌, arith}
use Rattle.std.specs.Prelude.{◌+ℤ◌, ◌*ℤ◌, neg_ℤ}
use Rattle.std.proofs.lemmas.List.{length-map}
use Rattle.std.proofs.Math.IntN.{+ℤ_idl, +ℤ_idr}
use Rattle.audit_types.specs.Truth.{number_at}
use Rattle.audit_types.specs.PrimitiveLines.{times, number_at-times}
use Rattle.sum_basis.specs.Combination.{both, combine}

-- a sum of rows, at a place
pub number_at-both : (f g : List ℤ) (j : ℕ) → number_at (both f g) j ≡ number_at f j +ℤ number_at g j
number_at-both [] g j = sym (+ℤ_idl (number_at g j))
number_at-both (x ∷ f) [] j = sym (+ℤ_idr (number_at (x ∷ f) j))
number_at-both (x ∷ f) (y ∷ g) zero = refl
number_at-both (x ∷ f) (y ∷ g) (suc j) = number_at-both f g j

-- a sum of rows of one length has it
pub length-both : (n : ℕ) (f g : List ℤ) → length f ≡ n → length g ≡ n → length (both f g) ≡ n
length-both n [] g p q = q
length-both n (x ∷ f) [] p q = p
length-both zero (x ∷ f) (y ∷ g) p q = absurd (omega arith)
length-both (suc n) (x ∷ f) (y ∷ g) p q = ap suc (length-both n f g (omega arith) (omega arith))

-- a combination, at a place
pub number_at-combine : (x : ℤ) (f : List ℤ) (y : ℤ) (g : List ℤ) (j : ℕ) → number_at (combine x f y g) j ≡ x *ℤ number_at f j +ℤ neg_ℤ y *ℤ number_at g j
number_at-combine x f y g j =
    number_at-both (times x f) (times (neg_ℤ y) g) j ∙ ap (λ z. z +ℤ number_at (times (neg_ℤ y) g) j) (number_at-times x f j)
    ∙ ap (λ z. x *ℤ number_at f j +ℤ z) (number_at-times (neg_ℤ y) g j)

-- a combination of rows of one length has it
pub length-combine : (n : ℕ) (x : ℤ) (f : List ℤ) (y : ℤ) (g : List ℤ) → length f ≡ n → length g ≡ n → length (combine x f y g) ≡ n
length-combine n x f y g p q = length-both n (times x f) (times (neg_ℤ y) g) (length-map f (λ z. x *ℤ z) ∙ p) (length-map g (λ z. neg_ℤ y *ℤ z) ∙ q)
