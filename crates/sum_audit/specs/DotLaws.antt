-- Facts on dot products of which all columns but two give nothing.
use Rattle.std.proofs.Common.{◌≡◌, ◌≢◌, ℕ, zero, suc, ◌<◌, ℤ, pos, List, sym, ap, arith, inl, inr}
use Rattle.std.specs.Prelude.{◌+ℤ◌, ◌*ℤ◌}
use Rattle.std.proofs.lemmas.Int.{ints}
use Rattle.std.proofs.lemmas.Bool.{cases_eq}
use Rattle.audit_types.specs.Truth.{number_at}
use Rattle.audit_types.specs.Totals.{total-single}
use Rattle.sum_audit.specs.Dot.{dot}

-- all columns but two give nothing
pub dot_two : (n : ℕ) (f : ℕ → ℤ) (d : List ℤ) (a b : ℕ) → a < n → b < n → a ≢ b → ((j : ℕ) → j ≢ a → j ≢ b → f j *ℤ number_at d j ≡ pos 0) → dot n f d ≡ f a *ℤ number_at d a +ℤ f b *ℤ number_at d b
dot_two zero f d a b l m apart h = absurd (omega arith)
dot_two (suc n) f d a b l m apart h = elim (cases_eq a n) [
  | inl e ↦
      let front = total-single (λ j. f j *ℤ number_at d j) n b (omega arith) (λ j below other. h j (λ same. omega arith) other) in
      let last = ap (λ k. f k *ℤ number_at d k) e in
      omega (arith, ints)
  | inr a_before ↦ elim (cases_eq b n) [
    | inl e ↦
        let front = total-single (λ j. f j *ℤ number_at d j) n a (omega arith) (λ j below other. h j other (λ same. omega arith)) in
        let last = ap (λ k. f k *ℤ number_at d k) e in
        omega (arith, ints)
    | inr b_before ↦
        let front = dot_two n f d a b (omega arith) (omega arith) apart h in
        let last = h n (λ same. a_before (sym same)) (λ same. b_before (sym same)) in
        omega (arith, ints)
  ]
]
