-- An average in lowest terms, by its greatest common divisor.
use Rattle.std.proofs.Common.{◌≡◌, ◌≤◌, ◌↔◌, ℕ, ℤ, IsTrue, nat_eq, subst}
use Rattle.std.specs.Prelude.{unsigned_abs}
use Rattle.std.specs.Int.{IsGcd}
use Rattle.std.proofs.lemmas.Bool.{eqb-true, eq-eqb}
use Rattle.std.proofs.lemmas.Nat.Gcd.{same_from_IsGcd}
use Rattle.audit_types.specs.Limits.{most_answer}
use Rattle.line_wire.specs.Reply.{IsAverage}

pub is_average : (num : ℤ) (den g size : ℕ) → IsGcd size den g → size ≡ unsigned_abs num → size ≤ most_answer → 1 ≤ den → den ≤ most_answer →
    IsTrue (nat_eq g 1) ↔ IsAverage num den
is_average num den g size divisor same within positive people = (to, from)
  where
    at_num : (k : ℕ) → IsGcd size den k → IsGcd (unsigned_abs num) den k
    at_num k = subst (λ (n : ℕ). IsGcd n den k) same

    to : IsTrue (nat_eq g 1) → IsAverage num den
    to one = record {
      within = subst (λ (n : ℕ). n ≤ most_answer) same within;
      positive = positive;
      people = people;
      lowest = subst (λ (k : ℕ). IsGcd (unsigned_abs num) den k) (eqb-true g 1 one) (at_num g divisor);
    }

    from : IsAverage num den → IsTrue (nat_eq g 1)
    from average = eq-eqb g 1 (same_from_IsGcd _ _ g 1 (at_num g divisor) average.lowest)
