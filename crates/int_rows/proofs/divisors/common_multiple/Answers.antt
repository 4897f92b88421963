use Rattle.std.proofs.Common.{◌≡◌, ℕ, arith}
use Rattle.std.specs.Int.{◌∣◌}
use Rattle.std.proofs.lemmas.Nat.Gcd.{dvd_refl, le_of_dvd}
use Rattle.std.proofs.Math.Nat.{one-dvd, pos_of_dvd_of_pos}
use Rattle.int_rows.specs.Multiples.{least_multiple, least_of_one, least_with_one}
use Rattle.int_rows.proofs.divisors.common_multiple.Goals.{then-a-eq1-via-then-a-eq1, then-a-eq1-via-else-a-eq1+then-a-b}
use Rattle.int_rows.proofs.divisors.common_multiple.Goals as goal

by_one : (a b : ℕ) → a ≡ 1 → a ∣ b
by_one a b e = rw e (one-dvd b)

by_same : (a b : ℕ) → a ≡ b → a ∣ b
by_same a b e = rw e (dvd_refl b)

pub returns-then-a-eq1-clause-multiple : goal.returns-then-a-eq1-clause-multiple
returns-then-a-eq1-clause-multiple c = elim c.then-a-eq1.branch [
  | then-a-eq1-via-then-a-eq1 w ↦ least_of_one c.args.a c.args.b (by_one c.args.a c.args.b w.if-a-eq1.true)
  | then-a-eq1-via-else-a-eq1+then-a-b w ↦ least_of_one c.args.a c.args.b (by_same c.args.a c.args.b w.if-a-b.true)
]

pub returns-then-b-eq1-clause-multiple : goal.returns-then-b-eq1-clause-multiple
returns-then-b-eq1-clause-multiple c = least_with_one c.args.a c.args.b (by_one c.args.b c.args.a c.if-b-eq1.true)

pub overflow_cast-result-2 : goal.overflow_cast-result-2
overflow_cast-result-2 c = let small = le_of_dvd c.requires.a.0 c.common_divisor-divisor.ensures.divisor.0 in record { fits = omega arith }

pub nonzero_div-result : goal.nonzero_div-result
nonzero_div-result c = pos_of_dvd_of_pos c.common_divisor-divisor.ensures.divisor.0 c.requires.a.0

pub returns-clause-multiple : goal.returns-clause-multiple
returns-clause-multiple c = least_multiple _ _ _ c.requires.a.0 c.common_divisor-divisor.ensures.divisor
