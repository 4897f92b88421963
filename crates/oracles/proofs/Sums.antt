-- Sums and greatest numbers over rows, one row at a time.
use Rattle.std.proofs.Common.{◌≡◌, ◌≢◌, ℕ, zero, suc, ◌^◌, ◌≤◌, ℤ, pos, negsuc, ◌+ℤ◌, ◌≤ℤ◌, List, [], ◌∷◌, map, refl, ap, arith}
use Rattle.std.specs.Prelude.{unsigned_abs}
use Rattle.std.specs.List.{fold, AllByRecursion}
use Rattle.std.specs.Int.{int_max}
use Rattle.std.proofs.lemmas.Int.{ints, int_max_is}
use Rattle.audit_types.specs.Truth.{number_at, greatest_over}

-- the least number of 64 bits is below all others
pub greatest-start : (w : List ℤ) (rows : List ℕ) → rows ≢ [] → ((r : ℕ) → negsuc 9223372036854775807 ≤ℤ number_at w r) →
    fold int_max (negsuc 9223372036854775807) (map (number_at w) rows) ≡ greatest_over w rows
greatest-start w [] some low = absurd (some refl)
greatest-start w (r ∷ rows) some low =
    let fits = low r in
    let first : int_max (negsuc 9223372036854775807) (number_at w r) ≡ number_at w r =
    omega (arith, ints, int_max_is (negsuc 9223372036854775807) (number_at w r)) in
    ap (λ a. fold int_max a (map (number_at w) rows)) first

-- what a size bounds
pub within : (x : ℤ) (m : ℕ) → unsigned_abs x ≤ m → (x ≤ℤ pos m) × (pos 0 ≤ℤ (x +ℤ pos m))
within (pos n) m h = (omega (arith, ints), omega (arith, ints))
within (negsuc n) m h = (omega (arith, ints), omega (arith, ints))

-- and what bounds a size
pub size_within : (x : ℤ) (m : ℕ) → x ≤ℤ pos m → pos 0 ≤ℤ (x +ℤ pos m) → unsigned_abs x ≤ m
size_within (pos n) m above below = omega (arith, ints)
size_within (negsuc n) m above below = omega (arith, ints)

-- each number is in range, also past the end
pub number_small : (w : List ℤ) (r : ℕ) → AllByRecursion (λ x. unsigned_abs x ≤ 10 ^ 12) w → unsigned_abs (number_at w r) ≤ 10 ^ 12
number_small [] r h = omega arith
number_small (x ∷ w) zero h = h.0
number_small (x ∷ w) (suc r) h = number_small w r h.1
