-- Bounds in order.
use Rattle.std.proofs.Common.{◌≡◌, ◌≢◌, ℤ, refl, ap, arith, Option, Some, None}
use Rattle.std.proofs.lemmas.Int.{ints, by_lt_z}
use Rattle.max_bounds.specs.Outside.{IsBelowBound}

-- no bound is below itself
pub never_below : (o p : Option ℤ) → o ≡ p → IsBelowBound o p → ⊥
never_below None p same below = below
never_below (Some b) None same below = absurd cc
never_below (Some b) (Some c) same below = let equal : b ≡ c = cc in absurd (omega (arith, ints))

-- of two bounds each below the other there is none
pub not_both : (o p : Option ℤ) → IsBelowBound o p → IsBelowBound p o → ⊥
not_both None p one other = one
not_both (Some b) None one other = other
not_both (Some b) (Some c) one other = absurd (omega (arith, ints))

-- what is below a bound is below each higher one
pub below_higher : (o p q : Option ℤ) → IsBelowBound o p → IsBelowBound p q → IsBelowBound o q
below_higher None p q one other = one
below_higher (Some b) None q one other = absurd other
below_higher (Some b) (Some c) None one other = tt
below_higher (Some b) (Some c) (Some d) one other = omega (arith, ints)

-- bounds are equal, or one is below the other
pub below_or_not : (o p : Option ℤ) → o ≢ p → (IsBelowBound p o → ⊥) → IsBelowBound o p
below_or_not None None apart not = absurd (apart refl)
below_or_not None (Some c) apart not = absurd (not tt)
below_or_not (Some b) None apart not = tt
below_or_not (Some b) (Some c) apart not =
    by_lt_z b c (λ less. less)
    (λ more. by_lt_z c b (λ above. absurd (not above)) (λ under. let same : b ≡ c = omega (arith, ints) in absurd (apart (ap Some same))))
