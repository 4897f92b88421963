-- Numbers and their negations.
use Rattle.std.proofs.Common.{◌≡◌, ℕ, zero, suc, ℤ, List, [], ◌∷◌, map, refl, sym, ◌∙◌, ap, arith}
use Rattle.std.specs.Prelude.{neg_ℤ}
use Rattle.std.specs.List.{fold, AllByRecursion}
use Rattle.std.specs.Int.{int_min, int_max}
use Rattle.std.proofs.Math.IntN.{neg_ℤ-neg_ℤ}
use Rattle.std.proofs.lemmas.Int.{ints, int_max_is, int_min_is}
use Rattle.audit_types.specs.Truth.{number_at, greatest_over}
use Rattle.audit_types.specs.Laws.{GreatestIsBoundAndReached}
use Rattle.audit_types.specs.Minima.{least_over, negated, LeastByGreatest, LeastIsBoundAndReached, TwinsNegated}

negated_twice : (w : List ℤ) → negated (negated w) ≡ w
negated_twice [] = refl
negated_twice (z ∷ w) = ap (λ y. y ∷ negated (negated w)) (neg_ℤ-neg_ℤ z) ∙ ap (λ ys. z ∷ ys) (negated_twice w)

number_negated : (w : List ℤ) (r : ℕ) → number_at (negated w) r ≡ neg_ℤ (number_at w r)
number_negated [] r = refl
number_negated (z ∷ w) zero = refl
number_negated (z ∷ w) (suc r) = number_negated w r

numbers_negated : (w : List ℤ) (rows : List ℕ) → map (number_at (negated w)) rows ≡ map neg_ℤ (map (number_at w) rows)
numbers_negated w [] = refl
numbers_negated w (r ∷ rows) =
    ap (λ z. z ∷ map (number_at (negated w)) rows) (number_negated w r) ∙ ap (λ zs. neg_ℤ (number_at w r) ∷ zs) (numbers_negated w rows)

least_of_two : (a b : ℤ) → neg_ℤ (int_min a b) ≡ int_max (neg_ℤ a) (neg_ℤ b)
least_of_two a b = omega (arith, ints, int_min_is a b, int_max_is (neg_ℤ a) (neg_ℤ b))

least_of_all : (a : ℤ) (zs : List ℤ) → neg_ℤ (fold int_min a zs) ≡ fold int_max (neg_ℤ a) (map neg_ℤ zs)
least_of_all a [] = refl
least_of_all a (z ∷ zs) = least_of_all (int_min a z) zs ∙ ap (λ m. fold int_max m (map neg_ℤ zs)) (least_of_two a z)

negated_least : (w : List ℤ) (rows : List ℕ) → neg_ℤ (least_over w rows) ≡ greatest_over (negated w) rows
negated_least w [] = refl
negated_least w (r ∷ rows) =
    least_of_all (number_at w r) (map (number_at w) rows)
    ∙ ap (λ z. fold int_max z (map neg_ℤ (map (number_at w) rows))) (sym (number_negated w r))
    ∙ ap (λ zs. fold int_max (number_at (negated w) r) zs) (sym (numbers_negated w rows))

pub least_by_greatest : LeastByGreatest
least_by_greatest w rows = sym (neg_ℤ-neg_ℤ (least_over w rows)) ∙ ap neg_ℤ (negated_least w rows)

pub bound_and_reached : GreatestIsBoundAndReached → LeastIsBoundAndReached
bound_and_reached greatest w rows some =
    let law = greatest (negated w) rows some in
    let least = least_by_greatest w rows in (
      λ r there. let below = law.0 r there in let here = number_negated w r in omega (arith, ints, below, here, least),
      (law.1.0, law.1.1, let here = number_negated w law.1.0 in let is = law.1.2 in omega (arith, ints, here, is, least)),
    )

same_minima : (w twin : List ℤ) (sets : List (List ℕ)) → AllByRecursion (λ rows. greatest_over twin rows ≡ greatest_over (negated w) rows) sets →
    AllByRecursion (λ rows. least_over (negated twin) rows ≡ least_over w rows) sets
same_minima w twin [] same = tt
same_minima w twin (rows ∷ sets) same = (
  least_by_greatest (negated twin) rows ∙ ap (λ v. neg_ℤ (greatest_over v rows)) (negated_twice twin) ∙ ap neg_ℤ same.0 ∙ sym (least_by_greatest w rows),
  same_minima w twin sets same.1,
)

pub twins_negated : TwinsNegated
twins_negated w twin sets row same differ = (
  same_minima w twin sets same,
  λ is. differ (sym (neg_ℤ-neg_ℤ (number_at twin row)) ∙ ap neg_ℤ (sym (number_negated twin row)) ∙ ap neg_ℤ is ∙ sym (number_negated w row)),
)
